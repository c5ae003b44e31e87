use Rattle.std.proofs.Common.{◌≡◌, ◌<◌, ap, sym, subst, ◌∙◌, refl, arith, length, Bool, true, false, Some}
use Rattle.std.proofs.Math.Decide.{dec_lt}
use Rattle.std.proofs.Math.Logic.{dite}
use Rattle.dw_nest.specs.Places.{passes}
use Rattle.dw_nest.specs.Shapes.{shapes, value, Alike, is_enumerable}
use Rattle.dw_nest.proofs.Alike.{stays_itself, step, waiting}
use Rattle.dw_nest.proofs.Choices.{all_not}
use Rattle.dw_nest.proofs.Values.{stuck_child, at_hand}
use Rattle.dw_nest.proofs.search.others_pass.Goals as goal

pub loop-child-init : goal.loop-child-init
loop-child-init g c = record {
  unvisited = (refl, λ k d h. refl);
  stays = (refl, λ i h. stays_itself g.L.DocIter.stands g.L.DocIter.keys g.L.DocIter.made (shapes c.args.children.now i));
  so_far = λ lists h i l. absurd (omega arith);
}

refuted : (b x : Bool) → x ≡ false → (b ≡ true → Some x ≡ Some true) → b ≡ false
refuted true x e h = absurd (let k = h refl in cc)
refuted false x e h = refl

pub loop-child-preserved : goal.loop-child-preserved
loop-child-preserved g c =
    let inv = c.loop-child.invariant in
    let i = c.loop-child.child-index in
    let before = c.args.children.now in
    let at : i < length before = omega (arith, c.loop-child-test.true) in
    let hand = at_hand before c.loop-child.children i c.child-item.result at inv.unvisited in
    record {
      unvisited = waiting before c.loop-child.children i c.other_passes.new.child inv.unvisited;
      stays = step g.L.DocIter.stands g.L.DocIter.keys g.L.DocIter.made before c.loop-child.children i _ c.other_passes.new.child at hand c.other_passes.ensures.stays inv.stays;
      so_far = λ lists h j l e. dite (dec_lt j i) (λ m. inv.so_far lists h j m e) (λ no.
          let same : i ≡ j = omega arith in
          subst (λ k. is_enumerable c.args.place (shapes before k) ≡ false → passes c.args.place (value (lists k) c.args.key.now) ≡ true) same
          (λ f. sym (c.in-Some-true.ensures.other (ap (is_enumerable c.args.place) hand ∙ f) (lists i) (subst (λ s. Alike g.L.DocIter.stands s (lists i)) (sym hand) (h i at))) ∙ c.in-Some-true.field-0-test) e);
    }

pub returns-in-Some-false-clause-not_all : goal.returns-in-Some-false-clause-not_all
returns-in-Some-false-clause-not_all g c = λ _ lists h.
    let inv = c.loop-child.invariant in
    let i = c.loop-child.child-index in
    let before = c.args.children.now in
    let at : i < length before = omega (arith, c.loop-child-test.true) in
    let hand = at_hand before c.loop-child.children i c.child-item.result at inv.unvisited in
    all_not (length before) i (λ k. passes c.args.place (value (lists k) c.args.key.now)) at
    (sym (c.in-Some-false.ensures.other (refuted _ c.in-Some-false.field-0 c.in-Some-false.field-0-test c.in-Some-false.ensures.enumerated) (lists i) (subst (λ s. Alike g.L.DocIter.stands s (lists i)) (sym hand) (h i at))) ∙ c.in-Some-false.field-0-test)

pub returns-in-Some-false-clause-stays : goal.returns-in-Some-false-clause-stays
returns-in-Some-false-clause-stays g c =
    let inv = c.loop-child.invariant in
    let i = c.loop-child.child-index in
    let at : i < length c.args.children.now = omega (arith, c.loop-child-test.true) in
    step g.L.DocIter.stands g.L.DocIter.keys g.L.DocIter.made c.args.children.now c.loop-child.children i _ c.other_passes.new.child at (at_hand c.args.children.now c.loop-child.children i c.child-item.result at inv.unvisited) c.other_passes.ensures.stays inv.stays

pub returns-in-None-clause-none : goal.returns-in-None-clause-none
returns-in-None-clause-none g c = λ _.
    stuck_child g.L.DocIter.stuck c.loop-child.children c.loop-child.child-index c.other_passes.new.child (omega (arith, c.loop-child-test.true, c.loop-child.auto.children)) (c.in-None.ensures.none refl)

pub returns-in-None-clause-stays : goal.returns-in-None-clause-stays
returns-in-None-clause-stays g c =
    let inv = c.loop-child.invariant in
    let i = c.loop-child.child-index in
    let at : i < length c.args.children.now = omega (arith, c.loop-child-test.true) in
    step g.L.DocIter.stands g.L.DocIter.keys g.L.DocIter.made c.args.children.now c.loop-child.children i _ c.other_passes.new.child at (at_hand c.args.children.now c.loop-child.children i c.child-item.result at inv.unvisited) c.other_passes.ensures.stays inv.stays
