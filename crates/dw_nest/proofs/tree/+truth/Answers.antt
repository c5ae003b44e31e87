use Rattle.std.proofs.Common.{◌≡◌, ◌<◌, ap, sym, subst, ◌∙◌, refl, arith, length, List, true, IfSome, IfNone}
use Rattle.std.specs.List.{list_any}
use Rattle.dw_key.specs.declared.doc_key.DocKey.{DocKey}
use Rattle.dw_nest.specs.Kleene.{least_of, most_of, least_of_two, most_of_two}
use Rattle.dw_nest.specs.Shapes.{Shape, shapes, value, Alike, Stays, leaves}
use Rattle.dw_nest.proofs.Alike.{stays_itself, step, waiting, alike_between}
use Rattle.dw_nest.proofs.Trees.{whole_and, whole_or, back_and, back_or}
use Rattle.dw_nest.proofs.Values.{and_value, or_value, least_more, most_more, stuck_child, turn, at_hand}
use Rattle.dw_nest.proofs.tree.+truth.Goals as goal

pub least_truth-loop-child-init : goal.least_truth-loop-child-init
least_truth-loop-child-init g t c = record {
  unvisited = (refl, λ k d h. refl);
  stays = (refl, λ i h. stays_itself g.L.DocIter.stands g.L.DocIter.keys g.L.DocIter.made (shapes c.args.children.now i));
  so_far = λ lists h. refl;
}

pub least_truth-loop-child-preserved : goal.least_truth-loop-child-preserved
least_truth-loop-child-preserved g t c =
    let inv = c.loop-child.invariant in
    let i = c.loop-child.child-index in
    let at : i < length c.args.children.now = omega (arith, c.loop-child-test.true) in
    record {
      unvisited = waiting c.args.children.now c.loop-child.children i c.value_at.new.self inv.unvisited;
      stays = step g.L.DocIter.stands g.L.DocIter.keys g.L.DocIter.made c.args.children.now c.loop-child.children i _ c.value_at.new.self at (at_hand c.args.children.now c.loop-child.children i c.child-item.result at inv.unvisited) c.value_at.ensures.stays inv.stays;
      so_far = turn g.L.DocIter.stands least_of least_of_two least_more c.args.key.now c.args.children.now c.loop-child.children i c.child-item.result c.loop-child.least c.in-Some.truth c.lower-least.result at inv.unvisited inv.so_far c.in-Some.ensures.value c.lower-least.ensures;
    }

pub least_truth-returns-in-None-clause-none : goal.least_truth-returns-in-None-clause-none
least_truth-returns-in-None-clause-none g t c =
    stuck_child g.L.DocIter.stuck c.loop-child.children c.loop-child.child-index c.value_at.new.self (omega (arith, c.loop-child-test.true, c.loop-child.auto.children)) c.in-None.ensures.none

pub least_truth-returns-in-None-clause-stays : goal.least_truth-returns-in-None-clause-stays
least_truth-returns-in-None-clause-stays g t c =
    let inv = c.loop-child.invariant in
    let i = c.loop-child.child-index in
    let at : i < length c.args.children.now = omega (arith, c.loop-child-test.true) in
    step g.L.DocIter.stands g.L.DocIter.keys g.L.DocIter.made c.args.children.now c.loop-child.children i _ c.value_at.new.self at (at_hand c.args.children.now c.loop-child.children i c.child-item.result at inv.unvisited) c.value_at.ensures.stays inv.stays

pub most_truth-loop-child-init : goal.most_truth-loop-child-init
most_truth-loop-child-init g t c = record {
  unvisited = (refl, λ k d h. refl);
  stays = (refl, λ i h. stays_itself g.L.DocIter.stands g.L.DocIter.keys g.L.DocIter.made (shapes c.args.children.now i));
  so_far = λ lists h. refl;
}

pub most_truth-loop-child-preserved : goal.most_truth-loop-child-preserved
most_truth-loop-child-preserved g t c =
    let inv = c.loop-child.invariant in
    let i = c.loop-child.child-index in
    let at : i < length c.args.children.now = omega (arith, c.loop-child-test.true) in
    record {
      unvisited = waiting c.args.children.now c.loop-child.children i c.value_at.new.self inv.unvisited;
      stays = step g.L.DocIter.stands g.L.DocIter.keys g.L.DocIter.made c.args.children.now c.loop-child.children i _ c.value_at.new.self at (at_hand c.args.children.now c.loop-child.children i c.child-item.result at inv.unvisited) c.value_at.ensures.stays inv.stays;
      so_far = turn g.L.DocIter.stands most_of most_of_two most_more c.args.key.now c.args.children.now c.loop-child.children i c.child-item.result c.loop-child.most c.in-Some.truth c.higher-most.result at inv.unvisited inv.so_far c.in-Some.ensures.value c.higher-most.ensures;
    }

pub most_truth-returns-in-None-clause-none : goal.most_truth-returns-in-None-clause-none
most_truth-returns-in-None-clause-none g t c =
    stuck_child g.L.DocIter.stuck c.loop-child.children c.loop-child.child-index c.value_at.new.self (omega (arith, c.loop-child-test.true, c.loop-child.auto.children)) c.in-None.ensures.none

pub most_truth-returns-in-None-clause-stays : goal.most_truth-returns-in-None-clause-stays
most_truth-returns-in-None-clause-stays g t c =
    let inv = c.loop-child.invariant in
    let i = c.loop-child.child-index in
    let at : i < length c.args.children.now = omega (arith, c.loop-child-test.true) in
    step g.L.DocIter.stands g.L.DocIter.keys g.L.DocIter.made c.args.children.now c.loop-child.children i _ c.value_at.new.self at (at_hand c.args.children.now c.loop-child.children i c.child-item.result at inv.unvisited) c.value_at.ensures.stays inv.stays

pub Tree::value_at-returns-in-And-clause-value : goal.Tree::value_at-returns-in-And-clause-value
Tree::value_at-returns-in-And-clause-value g t c =
    let e = whole_and c.args.self.now c.in-And.children c.deref_mut-in-And.result.now c.in-And.ensures.value c.deref_mut-in-And.ensures.value in
    subst (λ s. IfSome c.least_truth-truth.result (λ truth. (lists : Shape (List DocKey)) → Alike g.L.DocIter.stands s lists → truth ≡ value lists c.args.key.now)) (sym e) c.least_truth-truth.ensures.value

pub Tree::value_at-returns-in-And-clause-none : goal.Tree::value_at-returns-in-And-clause-none
Tree::value_at-returns-in-And-clause-none g t c =
    subst (λ s. IfNone c.least_truth-truth.result (list_any g.L.DocIter.stuck (leaves s) ≡ true)) (sym (back_and c.in-And.children c.least_truth-truth.new.children (c.least_truth-truth.auto.children ∙ c.deref_mut-in-And.ensures.len))) c.least_truth-truth.ensures.none

pub Tree::value_at-returns-in-And-clause-stays : goal.Tree::value_at-returns-in-And-clause-stays
Tree::value_at-returns-in-And-clause-stays g t c =
    let e = whole_and c.args.self.now c.in-And.children c.deref_mut-in-And.result.now c.in-And.ensures.value c.deref_mut-in-And.ensures.value in
    alike_between (Stays g.L.DocIter.stands g.L.DocIter.keys g.L.DocIter.made) _ _ _ _ (sym e) (sym (back_and c.in-And.children c.least_truth-truth.new.children (c.least_truth-truth.auto.children ∙ c.deref_mut-in-And.ensures.len))) c.least_truth-truth.ensures.stays

pub Tree::value_at-returns-in-Or-clause-value : goal.Tree::value_at-returns-in-Or-clause-value
Tree::value_at-returns-in-Or-clause-value g t c =
    let e = whole_or c.args.self.now c.in-Or.children c.deref_mut-in-Or.result.now c.in-Or.ensures.value c.deref_mut-in-Or.ensures.value in
    subst (λ s. IfSome c.most_truth-truth.result (λ truth. (lists : Shape (List DocKey)) → Alike g.L.DocIter.stands s lists → truth ≡ value lists c.args.key.now)) (sym e) c.most_truth-truth.ensures.value

pub Tree::value_at-returns-in-Or-clause-none : goal.Tree::value_at-returns-in-Or-clause-none
Tree::value_at-returns-in-Or-clause-none g t c =
    subst (λ s. IfNone c.most_truth-truth.result (list_any g.L.DocIter.stuck (leaves s) ≡ true)) (sym (back_or c.in-Or.children c.most_truth-truth.new.children (c.most_truth-truth.auto.children ∙ c.deref_mut-in-Or.ensures.len))) c.most_truth-truth.ensures.none

pub Tree::value_at-returns-in-Or-clause-stays : goal.Tree::value_at-returns-in-Or-clause-stays
Tree::value_at-returns-in-Or-clause-stays g t c =
    let e = whole_or c.args.self.now c.in-Or.children c.deref_mut-in-Or.result.now c.in-Or.ensures.value c.deref_mut-in-Or.ensures.value in
    alike_between (Stays g.L.DocIter.stands g.L.DocIter.keys g.L.DocIter.made) _ _ _ _ (sym e) (sym (back_or c.in-Or.children c.most_truth-truth.new.children (c.most_truth-truth.auto.children ∙ c.deref_mut-in-Or.ensures.len))) c.most_truth-truth.ensures.stays

pub least_truth-returns-clause-value : goal.least_truth-returns-clause-value
least_truth-returns-clause-value g t c =
    let all : c.loop-child.child-index ≡ length c.args.children.now = omega (arith, c.loop-child-test.false) in
    and_value g.L.DocIter.stands (length c.args.children.now) (shapes c.args.children.now) c.args.key.now c.loop-child.least
    (λ lists h. c.loop-child.invariant.so_far lists (λ i k. h i (omega arith)) ∙ ap (λ n. least_of n (λ i. value (lists i) c.args.key.now)) all)

pub most_truth-returns-clause-value : goal.most_truth-returns-clause-value
most_truth-returns-clause-value g t c =
    let all : c.loop-child.child-index ≡ length c.args.children.now = omega (arith, c.loop-child-test.false) in
    or_value g.L.DocIter.stands (length c.args.children.now) (shapes c.args.children.now) c.args.key.now c.loop-child.most
    (λ lists h. c.loop-child.invariant.so_far lists (λ i k. h i (omega arith)) ∙ ap (λ n. most_of n (λ i. value (lists i) c.args.key.now)) all)
