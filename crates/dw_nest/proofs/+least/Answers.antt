use Rattle.std.proofs.Common.{ℕ, ◌≡◌, ◌≢◌, ◌<◌, ◌+◌, true, false, List, length, refl, ap, sym, subst, ◌∙◌, arith, rules, slice_index_or, Some}
use Rattle.std.specs.List.{list_any}
use Rattle.dw_key.specs.declared.doc_key.DocKey.{DocKey}
use Rattle.dw_nest.specs.declared.leap.Leap.{Leap}
use Rattle.dw_nest.specs.declared.leap.Leap.TheVariants.{Nowhere, Agreed, Ahead, Ended, Unknown}
use Rattle.dw_nest.specs.declared.bound.Bound.{Bound}
use Rattle.dw_nest.specs.declared.tree.Tree.{Tree}
use Rattle.dw_nest.specs.declared.place.Need.{Need}
use Rattle.dw_nest.specs.declared.place.Place.{Place}
use Rattle.dw_nest.specs.Places.{passes}
use Rattle.dw_nest.specs.Search.{Held, IsLeast, ChildrenStand, children_pass, IsLeap, leap_bound, is_over}
use Rattle.dw_nest.specs.Shapes.{and, shape, shapes, value, Alike, Stays, is_enumerable, any_of, leaves}
use Rattle.dw_nest.proofs.Alike.{stays_itself, stays_then, step, waiting, alike_between}
use Rattle.dw_nest.proofs.Choices.{all_at}
use Rattle.dw_nest.proofs.Kept.{others_back, fails_back, not_nowhere, found_key, none_end, onward_after, none_after, onward_from, none_from, smaller_after, smaller_from, sooner_missing, decide}
use Rattle.dw_nest.proofs.Nodes.{of_not, of_and, of_or, any_on}
use Rattle.dw_nest.proofs.Rounds.{round_over, round_on}
use Rattle.dw_nest.proofs.Trees.{whole_not, whole_and, whole_or, back_and, back_or}
use Rattle.dw_nest.proofs.Values.{stuck_child, at_hand}
use Rattle.dw_nest.proofs.Weights.{weight, weight-alike, sum_of, sum_of-part}
use Rattle.dw_nest.proofs.+least.Goals as goal

-- a round that is over after so many children is so after all
over_all : {L : Type 0} (stands : L → List DocKey → Type 0) (keys : L → List DocKey) (place : Place) (before : List (Tree L)) (i n : ℕ) (bound : Bound) (leap : Leap) → is_over leap ≡ true → IsLeap stands keys place before i bound leap → IsLeap stands keys place before n bound leap
over_all stands keys place before i n bound Nowhere o h = absurd (cc)
over_all stands keys place before i n bound (Agreed key) o h = absurd (cc)
over_all stands keys place before i n bound (Ahead key) o h = absurd (cc)
over_all stands keys place before i n bound Ended o h = h
over_all stands keys place before i n bound Unknown o h = h

not_unknown : (leap : Leap) → is_over leap ≡ false → leap ≢ Unknown
not_unknown leap o e = let t = ap is_over e in absurd (cc)

pub search::leap-loop-child-init : goal.search::leap-loop-child-init
search::leap-loop-child-init g t c =
    record {
      unvisited = (refl, λ k d h. refl);
      stays = (refl, λ i h. stays_itself g.L.DocIter.stands g.L.DocIter.keys g.L.DocIter.made (shapes c.args.children.now i));
      round = λ i h. absurd (omega arith);
      goes_on = refl;
    }

pub search::leap-reach-leap-requires : goal.search::leap-reach-leap-requires
search::leap-reach-leap-requires g t c =
    let inv = c.loop-child.invariant in
    let i = c.loop-child.child-index in
    let before = c.args.children.now in
    let at : i < length before = omega (arith, c.loop-child-test.true) in
    let hand = at_hand before c.loop-child.children i c.child-item.result at inv.unvisited in
    let part = sum_of-part (length before) i (λ j. weight (shapes before j)) at in
    let mine : weight (shape (slice_index_or c.loop-child.children i c.child-item.result)) ≡ weight (shapes before i) = ap weight hand in
    let smaller : weight (shape (slice_index_or c.loop-child.children i c.child-item.result)) + 1 < sum_of (length before) (λ j. weight (shapes before j)) + 2 = omega (arith, part, mine) in
    search rules

pub search::leap-returns-then-is_over-clause-leap : goal.search::leap-returns-then-is_over-clause-leap
search::leap-returns-then-is_over-clause-leap g t c =
    let inv = c.loop-child.invariant in
    let i = c.loop-child.child-index in
    let before = c.args.children.now in
    let at : i < length before = omega (arith, c.loop-child-test.true) in
    let hand = at_hand before c.loop-child.children i c.child-item.result at inv.unvisited in
    let round : IsLeap g.L.DocIter.stands g.L.DocIter.keys c.args.place before (i + 1) c.args.bound.now c.reach-leap.result = decide (is_enumerable c.args.place (shapes before i))
    (λ t. let r = c.reach-leap.ensures.reached (ap (is_enumerable c.args.place) hand ∙ t) in
    subst (λ l. IsLeap g.L.DocIter.stands g.L.DocIter.keys c.args.place before (i + 1) c.args.bound.now l) (sym r.1)
    (round_on g.L.DocIter.stands g.L.DocIter.keys c.args.place before c.args.bound.now i c.loop-child.leap r.0 at inv.goes_on inv.round
    (subst (λ s. IsLeast (Alike g.L.DocIter.stands s) (λ lists key. passes c.args.place (value lists key)) (Held g.L.DocIter.keys s) (leap_bound c.loop-child.leap c.args.bound.now) r.0) hand r.2)))
    (λ n. subst (λ l. IsLeap g.L.DocIter.stands g.L.DocIter.keys c.args.place before (i + 1) c.args.bound.now l) (sym (c.reach-leap.ensures.passed_over (ap (is_enumerable c.args.place) hand ∙ n)))
    (round_over g.L.DocIter.stands g.L.DocIter.keys c.args.place before c.args.bound.now i c.loop-child.leap n inv.round)) in
    over_all g.L.DocIter.stands g.L.DocIter.keys c.args.place before (i + 1) (length before) c.args.bound.now c.reach-leap.result (sym c.is_over.ensures ∙ c.if-is_over.true) round

pub search::leap-returns-then-is_over-clause-missing : goal.search::leap-returns-then-is_over-clause-missing
search::leap-returns-then-is_over-clause-missing g t c =
    λ e. stuck_child g.L.DocIter.stuck c.loop-child.children c.loop-child.child-index c.reach-leap.new.child (omega (arith, c.loop-child-test.true, c.loop-child.auto.children)) (c.reach-leap.ensures.missing c.loop-child.invariant.goes_on e)

pub search::leap-returns-then-is_over-clause-stays : goal.search::leap-returns-then-is_over-clause-stays
search::leap-returns-then-is_over-clause-stays g t c =
    let inv = c.loop-child.invariant in
    let i = c.loop-child.child-index in
    let before = c.args.children.now in
    let at : i < length before = omega (arith, c.loop-child-test.true) in
    let hand = at_hand before c.loop-child.children i c.child-item.result at inv.unvisited in
    step g.L.DocIter.stands g.L.DocIter.keys g.L.DocIter.made before c.loop-child.children i _ c.reach-leap.new.child at hand c.reach-leap.ensures.stays inv.stays

pub search::leap-loop-child-preserved : goal.search::leap-loop-child-preserved
search::leap-loop-child-preserved g t c =
    let inv = c.loop-child.invariant in
    let i = c.loop-child.child-index in
    let before = c.args.children.now in
    let at : i < length before = omega (arith, c.loop-child-test.true) in
    let hand = at_hand before c.loop-child.children i c.child-item.result at inv.unvisited in
    let round : IsLeap g.L.DocIter.stands g.L.DocIter.keys c.args.place before (i + 1) c.args.bound.now c.reach-leap.result = decide (is_enumerable c.args.place (shapes before i))
    (λ t. let r = c.reach-leap.ensures.reached (ap (is_enumerable c.args.place) hand ∙ t) in
    subst (λ l. IsLeap g.L.DocIter.stands g.L.DocIter.keys c.args.place before (i + 1) c.args.bound.now l) (sym r.1)
    (round_on g.L.DocIter.stands g.L.DocIter.keys c.args.place before c.args.bound.now i c.loop-child.leap r.0 at inv.goes_on inv.round
    (subst (λ s. IsLeast (Alike g.L.DocIter.stands s) (λ lists key. passes c.args.place (value lists key)) (Held g.L.DocIter.keys s) (leap_bound c.loop-child.leap c.args.bound.now) r.0) hand r.2)))
    (λ n. subst (λ l. IsLeap g.L.DocIter.stands g.L.DocIter.keys c.args.place before (i + 1) c.args.bound.now l) (sym (c.reach-leap.ensures.passed_over (ap (is_enumerable c.args.place) hand ∙ n)))
    (round_over g.L.DocIter.stands g.L.DocIter.keys c.args.place before c.args.bound.now i c.loop-child.leap n inv.round)) in
    record {
      unvisited = waiting before c.loop-child.children i c.reach-leap.new.child inv.unvisited;
      stays = step g.L.DocIter.stands g.L.DocIter.keys g.L.DocIter.made before c.loop-child.children i _ c.reach-leap.new.child at hand c.reach-leap.ensures.stays inv.stays;
      round = round;
      goes_on = sym c.is_over.ensures ∙ c.if-is_over.false;
    }

pub search::leap-returns-clause-leap : goal.search::leap-returns-clause-leap
search::leap-returns-clause-leap g t c =
    let all : c.loop-child.child-index ≡ length c.args.children.now = omega (arith, c.loop-child-test.false) in
    subst (λ n. IsLeap g.L.DocIter.stands g.L.DocIter.keys c.args.place c.args.children.now n c.args.bound.now c.loop-child.leap) all c.loop-child.invariant.round

pub search::leap-returns-clause-missing : goal.search::leap-returns-clause-missing
search::leap-returns-clause-missing g t c =
    λ e. absurd (not_unknown c.loop-child.leap c.loop-child.invariant.goes_on e)

pub search::least_of_all-loop-key-init : goal.search::least_of_all-loop-key-init
search::least_of_all-loop-key-init g t c =
    record {
      stays = (refl, λ i h. stays_itself g.L.DocIter.stands g.L.DocIter.keys g.L.DocIter.made (shapes c.args.children.now i));
      later = λ key h. h;
      none = λ lists f other m n. absurd (cc);
    }

pub search::least_of_all-leap-requires : goal.search::least_of_all-leap-requires
search::least_of_all-leap-requires g t c =
    let same = weight-alike (Stays g.L.DocIter.stands g.L.DocIter.keys g.L.DocIter.made) (and (length c.args.children.now) (shapes c.args.children.now)) (and (length c.loop-key.children) (shapes c.loop-key.children)) c.loop-key.invariant.stays in
    let smaller : sum_of (length c.loop-key.children) (λ i. weight (shapes c.loop-key.children i)) + 2 < sum_of (length c.args.children.now) (λ i. weight (shapes c.args.children.now i)) + 3 = omega (arith, same) in
    search rules

pub search::least_of_all-unreachable-requires : goal.search::least_of_all-unreachable-requires
search::least_of_all-unreachable-requires g t c =
    not_nowhere g.L.DocIter.stands g.L.DocIter.keys g.L.DocIter.made c.args.place c.args.children.now c.loop-key.children c.loop-key.invariant.stays c.requires c.in-Nowhere.ensures.leap

pub search::least_of_all-returns-in-Some-true-clause-found : goal.search::least_of_all-returns-in-Some-true-clause-found
search::least_of_all-returns-in-Some-true-clause-found g t c =
    found_key g.L.DocIter.stands g.L.DocIter.keys g.L.DocIter.made c.args.place c.args.children.now c.loop-key.children c.loop-key.invariant.stays c.args.bound.now c.loop-key.at c.loop-key.invariant.later c.loop-key.invariant.none c.in-Agreed.key c.in-Agreed.ensures.leap
    (others_back g.L.DocIter.stands g.L.DocIter.keys g.L.DocIter.made c.args.place c.loop-key.children c.leap.new.children c.leap.ensures.stays c.in-Agreed.key (c.in-Some-true.ensures.all (ap Some c.in-Some-true.field-0-test)))

pub search::least_of_all-returns-in-Some-true-clause-stays : goal.search::least_of_all-returns-in-Some-true-clause-stays
search::least_of_all-returns-in-Some-true-clause-stays g t c =
    stays_then g.L.DocIter.stands g.L.DocIter.keys g.L.DocIter.made (and (length c.args.children.now) (shapes c.args.children.now)) (and (length c.leap.new.children) (shapes c.leap.new.children)) (and (length c.others_pass.new.children) (shapes c.others_pass.new.children)) (stays_then g.L.DocIter.stands g.L.DocIter.keys g.L.DocIter.made (and (length c.args.children.now) (shapes c.args.children.now)) (and (length c.loop-key.children) (shapes c.loop-key.children)) (and (length c.leap.new.children) (shapes c.leap.new.children)) c.loop-key.invariant.stays c.leap.ensures.stays) c.others_pass.ensures.stays

pub search::least_of_all-loop-key-smaller-in-Some-false : goal.search::least_of_all-loop-key-smaller-in-Some-false
search::least_of_all-loop-key-smaller-in-Some-false g t c =
    smaller_after g.L.DocIter.stands g.L.DocIter.keys g.L.DocIter.made c.args.place c.args.children.now c.loop-key.children c.loop-key.invariant.stays c.args.bound.now c.loop-key.at c.loop-key.invariant.later c.loop-key.invariant.none c.in-Agreed.key c.in-Agreed.ensures.leap

pub search::least_of_all-loop-key-preserved-in-Some-false : goal.search::least_of_all-loop-key-preserved-in-Some-false
search::least_of_all-loop-key-preserved-in-Some-false g t c =
    record {
      stays = stays_then g.L.DocIter.stands g.L.DocIter.keys g.L.DocIter.made (and (length c.args.children.now) (shapes c.args.children.now)) (and (length c.leap.new.children) (shapes c.leap.new.children)) (and (length c.others_pass.new.children) (shapes c.others_pass.new.children)) (stays_then g.L.DocIter.stands g.L.DocIter.keys g.L.DocIter.made (and (length c.args.children.now) (shapes c.args.children.now)) (and (length c.loop-key.children) (shapes c.loop-key.children)) (and (length c.leap.new.children) (shapes c.leap.new.children)) c.loop-key.invariant.stays c.leap.ensures.stays) c.others_pass.ensures.stays;
      later = onward_after g.L.DocIter.stands g.L.DocIter.keys g.L.DocIter.made c.args.place c.args.children.now c.loop-key.children c.loop-key.invariant.stays c.args.bound.now c.loop-key.at c.loop-key.invariant.later c.loop-key.invariant.none c.in-Agreed.key c.in-Agreed.ensures.leap.met;
      none = none_after g.L.DocIter.stands g.L.DocIter.keys g.L.DocIter.made c.args.place c.args.children.now c.loop-key.children c.loop-key.invariant.stays c.args.bound.now c.loop-key.at c.loop-key.invariant.later c.loop-key.invariant.none c.in-Agreed.key c.in-Agreed.ensures.leap
          (fails_back g.L.DocIter.stands g.L.DocIter.keys g.L.DocIter.made c.args.place c.loop-key.children c.leap.new.children c.leap.ensures.stays c.in-Agreed.key (c.in-Some-false.ensures.not_all (ap Some c.in-Some-false.field-0-test)));
    }

pub search::least_of_all-returns-in-None-clause-stays : goal.search::least_of_all-returns-in-None-clause-stays
search::least_of_all-returns-in-None-clause-stays g t c =
    stays_then g.L.DocIter.stands g.L.DocIter.keys g.L.DocIter.made (and (length c.args.children.now) (shapes c.args.children.now)) (and (length c.leap.new.children) (shapes c.leap.new.children)) (and (length c.others_pass.new.children) (shapes c.others_pass.new.children)) (stays_then g.L.DocIter.stands g.L.DocIter.keys g.L.DocIter.made (and (length c.args.children.now) (shapes c.args.children.now)) (and (length c.loop-key.children) (shapes c.loop-key.children)) (and (length c.leap.new.children) (shapes c.leap.new.children)) c.loop-key.invariant.stays c.leap.ensures.stays) c.others_pass.ensures.stays

pub search::least_of_all-loop-key-smaller : goal.search::least_of_all-loop-key-smaller
search::least_of_all-loop-key-smaller g t c =
    smaller_from g.L.DocIter.stands g.L.DocIter.keys g.L.DocIter.made c.args.place c.args.children.now c.loop-key.children c.loop-key.invariant.stays c.args.bound.now c.loop-key.at c.loop-key.invariant.later c.loop-key.invariant.none c.in-Ahead.key c.in-Ahead.ensures.leap

pub search::least_of_all-loop-key-preserved : goal.search::least_of_all-loop-key-preserved
search::least_of_all-loop-key-preserved g t c =
    record {
      stays = stays_then g.L.DocIter.stands g.L.DocIter.keys g.L.DocIter.made (and (length c.args.children.now) (shapes c.args.children.now)) (and (length c.loop-key.children) (shapes c.loop-key.children)) (and (length c.leap.new.children) (shapes c.leap.new.children)) c.loop-key.invariant.stays c.leap.ensures.stays;
      later = onward_from g.L.DocIter.stands g.L.DocIter.keys g.L.DocIter.made c.args.place c.args.children.now c.loop-key.children c.loop-key.invariant.stays c.args.bound.now c.loop-key.at c.loop-key.invariant.later c.loop-key.invariant.none c.in-Ahead.key c.in-Ahead.ensures.leap.met;
      none = none_from g.L.DocIter.stands g.L.DocIter.keys g.L.DocIter.made c.args.place c.args.children.now c.loop-key.children c.loop-key.invariant.stays c.args.bound.now c.loop-key.at c.loop-key.invariant.later c.loop-key.invariant.none c.in-Ahead.key c.in-Ahead.ensures.leap;
    }

pub search::least_of_all-returns-in-Ended-clause-found : goal.search::least_of_all-returns-in-Ended-clause-found
search::least_of_all-returns-in-Ended-clause-found g t c =
    none_end g.L.DocIter.stands g.L.DocIter.keys g.L.DocIter.made c.args.place c.args.children.now c.loop-key.children c.loop-key.invariant.stays c.args.bound.now c.loop-key.at c.loop-key.invariant.later c.loop-key.invariant.none c.in-Ended.ensures.leap

pub search::least_of_all-returns-in-Ended-clause-stays : goal.search::least_of_all-returns-in-Ended-clause-stays
search::least_of_all-returns-in-Ended-clause-stays g t c =
    stays_then g.L.DocIter.stands g.L.DocIter.keys g.L.DocIter.made (and (length c.args.children.now) (shapes c.args.children.now)) (and (length c.loop-key.children) (shapes c.loop-key.children)) (and (length c.leap.new.children) (shapes c.leap.new.children)) c.loop-key.invariant.stays c.leap.ensures.stays

pub search::least_of_all-returns-in-Unknown-clause-stays : goal.search::least_of_all-returns-in-Unknown-clause-stays
search::least_of_all-returns-in-Unknown-clause-stays g t c =
    stays_then g.L.DocIter.stands g.L.DocIter.keys g.L.DocIter.made (and (length c.args.children.now) (shapes c.args.children.now)) (and (length c.loop-key.children) (shapes c.loop-key.children)) (and (length c.leap.new.children) (shapes c.leap.new.children)) c.loop-key.invariant.stays c.leap.ensures.stays

pub search::least_of_any-loop-child-init : goal.search::least_of_any-loop-child-init
search::least_of_any-loop-child-init g t c =
    record {
      unvisited = (refl, λ k d h. refl);
      stays = (refl, λ i h. stays_itself g.L.DocIter.stands g.L.DocIter.keys g.L.DocIter.made (shapes c.args.children.now i));
      so_far = λ lists f other m. refl;
      known = λ e. absurd (cc);
    }

pub search::least_of_any-least_at-requires : goal.search::least_of_any-least_at-requires
search::least_of_any-least_at-requires g t c =
    let inv = c.loop-child.invariant in
    let i = c.loop-child.child-index in
    let before = c.args.children.now in
    let at : i < length before = omega (arith, c.loop-child-test.true) in
    let hand = at_hand before c.loop-child.children i c.child-item.result at inv.unvisited in
    let part = sum_of-part (length before) i (λ j. weight (shapes before j)) at in
    let mine : weight (shape (slice_index_or c.loop-child.children i c.child-item.result)) ≡ weight (shapes before i) = ap weight hand in
    let smaller : weight (shape (slice_index_or c.loop-child.children i c.child-item.result)) < sum_of (length before) (λ j. weight (shapes before j)) + 3 = omega (arith, part, mine) in
    let can : is_enumerable c.args.place (shape (slice_index_or c.loop-child.children i c.child-item.result)) ≡ true = ap (is_enumerable c.args.place) hand ∙ all_at (length before) i (λ j. is_enumerable c.args.place (shapes before j)) c.requires at in
    search rules

pub search::least_of_any-returns-in-Missing-clause-missing : goal.search::least_of_any-returns-in-Missing-clause-missing
search::least_of_any-returns-in-Missing-clause-missing g t c =
    λ e. stuck_child g.L.DocIter.stuck c.loop-child.children c.loop-child.child-index c.least_at.new.self (omega (arith, c.loop-child-test.true, c.loop-child.auto.children))
    (c.least_at.ensures.missing (sooner_missing c.loop-child.least c.least_at.result (sym c.sooner-least.ensures ∙ c.in-Missing.is) c.loop-child.invariant.known))

pub search::least_of_any-returns-in-Missing-clause-stays : goal.search::least_of_any-returns-in-Missing-clause-stays
search::least_of_any-returns-in-Missing-clause-stays g t c =
    let inv = c.loop-child.invariant in
    let i = c.loop-child.child-index in
    let before = c.args.children.now in
    let at : i < length before = omega (arith, c.loop-child-test.true) in
    let hand = at_hand before c.loop-child.children i c.child-item.result at inv.unvisited in
    step g.L.DocIter.stands g.L.DocIter.keys g.L.DocIter.made before c.loop-child.children i _ c.least_at.new.self at hand c.least_at.ensures.stays inv.stays

pub search::least_of_any-loop-child-preserved : goal.search::least_of_any-loop-child-preserved
search::least_of_any-loop-child-preserved g t c =
    let inv = c.loop-child.invariant in
    let i = c.loop-child.child-index in
    let before = c.args.children.now in
    let at : i < length before = omega (arith, c.loop-child-test.true) in
    let hand = at_hand before c.loop-child.children i c.child-item.result at inv.unvisited in
    record {
      unvisited = waiting before c.loop-child.children i c.least_at.new.self inv.unvisited;
      stays = step g.L.DocIter.stands g.L.DocIter.keys g.L.DocIter.made before c.loop-child.children i _ c.least_at.new.self at hand c.least_at.ensures.stays inv.stays;
      so_far = subst (λ f. IsLeast (ChildrenStand g.L.DocIter.stands before) (λ lists key. any_of (i + 1) (λ j. passes c.args.place (value (lists j) key))) (Held g.L.DocIter.keys (and (length before) (shapes before))) c.args.bound.now f) (sym c.sooner-least.ensures)
          (any_on g.L.DocIter.stands g.L.DocIter.keys c.args.place before c.args.bound.now i at c.loop-child.least c.least_at.result inv.so_far
          (subst (λ s. IsLeast (Alike g.L.DocIter.stands s) (λ lists key. passes c.args.place (value lists key)) (Held g.L.DocIter.keys s) c.args.bound.now c.least_at.result) hand c.least_at.ensures.found));
      known = c.in_default.not-Missing;
    }

pub search::least_of_any-returns-clause-found : goal.search::least_of_any-returns-clause-found
search::least_of_any-returns-clause-found g t c =
    let all : c.loop-child.child-index ≡ length c.args.children.now = omega (arith, c.loop-child-test.false) in
    subst (λ n. IsLeast (ChildrenStand g.L.DocIter.stands c.args.children.now) (λ lists key. any_of n (λ j. passes c.args.place (value (lists j) key))) (Held g.L.DocIter.keys (and (length c.args.children.now) (shapes c.args.children.now))) c.args.bound.now c.loop-child.least) all c.loop-child.invariant.so_far

pub search::least_of_any-returns-clause-missing : goal.search::least_of_any-returns-clause-missing
search::least_of_any-returns-clause-missing g t c =
    λ e. absurd (c.loop-child.invariant.known e)

pub search::reach-returns-then-not-enumerable_at-clause-stays : goal.search::reach-returns-then-not-enumerable_at-clause-stays
search::reach-returns-then-not-enumerable_at-clause-stays g t c =
    stays_itself g.L.DocIter.stands g.L.DocIter.keys g.L.DocIter.made (shape c.args.child.now)

pub tree::Tree::least_at-returns-in-Not-clause-found : goal.tree::Tree::least_at-returns-in-Not-clause-found
tree::Tree::least_at-returns-in-Not-clause-found g t c =
    let e = whole_not c.args.self.now c.in-Not.child c.deref_mut.result.now c.in-Not.ensures.value c.deref_mut.ensures.value in
    subst (λ s. IsLeast (Alike g.L.DocIter.stands s) (λ lists key. passes c.args.place (value lists key)) (Held g.L.DocIter.keys s) c.args.bound.now c.least_at-found.result) (sym e)
    (of_not g.L.DocIter.stands g.L.DocIter.keys c.args.place c.args.bound.now c.least_at-found.result (shape c.deref_mut.result.now)
    (subst (λ (p : Place). IsLeast (Alike g.L.DocIter.stands (shape c.deref_mut.result.now)) (λ lists key. passes p (value lists key)) (Held g.L.DocIter.keys (shape c.deref_mut.result.now)) c.args.bound.now c.least_at-found.result) c.below_not.ensures c.least_at-found.ensures.found))

pub tree::Tree::least_at-returns-in-And-clause-found : goal.tree::Tree::least_at-returns-in-And-clause-found
tree::Tree::least_at-returns-in-And-clause-found g t c =
    let e = whole_and c.args.self.now c.in-And.children c.deref_mut-in-And.result.now c.in-And.ensures.value c.deref_mut-in-And.ensures.value in
    subst (λ s. IsLeast (Alike g.L.DocIter.stands s) (λ lists key. passes c.args.place (value lists key)) (Held g.L.DocIter.keys s) c.args.bound.now c.least_among-found.result) (sym e)
    (of_and g.L.DocIter.stands g.L.DocIter.keys c.args.place c.args.bound.now c.least_among-found.result c.deref_mut-in-And.result.now
    (subst (λ (need : Need). IsLeast (ChildrenStand g.L.DocIter.stands c.deref_mut-in-And.result.now) (children_pass need c.args.place (length c.deref_mut-in-And.result.now)) (Held g.L.DocIter.keys (and (length c.deref_mut-in-And.result.now) (shapes c.deref_mut-in-And.result.now))) c.args.bound.now c.least_among-found.result) c.need_of_and.ensures c.least_among-found.ensures.found))

pub tree::Tree::least_at-returns-in-And-clause-missing : goal.tree::Tree::least_at-returns-in-And-clause-missing
tree::Tree::least_at-returns-in-And-clause-missing g t c =
    let b = back_and c.in-And.children c.least_among-found.new.children (c.least_among-found.auto.children ∙ c.deref_mut-in-And.ensures.len) in
    λ m. subst (λ s. list_any g.L.DocIter.stuck (leaves s) ≡ true) (sym b) (c.least_among-found.ensures.missing m)

pub tree::Tree::least_at-returns-in-And-clause-stays : goal.tree::Tree::least_at-returns-in-And-clause-stays
tree::Tree::least_at-returns-in-And-clause-stays g t c =
    let e = whole_and c.args.self.now c.in-And.children c.deref_mut-in-And.result.now c.in-And.ensures.value c.deref_mut-in-And.ensures.value in
    let b = back_and c.in-And.children c.least_among-found.new.children (c.least_among-found.auto.children ∙ c.deref_mut-in-And.ensures.len) in
    alike_between (Stays g.L.DocIter.stands g.L.DocIter.keys g.L.DocIter.made) _ _ _ _ (sym e) (sym b) c.least_among-found.ensures.stays

pub tree::Tree::least_at-returns-in-Or-clause-found : goal.tree::Tree::least_at-returns-in-Or-clause-found
tree::Tree::least_at-returns-in-Or-clause-found g t c =
    let e = whole_or c.args.self.now c.in-Or.children c.deref_mut-in-Or.result.now c.in-Or.ensures.value c.deref_mut-in-Or.ensures.value in
    subst (λ s. IsLeast (Alike g.L.DocIter.stands s) (λ lists key. passes c.args.place (value lists key)) (Held g.L.DocIter.keys s) c.args.bound.now c.least_among-found-in-Or.result) (sym e)
    (of_or g.L.DocIter.stands g.L.DocIter.keys c.args.place c.args.bound.now c.least_among-found-in-Or.result c.deref_mut-in-Or.result.now
    (subst (λ (need : Need). IsLeast (ChildrenStand g.L.DocIter.stands c.deref_mut-in-Or.result.now) (children_pass need c.args.place (length c.deref_mut-in-Or.result.now)) (Held g.L.DocIter.keys (and (length c.deref_mut-in-Or.result.now) (shapes c.deref_mut-in-Or.result.now))) c.args.bound.now c.least_among-found-in-Or.result) c.need_of_or.ensures c.least_among-found-in-Or.ensures.found))

pub tree::Tree::least_at-returns-in-Or-clause-missing : goal.tree::Tree::least_at-returns-in-Or-clause-missing
tree::Tree::least_at-returns-in-Or-clause-missing g t c =
    let b = back_or c.in-Or.children c.least_among-found-in-Or.new.children (c.least_among-found-in-Or.auto.children ∙ c.deref_mut-in-Or.ensures.len) in
    λ m. subst (λ s. list_any g.L.DocIter.stuck (leaves s) ≡ true) (sym b) (c.least_among-found-in-Or.ensures.missing m)

pub tree::Tree::least_at-returns-in-Or-clause-stays : goal.tree::Tree::least_at-returns-in-Or-clause-stays
tree::Tree::least_at-returns-in-Or-clause-stays g t c =
    let e = whole_or c.args.self.now c.in-Or.children c.deref_mut-in-Or.result.now c.in-Or.ensures.value c.deref_mut-in-Or.ensures.value in
    let b = back_or c.in-Or.children c.least_among-found-in-Or.new.children (c.least_among-found-in-Or.auto.children ∙ c.deref_mut-in-Or.ensures.len) in
    alike_between (Stays g.L.DocIter.stands g.L.DocIter.keys g.L.DocIter.made) _ _ _ _ (sym e) (sym b) c.least_among-found-in-Or.ensures.stays
