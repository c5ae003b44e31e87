use Rattle.std.proofs.Common.{◌≡◌, ◌++◌, ◌∷◌, [], true, sym, ap, subst, ◌∙◌, append_assoc}
use Rattle.std.specs.Ordering.{nat_cmp}
use Rattle.std.specs.Cmp.Lexicographic.{slice_cmp}
use Rattle.std.specs.Set.{sorted_merge}
use Rattle.std.specs.List.Sorted.{IsStrictlySortedBy}
use Rattle.std.proofs.lemmas.List.{append-nil}
use Rattle.dw_plan.specs.Joins.{has}
use Rattle.dw_plan.proofs.Merging.{merge_ascends, has_merged}
use Rattle.dw_plan.proofs.joins.merged.Goals as goal

pub loop-item-preserved : goal.loop-item-preserved
loop-item-preserved c =
    let rest = sorted_merge (slice_cmp nat_cmp) true c.take_first.new.left.items c.take_first.new.right.items in
    ap (λ zs. zs ++ rest) c.in_ok-push.ensures.items
    ∙ append_assoc c.loop-item.all.items (c.in-Some.item ∷ []) rest
    ∙ ap (λ zs. c.loop-item.all.items ++ zs) (sym c.in-Some.ensures.taken)
    ∙ c.loop-item.invariant

pub from_ascending-requires : goal.from_ascending-requires
from_ascending-requires c =
    let merge = sorted_merge (slice_cmp nat_cmp) true in
    let none : merge c.loop-item.left.items c.loop-item.right.items ≡ [] = c.in_default.ensures.taken ∙ c.in_default.ensures.none in
    let done : c.loop-item.all.items ≡ merge c.args.left c.args.right =
    sym (append-nil c.loop-item.all.items) ∙ ap (λ zs. c.loop-item.all.items ++ zs) (sym none) ∙ c.loop-item.invariant
    ∙ (λ i. merge ((c.from-left.ensures.0 ∙ c.into_vec.ensures.same) i) ((c.from-right.ensures.0 ∙ c.into_vec-2.ensures.same) i)) in
    subst (IsStrictlySortedBy (slice_cmp nat_cmp)) (sym done) (merge_ascends c.args.left c.args.right c.into_vec.ensures.ascending c.into_vec-2.ensures.ascending)

pub returns : goal.returns
returns c = λ s.
    let merge = sorted_merge (slice_cmp nat_cmp) true in
    let none : merge c.loop-item.left.items c.loop-item.right.items ≡ [] = c.in_default.ensures.taken ∙ c.in_default.ensures.none in
    let done : c.loop-item.all.items ≡ merge c.args.left c.args.right =
    sym (append-nil c.loop-item.all.items) ∙ ap (λ zs. c.loop-item.all.items ++ zs) (sym none) ∙ c.loop-item.invariant
    ∙ (λ i. merge ((c.from-left.ensures.0 ∙ c.into_vec.ensures.same) i) ((c.from-right.ensures.0 ∙ c.into_vec-2.ensures.same) i)) in
    ap (λ zs. has zs s) (c.from_ascending.ensures ∙ done) ∙ has_merged s c.args.left c.args.right
