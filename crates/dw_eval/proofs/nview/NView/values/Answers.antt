use Rattle.std.proofs.Common.{◌≤◌, rules, length, take, ap, sym, subst, ◌∙◌}
use Rattle.std.specs.List.Sorted.{IsPartitionedBy}
use Rattle.std.specs.Ordering.{nat_cmp, is_lt, is_le}
use Rattle.std.specs.Cmp.Lexicographic.{slice_cmp}
use Rattle.std.proofs.lemmas.List.{take_rest}
use Rattle.std.proofs.lemmas.List.Sorted.{IsPartitionPoint-from_clause}
use Rattle.dw_eval.specs.Values.{FieldsAscend, values_of}
use Rattle.dw_eval.proofs.Searches.{Upto, parted_below, parted_upto, ascend_drop, values_there}
use Rattle.dw_eval.proofs.nview.NView.values.Goals as goal

pub returns : goal.returns
returns c =
    let field = c.args.field.now in
    let all = c.as_slice-all.result.now in
    let low = c.partition_point-low.result in
    let count = c.partition_point-count.result in
    let up : FieldsAscend all = subst FieldsAscend (sym c.as_slice-all.ensures.value) c.self.invariant in
    let rest = take_rest all low in
    let below = IsPartitionPoint-from_clause (λ p. is_lt (slice_cmp nat_cmp p.field field)) _ _ c.partition_point-low.ensures.partitioned (parted_below field all up) (λ a r q k. search rules) in
    let upto = IsPartitionPoint-from_clause (λ p. is_le (slice_cmp nat_cmp p.field field)) _ _ c.partition_point-count.ensures.partitioned
    (subst (IsPartitionedBy (λ p. is_le (slice_cmp nat_cmp p.field field))) (sym rest) (parted_upto field _ (ascend_drop low all up))) (λ a r q k. search rules) in
    ap (take count) rest
    ∙ values_there field all low count c.partition_point-low.ensures.bound (subst (λ xs. count ≤ length xs) rest c.partition_point-count.ensures.bound) below (subst (λ xs. Upto field xs count) rest upto)
    ∙ ap (values_of field) (c.as_slice-all.ensures.value ∙ c.self.view_is)
