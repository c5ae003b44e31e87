use Rattle.std.proofs.Common.{◌≡◌, ◌∙◌, sym, ap, subst, rules}
use Rattle.std.specs.Prelude.{slice_get}
use Rattle.std.specs.List.Sorted.{IsStrictlySortedBy}
use Rattle.std.proofs.lemmas.List.Sorted.{IsPartitionPoint-from_clause}
use Rattle.dw_key.specs.DocKeys.{doc_key_cmp}
use Rattle.dw_nest.specs.Bounds.{rest}
use Rattle.dw_iter.proofs.SetTops.{misses, ascend, set_parted, first_at_point}
use Rattle.dw_iter.proofs.set.SetLeaf.first.Goals as goal

pub returns : goal.returns
returns c =
    let keys = c.as_slice-keys.result.now in
    let bound = c.args.self.now.bound in
    let at = c.partition_point-at.result in
    let up = ascend keys (subst (IsStrictlySortedBy doc_key_cmp) (sym c.as_slice-keys.ensures.same) c.as_slice-keys.ensures.ascending) in
    let point = IsPartitionPoint-from_clause (misses bound) keys at c.partition_point-at.ensures.partitioned (set_parted bound keys up) (λ x r q k. search rules) in
    c.first_from.ensures ∙ first_at_point bound keys at c.partition_point-at.ensures.bound point ∙ ap (λ ks. slice_get (rest ks bound) 0) c.as_slice-keys.ensures.same
