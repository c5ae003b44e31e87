-- The order of keys, after Accumulo.
use Rattle.std.specs.Ordering.{nat_cmp, on, then_cmp, flip_args}
use Rattle.std.specs.Cmp.{IsTotalOrder, then_total, on_total, back_total, nat_cmp_total}
use Rattle.std.specs.Cmp.Lexicographic.{slice_cmp, nat_list_cmp_total}
use Rattle.std.specs.declared.cmp.Ordering.{Ordering}
use Rattle.dw_key.specs.declared.key.Key.{Key}

-- row, family, qualifier and visibility ascend as lists of unsigned bytes, and then the larger stamp stands first
abbrev pub key_order : Key → Key → Ordering
key_order =
    then_cmp (on (λ k. k.row) (slice_cmp nat_cmp))
    (then_cmp (on (λ k. k.family) (slice_cmp nat_cmp))
    (then_cmp (on (λ k. k.qualifier) (slice_cmp nat_cmp))
    (then_cmp (on (λ k. k.vis) (slice_cmp nat_cmp))
    (flip_args (on (λ k. k.stamp) nat_cmp)))))

-- it is a total order
pub keys_total : IsTotalOrder key_order
keys_total =
    then_total (on_total (λ k. k.row) nat_list_cmp_total)
    (then_total (on_total (λ k. k.family) nat_list_cmp_total)
    (then_total (on_total (λ k. k.qualifier) nat_list_cmp_total)
    (then_total (on_total (λ k. k.vis) nat_list_cmp_total)
    (back_total (on_total (λ k. k.stamp) nat_cmp_total)))))
