-- The orders of places and uids.
use Rattle.std.proofs.Common.{◌≡◌, ap, ◌∙◌}
use Rattle.std.specs.Ordering.{nat_cmp, ordering_then}
use Rattle.std.specs.Cmp.{IsTotalOrder}
use Rattle.std.specs.Cmp.Lexicographic.{slice_cmp, nat_list_cmp_total}
use Rattle.std.proofs.lemmas.Cmp.{on_total, then_total, tied_itself}
use Rattle.dw_event.specs.declared.records.Place.{Place}
use Rattle.dw_event.specs.Places.{place_cmp}

pub places_total : IsTotalOrder place_cmp
places_total = then_total (on_total (λ p. p.shard) nat_list_cmp_total) (on_total (λ p. p.key) (then_total (on_total (λ k. k.dtype) nat_list_cmp_total) (on_total (λ k. k.uid) nat_list_cmp_total)))

-- within one shard and type the uids decide
pub place_by_uid : (a b : Place) → a.shard ≡ b.shard → a.key.dtype ≡ b.key.dtype → place_cmp a b ≡ slice_cmp nat_cmp a.key.uid b.key.uid
place_by_uid a b s t =
    ap (λ o. ordering_then o (ordering_then (slice_cmp nat_cmp a.key.dtype b.key.dtype) (slice_cmp nat_cmp a.key.uid b.key.uid)))
    (ap (λ x. slice_cmp nat_cmp x b.shard) s ∙ tied_itself nat_list_cmp_total b.shard)
    ∙ ap (λ o. ordering_then o (slice_cmp nat_cmp a.key.uid b.key.uid))
    (ap (λ x. slice_cmp nat_cmp x b.key.dtype) t ∙ tied_itself nat_list_cmp_total b.key.dtype)
