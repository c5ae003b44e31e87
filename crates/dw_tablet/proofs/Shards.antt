-- The places of a shard.
use Rattle.std.proofs.Common.{◌≡◌, ℕ, List, [], ◌∷◌, ◌++◌, refl, sym, ap, ◌∙◌, Bool, true, false}
use Rattle.std.specs.Ordering.{nat_cmp, is_lt, ordering_then}
use Rattle.std.specs.Cmp.{tied_itself, nat_cmp_total}
use Rattle.std.specs.Cmp.Lexicographic.{slice_cmp}
use Rattle.dw_key.specs.KeyCode.{escaped}
use Rattle.dw_tablet.specs.Places.{below, shard_start, shard_end}

-- an equal beginning does not count
pub same_front : (xs ys zs : List ℕ) → slice_cmp nat_cmp (xs ++ ys) (xs ++ zs) ≡ slice_cmp nat_cmp ys zs
same_front [] ys zs = refl
same_front (x ∷ xs) ys zs = ap (λ o. ordering_then o (slice_cmp nat_cmp (xs ++ ys) (xs ++ zs))) (tied_itself nat_cmp_total x) ∙ same_front xs ys zs

-- a shard has places
pub shard_long : (shard : List ℕ) → below (shard_start shard) (shard_end shard) ≡ true
shard_long shard = ap is_lt (same_front (escaped shard) (0 ∷ 0 ∷ []) (0 ∷ 1 ∷ []))
