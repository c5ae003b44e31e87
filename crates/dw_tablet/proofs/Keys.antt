-- What a keeper says of the cells of a scan, of the places of their keys.
use Rattle.std.proofs.Common.{◌≡◌, ℕ, List, [], ◌∷◌, ◌++◌, refl, sym, ap, ◌∙◌, Bool, true, false, not, ◌&&◌, map as list_map, subst}
use Rattle.std.specs.Prelude.{All, IsTrue, cond}
use Rattle.std.specs.List.{AllByRecursion}
use Rattle.std.specs.List.Sorted.{IsStrictlySortedBy}
use Rattle.std.specs.Ordering.{nat_cmp, is_lt, is_le, ordering_reverse}
use Rattle.std.specs.Cmp.Lexicographic.{slice_cmp, nat_list_cmp_total}
use Rattle.std.specs.declared.cmp.Ordering.{Ordering}
use Rattle.std.specs.declared.cmp.Ordering.TheVariants.{Less, Equal, Greater}
use Rattle.std.proofs.lemmas.Map.Keys.{sorted_head, sorted_tail}
use Rattle.std.proofs.lemmas.Bool.{and_parts}
use Rattle.std.proofs.lemmas.List.Elements.{recursion_from_All}
use Rattle.dw_key.specs.KeyCode.{escaped}
use Rattle.dw_outside.specs.declared.cell.Cell.{Cell}
use Rattle.dw_outside.specs.Tables.{is_in_span}
use Rattle.dw_tablet.specs.Places.{below, Ascends, AreFrom, AreBefore, shard_start, shard_end, IsContent}

lower_all : (k : List ℕ) (ks : List (List ℕ)) → AllByRecursion (λ j. slice_cmp nat_cmp k j ≡ Less) ks → AllByRecursion (λ j. below k j ≡ true) ks
lower_all k [] h = tt
lower_all k (j ∷ ks) h = (ap is_lt h.0, lower_all k ks h.1)

-- keys that are sorted strictly ascend
pub ascend : (keys : List (List ℕ)) → IsStrictlySortedBy (slice_cmp nat_cmp) keys → Ascends keys
ascend [] h = tt
ascend (k ∷ ks) h = (lower_all k ks (sorted_head (slice_cmp nat_cmp) k ks h), ascend ks (sorted_tail (slice_cmp nat_cmp) k ks h))

not_below : (a b : List ℕ) → is_le (slice_cmp nat_cmp a b) ≡ true → below b a ≡ false
not_below a b h = ap is_lt (nat_list_cmp_total.antisymm b a) ∙ at (slice_cmp nat_cmp a b) h
  where
    at : (o : Ordering) → is_le o ≡ true → is_lt (ordering_reverse o) ≡ false
    at Less g = refl
    at Equal g = refl
    at Greater g = cc

-- a span with an end
span_parts : (from end : List ℕ) (b : ℕ) (more : List ℕ) (key : List ℕ) → end ≡ b ∷ more → IsTrue (is_in_span from end key) → (below key from ≡ false) × (below key end ≡ true)
span_parts from [] b more key e h = absurd (no_end e)
  where
    no_end : [] ≡ b ∷ more → ⊥
    no_end g = cc
span_parts from (x ∷ xs) b more key e h =
    let both = and_parts (is_le (slice_cmp nat_cmp from key)) (is_lt (slice_cmp nat_cmp key (x ∷ xs))) h in
    (not_below from key both.0, both.1)

record HasFront (xs : List ℕ) : Type 0 where
  first : ℕ
  more : List ℕ
  is : xs ≡ first ∷ more

has_front : (xs : List ℕ) → HasFront (xs ++ 0 ∷ 1 ∷ [])
has_front [] = record { first = 0; more = 1 ∷ []; is = refl }
has_front (x ∷ xs) = record { first = x; more = xs ++ 0 ∷ 1 ∷ []; is = refl }

in_shard : (shard from key : List ℕ) → IsTrue (is_in_span from (shard_end shard) key) → (below key from ≡ false) × (below key (shard_end shard) ≡ true)
in_shard shard from key h = let front = has_front (escaped shard) in span_parts from (shard_end shard) front.first front.more key front.is h

keys_from : (shard from : List ℕ) (cells : List Cell) → AllByRecursion (λ c. IsTrue (is_in_span from (shard_end shard) c.key)) cells → AreFrom from (list_map (λ c. c.key) cells)
keys_from shard from [] h = tt
keys_from shard from (c ∷ cells) h = ((in_shard shard from c.key h.0).0, keys_from shard from cells h.1)

keys_before : (shard from : List ℕ) (cells : List Cell) → AllByRecursion (λ c. IsTrue (is_in_span from (shard_end shard) c.key)) cells → AreBefore (shard_end shard) (list_map (λ c. c.key) cells)
keys_before shard from [] h = tt
keys_before shard from (c ∷ cells) h = ((in_shard shard from c.key h.0).1, keys_before shard from cells h.1)

-- the keys of a scan that ends with the shard
pub are_from : (shard from : List ℕ) (cells : List Cell) → All (λ c. IsTrue (is_in_span from (shard_end shard) c.key)) cells → AreFrom from (list_map (λ c. c.key) cells)
are_from shard from cells h = keys_from shard from cells (recursion_from_All (λ c. IsTrue (is_in_span from (shard_end shard) c.key)) cells h)

pub are_before : (shard from : List ℕ) (cells : List Cell) → All (λ c. IsTrue (is_in_span from (shard_end shard) c.key)) cells → AreBefore (shard_end shard) (list_map (λ c. c.key) cells)
are_before shard from cells h = keys_before shard from cells (recursion_from_All (λ c. IsTrue (is_in_span from (shard_end shard) c.key)) cells h)
