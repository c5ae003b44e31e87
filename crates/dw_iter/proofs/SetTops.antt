-- Sorted sets of document keys, and the first one that meets a bound.
use Rattle.std.proofs.Common.{◌≡◌, ℕ, ◌<◌, ◌≤◌, zero, suc, List, [], ◌∷◌, length, get_or, refl, sym, ap, ◌∙◌, Bool, true, false, not, cond, ◌||◌, inl, inr, arith}
use Rattle.std.specs.Prelude.{slice_get, Contains, Some, None, ◌⊎◌}
use Rattle.dw_base.proofs.Members.{StandsIn, from_stands}
use Rattle.std.specs.List.{AllByRecursion}
use Rattle.std.specs.List.Sorted.{IsPartitionedBy, IsPartitionPoint, IsStrictlySortedBy}
use Rattle.std.specs.Ordering.{is_lt}
use Rattle.std.specs.declared.cmp.Ordering.TheVariants.{Less}
use Rattle.std.proofs.lemmas.Map.Keys.{sorted_head, sorted_tail}
use Rattle.dw_key.specs.declared.doc_key.DocKey.{DocKey}
use Rattle.dw_key.specs.DocKeys.{doc_key_cmp}
use Rattle.dw_nest.specs.declared.bound.Bound.{Bound}
use Rattle.dw_nest.specs.Bounds.{Ascends, is_before, meets, rest}
use Rattle.dw_nest.proofs.Order.{upward}

less_all : (k : DocKey) (ks : List DocKey) → AllByRecursion (λ j. doc_key_cmp k j ≡ Less) ks → AllByRecursion (λ j. is_before k j ≡ true) ks
less_all k [] h = tt
less_all k (j ∷ ks) h = (ap is_lt h.0, less_all k ks h.1)

-- keys that are sorted strictly ascend
pub ascend : (keys : List DocKey) → IsStrictlySortedBy doc_key_cmp keys → Ascends keys
ascend [] h = tt
ascend (k ∷ ks) h = (less_all k ks (sorted_head doc_key_cmp k ks h), ascend ks (sorted_tail doc_key_cmp k ks h))

abbrev pub misses : Bound → DocKey → Bool
misses bound key = not (meets bound key)

at_index : (P : DocKey → Type 0) (xs : List DocKey) → AllByRecursion P xs → (i : ℕ) (d : DocKey) → i < length xs → P (get_or xs i d)
at_index P [] h i d k = absurd (omega (arith, k))
at_index P (x ∷ xs) h zero d k = h.0
at_index P (x ∷ xs) h (suc i) d k = at_index P xs h.1 i d (omega (arith, k))

-- a key that comes before one which misses the bound misses it too
earlier : (bound : Bound) (a b : DocKey) → is_before a b ≡ true → misses bound b ≡ true → misses bound a ≡ true
earlier bound a b h m = at (meets bound a) refl
  where
    at : (t : Bool) → meets bound a ≡ t → not t ≡ true
    at true e = sym (ap not (upward bound a b e h)) ∙ m
    at false e = refl

parted_at : (bound : Bound) (keys : List DocKey) → Ascends keys → (i j : ℕ) (d : DocKey) → i ≤ j → j < length keys → misses bound (get_or keys j d) ≡ true → misses bound (get_or keys i d) ≡ true
parted_at bound [] up i j d h k e = absurd (omega (arith, k))
parted_at bound (k ∷ ks) up zero zero d h l e = e
parted_at bound (k ∷ ks) up zero (suc j) d h l e = earlier bound k (get_or ks j d) (at_index (λ x. is_before k x ≡ true) ks up.0 j d (omega (arith, l))) e
parted_at bound (k ∷ ks) up (suc i) zero d h l e = absurd (omega (arith, h))
parted_at bound (k ∷ ks) up (suc i) (suc j) d h l e = parted_at bound ks up.1 i j d (omega (arith, h)) (omega (arith, l)) e

pub set_parted : (bound : Bound) (keys : List DocKey) → Ascends keys → IsPartitionedBy (misses bound) keys
set_parted bound keys up = λ i j d h l e. parted_at bound keys up i j d h l e

-- the key at the partition point is the first that meets the bound
pub first_left : (bound : Bound) (keys : List DocKey) (i : ℕ) → i ≤ length keys → ((j : ℕ) (d : DocKey) → j < i → misses bound (get_or keys j d) ≡ true) → ((j : ℕ) (d : DocKey) → i ≤ j → j < length keys → misses bound (get_or keys j d) ≡ false)
    → slice_get keys i ≡ slice_get (rest keys bound) 0
first_left bound [] zero h p q = refl
first_left bound [] (suc i) h p q = absurd (omega (arith, h))
first_left bound (k ∷ ks) zero h p q = sym (ap (λ b. slice_get (cond b (k ∷ rest ks bound) (rest ks bound)) 0) (back (meets bound k) (q 0 k (omega arith) (omega arith))))
  where
    back : (b : Bool) → not b ≡ false → b ≡ true
    back true e = refl
    back false e = cc
first_left bound (k ∷ ks) (suc i) h p q =
    first_left bound ks i (omega (arith, h)) (λ j d l. p (suc j) d (omega (arith, l))) (λ j d l m. q (suc j) d (omega (arith, l)) (omega (arith, m)))
    ∙ sym (ap (λ b. slice_get (cond b (k ∷ rest ks bound) (rest ks bound)) 0) (missed (meets bound k) (p 0 k (omega arith))))
  where
    missed : (b : Bool) → not b ≡ true → b ≡ false
    missed true e = cc
    missed false e = refl

pub first_at_point : (bound : Bound) (keys : List DocKey) (i : ℕ) → i ≤ length keys → IsPartitionPoint (λ k. misses bound k ≡ true) (λ k. misses bound k ≡ false) keys i → slice_get keys i ≡ slice_get (rest keys bound) 0
first_at_point bound keys i h p = first_left bound keys i h (λ j d l. p.0 j d (omega arith) l) (λ j d l m. p.1 j d l m)

-- a key that is left first is in the set, and meets the bound
pub left_stands : (bound : Bound) (keys : List DocKey) (k : DocKey) → slice_get (rest keys bound) 0 ≡ Some k → StandsIn keys k × (meets bound k ≡ true)
left_stands bound [] k h = cc
left_stands bound (j ∷ ks) k h = at (λ g. left_stands bound ks k g) (meets bound j) refl h
  where
    at : (slice_get (rest ks bound) 0 ≡ Some k → StandsIn ks k × (meets bound k ≡ true)) → (b : Bool) → meets bound j ≡ b → slice_get (cond b (j ∷ rest ks bound) (rest ks bound)) 0 ≡ Some k → StandsIn (j ∷ ks) k × (meets bound k ≡ true)
    at later true e g = let same : j ≡ k = cc in (inl same, sym (ap (meets bound) same) ∙ e)
    at later false e g = let r = later g in (inr r.0, r.1)

pub left_in : (bound : Bound) (keys : List DocKey) (k : DocKey) → slice_get (rest keys bound) 0 ≡ Some k → Contains keys k
left_in bound keys k h = from_stands keys k (left_stands bound keys k h).0

pub left_met : (bound : Bound) (keys : List DocKey) (k : DocKey) → slice_get (rest keys bound) 0 ≡ Some k → meets bound k ≡ true
left_met bound keys k h = (left_stands bound keys k h).1

no_first : (xs : List DocKey) → slice_get xs 0 ≡ None → xs ≡ []
no_first [] h = refl
no_first (x ∷ xs) h = cc

-- where none is left first, none is
pub left_none : (bound : Bound) (keys all : List DocKey) → slice_get (rest keys bound) 0 ≡ None → all ≡ keys → rest all bound ≡ []
left_none bound keys all h e = ap (λ ks. rest ks bound) e ∙ no_first (rest keys bound) h
