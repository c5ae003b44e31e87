-- On keys that ascend, with one more.
use Rattle.std.proofs.Common.{◌≡◌, ◌-◌, ℕ, zero, suc, true, subst, List, [], ◌∷◌, ◌++◌, length, slice_get, refl, arith}
use Rattle.std.specs.Prelude.{Some, None, map}
use Rattle.std.specs.declared.cmp.Ordering.{Ordering}
use Rattle.std.specs.declared.cmp.Ordering.TheVariants.{Less, Equal, Greater}
use Rattle.std.specs.Ordering.{nat_cmp, is_lt}
use Rattle.std.specs.Cmp.{IsTotalOrder}
use Rattle.std.specs.Cmp.Lexicographic.{slice_cmp, nat_list_cmp_total}
use Rattle.std.specs.List.{AllByRecursion}
use Rattle.std.specs.List.Sorted.{IsStrictlySortedBy}
use Rattle.dw_outside.specs.declared.cell.Cell.{Cell}

abbrev keys_of : List Cell → List (List ℕ)
keys_of = map (λ (c : Cell). c.key)

-- the key is above the last one
abbrev pub IsAbove : List Cell → List ℕ → Type 0
IsAbove [] y = Unit {0}
IsAbove (c ∷ []) y = slice_cmp nat_cmp c.key y ≡ Less
IsAbove (c ∷ d ∷ ds) y = IsAbove (d ∷ ds) y

above_all : (c : Cell) (cs : List Cell) (y : List ℕ) → AllByRecursion (λ k. slice_cmp nat_cmp c.key k ≡ Less) (keys_of cs) → IsAbove (c ∷ cs) y → AllByRecursion (λ k. slice_cmp nat_cmp c.key k ≡ Less) (keys_of cs ++ y ∷ [])
above_all c [] y h a = (a, tt)
above_all c (d ∷ ds) y h a = (h.0, above_all c ds y h.1 (at ds a))
  where
    at : (es : List Cell) → IsAbove (d ∷ es) y → IsAbove (c ∷ es) y
    at [] b = nat_list_cmp_total.trans c.key d.key y h.0 b
    at (e ∷ es) b = b

pub ascending_more : (cs : List Cell) (y : List ℕ) → IsAbove cs y → IsStrictlySortedBy (slice_cmp nat_cmp) (keys_of cs) → IsStrictlySortedBy (slice_cmp nat_cmp) (keys_of cs ++ y ∷ [])
unfolding IsStrictlySortedBy
ascending_more [] y a h = (tt, tt)
ascending_more (c ∷ cs) y a h = (above_all c cs y h.0 a, ascending_more cs y (at cs a) h.1)
  where
    at : (es : List Cell) → IsAbove (c ∷ es) y → IsAbove es y
    at [] b = tt
    at (e ∷ es) b = b

above_at : (cs : List Cell) (i : ℕ) (last : Cell) (y : List ℕ) → suc i ≡ length cs → Some last ≡ slice_get cs i → slice_cmp nat_cmp last.key y ≡ Less → IsAbove cs y
above_at [] i last y e g h = tt
above_at (c ∷ []) zero last y e g h = let same : last ≡ c = cc in subst (λ (x : Cell). slice_cmp nat_cmp x.key y ≡ Less) same h
above_at (c ∷ []) (suc i) last y e g h = absurd (omega arith)
above_at (c ∷ d ∷ ds) zero last y e g h = absurd (omega arith)
above_at (c ∷ d ∷ ds) (suc i) last y e g h = above_at (d ∷ ds) i last y (omega arith) g h

none_at : (cs : List Cell) (i : ℕ) → suc i ≡ length cs → None ≡ slice_get cs i → ⊥
none_at [] i e g = omega arith
none_at (c ∷ cs) zero e g = cc
none_at (c ∷ cs) (suc i) e g = none_at cs i (omega arith) g

pub above_last : (cs : List Cell) (last : Cell) (y : List ℕ) → Some last ≡ slice_get cs (length cs - 1) → slice_cmp nat_cmp last.key y ≡ Less → IsAbove cs y
above_last [] last y g h = tt
above_last (c ∷ cs) last y g h = above_at (c ∷ cs) (length (c ∷ cs) - 1) last y (omega arith) g h

pub above_none : (cs : List Cell) (y : List ℕ) → None ≡ slice_get cs (length cs - 1) → IsAbove cs y
above_none [] y g = tt
above_none (c ∷ cs) y g = absurd (none_at (c ∷ cs) (length (c ∷ cs) - 1) (omega arith) g)

pub less_is : (o : Ordering) → is_lt o ≡ true → o ≡ Less
less_is Less h = refl
less_is Equal h = cc
less_is Greater h = cc

pub none_ascend : (cs : List Cell) → cs ≡ [] → IsStrictlySortedBy (slice_cmp nat_cmp) (keys_of cs)
unfolding IsStrictlySortedBy
none_ascend [] e = tt
none_ascend (c ∷ cs) e = cc
