-- Comparing numbers and lists part by part.
use Rattle.std.proofs.Common.{◌≡◌, ℕ, ◌+◌, ◌-◌, ◌*◌, ◌<◌, ◌≤◌, List, [], ◌∷◌, ◌++◌, length, refl, sym, ap, ◌∙◌, arith, inl, inr}
use Rattle.std.specs.Ordering.{nat_cmp, ordering_then}
use Rattle.std.specs.declared.cmp.Ordering.{Ordering}
use Rattle.std.specs.declared.cmp.Ordering.TheVariants.{Less, Equal, Greater}
use Rattle.std.specs.Cmp.{nat_cmp_is}
use Rattle.std.specs.Cmp.Lexicographic.{slice_cmp}
use Rattle.std.proofs.Math.Nat as nat
use Rattle.std.proofs.lemmas.Bool.{cases_lt}

pub below : (a b : ℕ) → a < b → nat_cmp a b ≡ Less
below a b lt = sym (nat_cmp_is a b Less lt)

pub above : (a b : ℕ) → b < a → nat_cmp a b ≡ Greater
above a b gt = sym (nat_cmp_is a b Greater gt)

pub level : (a b : ℕ) → a ≡ b → nat_cmp a b ≡ Equal
level a b e = sym (nat_cmp_is a b Equal e)

pub then_Equal : (a : Ordering) → ordering_then a Equal ≡ a
then_Equal Less = refl
then_Equal Equal = refl
then_Equal Greater = refl

pub ordering_then-assoc : (a b c : Ordering) → ordering_then (ordering_then a b) c ≡ ordering_then a (ordering_then b c)
ordering_then-assoc Less b c = refl
ordering_then-assoc Equal b c = refl
ordering_then-assoc Greater b c = refl

-- fronts as long as each other decide before what stands behind them
pub slice_cmp-append : (xs ys us vs : List ℕ) → length xs ≡ length ys → slice_cmp nat_cmp (xs ++ us) (ys ++ vs) ≡ ordering_then (slice_cmp nat_cmp xs ys) (slice_cmp nat_cmp us vs)
slice_cmp-append [] [] us vs e = refl
slice_cmp-append [] (y ∷ ys) us vs e = absurd (omega arith)
slice_cmp-append (x ∷ xs) [] us vs e = absurd (omega arith)
slice_cmp-append (x ∷ xs) (y ∷ ys) us vs e =
    ap (ordering_then (nat_cmp x y)) (slice_cmp-append xs ys us vs (omega arith))
    ∙ sym (ordering_then-assoc (nat_cmp x y) (slice_cmp nat_cmp xs ys) (slice_cmp nat_cmp us vs))

-- the same number more on both sides
pub nat_cmp-add : (k a b : ℕ) → nat_cmp (k + a) (k + b) ≡ nat_cmp a b
nat_cmp-add k a b =
    elim (cases_lt a b) [
      | inl lt ↦ below (k + a) (k + b) (omega arith) ∙ sym (below a b lt)
      | inr ge ↦ elim (cases_lt b a) [
        | inl gt ↦ above (k + a) (k + b) (omega arith) ∙ sym (above a b gt)
        | inr le ↦ level (k + a) (k + b) (omega arith) ∙ sym (level a b (omega arith))
      ]
    ]

-- the distances from a bound compare the other way round
pub nat_cmp-turned : (top a b : ℕ) → a ≤ top → b ≤ top → nat_cmp (top - a) (top - b) ≡ nat_cmp b a
nat_cmp-turned top a b p q =
    elim (cases_lt a b) [
      | inl lt ↦ above (top - a) (top - b) (omega arith) ∙ sym (above b a lt)
      | inr ge ↦ elim (cases_lt b a) [
        | inl gt ↦ below (top - a) (top - b) (omega arith) ∙ sym (below b a gt)
        | inr le ↦ level (top - a) (top - b) (omega arith) ∙ sym (level b a (omega arith))
      ]
    ]

-- a number of a higher and a lower part: the higher part decides, and then the lower
pub by_parts : (h k : ℕ) (l m size : ℕ) → l < size → m < size → (a b : ℕ) → a ≡ size * h + l → b ≡ size * k + m → ordering_then (nat_cmp h k) (nat_cmp l m) ≡ nat_cmp a b
by_parts h k l m size p q a b e f =
    elim (cases_lt h k) [
      | inl lt ↦ rw (below h k lt) (sym (below a b (higher h k l m size a b p q e f lt)))
      | inr ge ↦ elim (cases_lt k h) [
        | inl gt ↦ rw (above h k gt) (sym (above a b (higher k h m l size b a q p f e gt)))
        | inr le ↦
            let same : h ≡ k = omega arith in
            let b_is : b ≡ size * h + m = f ∙ ap (λ n. size * n + m) (sym same) in
            rw (level h k same) (sym (nat_cmp-add (size * h) l m) ∙ (λ i. nat_cmp (sym e i) (sym b_is i)))
      ]
    ]
  where
    higher : (h k l m size a b : ℕ) → l < size → m < size → a ≡ size * h + l → b ≡ size * k + m → h < k → a < b
    higher h k l m size a b p q e f lt = let rows : size * (h + 1) ≤ size * k = nat.mul-le-mul_left size (omega arith) in omega arith
