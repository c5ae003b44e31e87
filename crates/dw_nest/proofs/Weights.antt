-- A measure of the search's recursion, which no call changes: it goes by the shape alone.
use Rattle.std.proofs.Common.{ℕ, zero, suc, ◌≡◌, ◌<◌, ◌≤◌, ◌+◌, refl, ap, subst, ◌∙◌, arith}
use Rattle.std.proofs.Math.Decide.{dec_lt}
use Rattle.std.proofs.Math.Logic.{dite}
use Rattle.dw_nest.specs.Shapes.{Shape, leaf, unknown, opposite, and, or, Alike}

abbrev pub sum_of : ℕ → (ℕ → ℕ) → ℕ
sum_of zero f = 0
sum_of (suc n) f = sum_of n f + f n

abbrev pub weight : {X : Type 0} → Shape X → ℕ
weight (leaf x) = 0
weight unknown = 0
weight (opposite a) = weight a + 2
weight (and n f) = sum_of n (λ i. weight (f i)) + 5
weight (or n f) = sum_of n (λ i. weight (f i)) + 5

pub sum_of-same : (n : ℕ) (f g : ℕ → ℕ) → ((i : ℕ) → i < n → f i ≡ g i) → sum_of n f ≡ sum_of n g
sum_of-same zero f g h = refl
sum_of-same (suc n) f g h =
    let rest : sum_of n f ≡ sum_of n g = sum_of-same n f g (λ i k. h i (omega arith)) in
    let last : f n ≡ g n = h n (omega arith) in omega arith

-- one part is no more than all
pub sum_of-part : (n i : ℕ) (f : ℕ → ℕ) → i < n → f i ≤ sum_of n f
sum_of-part zero i f h = absurd (omega arith)
sum_of-part (suc n) i f h =
    dite (dec_lt i n) (λ l. let part : f i ≤ sum_of n f = sum_of-part n i f l in omega arith)
    (λ no. let same : n ≡ i = omega arith in subst (λ j. f j ≤ sum_of n f + f n) same (omega arith))

pub weight-alike : {X Y : Type 0} (R : X → Y → Type 0) (a : Shape X) (b : Shape Y) → Alike R a b → weight a ≡ weight b
weight-alike R (leaf x) (leaf y) h = refl
weight-alike R unknown unknown h = refl
weight-alike R (opposite a) (opposite b) h = ap (λ n. n + 2) (weight-alike R a b h)
weight-alike R (and m a) (and n b) h = ap (λ k. k + 5) (sum_of-same m (λ i. weight (a i)) (λ i. weight (b i)) (λ i j. weight-alike R (a i) (b i) (h.1 i j)) ∙ ap (λ k. sum_of k (λ i. weight (b i))) h.0)
weight-alike R (or m a) (or n b) h = ap (λ k. k + 5) (sum_of-same m (λ i. weight (a i)) (λ i. weight (b i)) (λ i j. weight-alike R (a i) (b i) (h.1 i j)) ∙ ap (λ k. sum_of k (λ i. weight (b i))) h.0)
weight-alike R _ _ h = absurd h
