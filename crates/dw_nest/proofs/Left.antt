-- How many keys the leaves may still show from a bound on: the measure of the leaping.
use Rattle.std.proofs.Common.{ℕ, zero, suc, ◌≡◌, ◌<◌, ◌≤◌, ◌+◌, Bool, true, false, cond, List, [], ◌∷◌, refl, ap, subst, ◌∙◌, arith}
use Rattle.std.specs.Prelude.{Contains}
use Rattle.std.proofs.Math.Decide.{dec_lt}
use Rattle.std.proofs.Math.Logic.{dite}
use Rattle.dw_key.specs.declared.doc_key.DocKey.{DocKey}
use Rattle.dw_nest.specs.declared.bound.Bound.{Bound}
use Rattle.dw_nest.specs.declared.bound.Bound.TheVariants.{From, After}
use Rattle.dw_nest.specs.Bounds.{meets, is_before}
use Rattle.dw_nest.specs.Search.{Held}
use Rattle.dw_nest.specs.Shapes.{Shape, leaf, unknown, opposite, and, or}
use Rattle.dw_nest.proofs.Order.{upward, not_from, not_after_itself, placed, earlier, same, later, met_from}
use Rattle.dw_nest.proofs.Weights.{sum_of}

-- one for each key of a list that meets the bound
abbrev pub left_in : Bound → List DocKey → ℕ
left_in bound [] = 0
left_in bound (x ∷ xs) = cond (meets bound x) 1 0 + left_in bound xs

module _ {L : Type 0} (keys : L → List DocKey) where
  abbrev pub left : Bound → Shape L → ℕ
  left bound (leaf x) = left_in bound (keys x)
  left bound unknown = 0
  left bound (opposite a) = left bound a
  left bound (and n f) = sum_of n (λ i. left bound (f i))
  left bound (or n f) = sum_of n (λ i. left bound (f i))

-- a bound that only keys meet that meet another
abbrev pub Beyond : Bound → Bound → Type 0
Beyond bound next = (k : DocKey) → meets next k ≡ true → meets bound k ≡ true

one_less : (a b : Bool) → (b ≡ true → a ≡ true) → cond b 1 0 ≤ cond a 1 0
one_less true true h = omega arith
one_less true false h = omega arith
one_less false true h = absurd (let e = h refl in cc)
one_less false false h = omega arith

in_no_more : (bound next : Bound) → Beyond bound next → (xs : List DocKey) → left_in next xs ≤ left_in bound xs
in_no_more bound next b [] = omega arith
in_no_more bound next b (x ∷ xs) =
    let first : cond (meets next x) 1 0 ≤ cond (meets bound x) 1 0 = one_less (meets bound x) (meets next x) (b x) in
    let rest : left_in next xs ≤ left_in bound xs = in_no_more bound next b xs in omega arith

in_less : (bound next : Bound) → Beyond bound next → (k : DocKey) → meets bound k ≡ true → meets next k ≡ false → (xs : List DocKey) → Contains xs k → left_in next xs < left_in bound xs
in_less bound next b k m n [] (i, l, e) = absurd (omega arith)
in_less bound next b k m n (x ∷ xs) (zero, l, e) =
    let now : cond {A = ℕ} (meets bound x) 1 0 ≡ 1 = ap (λ t. cond {A = ℕ} t 1 0) (ap (meets bound) e ∙ m) in
    let then : cond {A = ℕ} (meets next x) 1 0 ≡ 0 = ap (λ t. cond {A = ℕ} t 1 0) (ap (meets next) e ∙ n) in
    let rest : left_in next xs ≤ left_in bound xs = in_no_more bound next b xs in omega arith
in_less bound next b k m n (x ∷ xs) (suc i, l, e) =
    let first : cond (meets next x) 1 0 ≤ cond (meets bound x) 1 0 = one_less (meets bound x) (meets next x) (b x) in
    let rest : left_in next xs < left_in bound xs = in_less bound next b k m n xs (i, omega arith, e) in omega arith

sum_no_more : (n : ℕ) (f g : ℕ → ℕ) → ((i : ℕ) → i < n → f i ≤ g i) → sum_of n f ≤ sum_of n g
sum_no_more zero f g h = omega arith
sum_no_more (suc n) f g h =
    let rest : sum_of n f ≤ sum_of n g = sum_no_more n f g (λ i k. h i (omega arith)) in
    let last : f n ≤ g n = h n (omega arith) in omega arith

sum_less : (n i : ℕ) (f g : ℕ → ℕ) → ((j : ℕ) → j < n → f j ≤ g j) → i < n → f i < g i → sum_of n f < sum_of n g
sum_less zero i f g h k l = absurd (omega arith)
sum_less (suc n) i f g h k l =
    dite (dec_lt i n)
    (λ m. let rest : sum_of n f < sum_of n g = sum_less n i f g (λ j q. h j (omega arith)) m l in let last : f n ≤ g n = h n (omega arith) in omega arith)
    (λ no.
    let at : i ≡ n = omega arith in
    let last : f n < g n = subst (λ j. f j < g j) at l in
    let rest : sum_of n f ≤ sum_of n g = sum_no_more n f g (λ j q. h j (omega arith)) in omega arith)

module _ {L : Type 0} (keys : L → List DocKey) (bound next : Bound) (b : Beyond bound next) where
  no_more : (a : Shape L) → left keys next a ≤ left keys bound a
  no_more (leaf x) = in_no_more bound next b (keys x)
  no_more unknown = omega arith
  no_more (opposite a) = no_more a
  no_more (and n f) = sum_no_more n (λ i. left keys next (f i)) (λ i. left keys bound (f i)) (λ i h. no_more (f i))
  no_more (or n f) = sum_no_more n (λ i. left keys next (f i)) (λ i. left keys bound (f i)) (λ i h. no_more (f i))

  less_left : (k : DocKey) → meets bound k ≡ true → meets next k ≡ false → (a : Shape L) → Held keys a k → left keys next a < left keys bound a
  less_left k m n (leaf x) h = in_less bound next b k m n (keys x) h
  less_left k m n unknown h = absurd h
  less_left k m n (opposite a) h = less_left k m n a h
  less_left k m n (and c f) h = sum_less c h.0 (λ i. left keys next (f i)) (λ i. left keys bound (f i)) (λ i l. no_more (f i)) h.1 (less_left k m n (f h.0) h.2)
  less_left k m n (or c f) h = sum_less c h.0 (λ i. left keys next (f i)) (λ i. left keys bound (f i)) (λ i l. no_more (f i)) h.1 (less_left k m n (f h.0) h.2)

pub beyond_from : (bound : Bound) (key : DocKey) → meets bound key ≡ true → Beyond bound (From key)
beyond_from bound key m k h = elim (placed key k) [ earlier l ↦ upward bound key k m l | same e ↦ subst (λ x. meets bound x ≡ true) e m | later l ↦ absurd (met_from key k h l) ]

-- after a key that is held, and from a key that is later than one that is held, fewer are left
pub less_after : {L : Type 0} (keys : L → List DocKey) (bound : Bound) (key : DocKey) (a : Shape L) → meets bound key ≡ true → Held keys a key → left keys (After key) a < left keys bound a
less_after keys bound key a m h = less_left keys bound (After key) (λ k l. upward bound key k m l) key m (not_after_itself key) a h

pub less_from : {L : Type 0} (keys : L → List DocKey) (bound : Bound) (low key : DocKey) (a : Shape L) → meets bound low ≡ true → Held keys a low → is_before low key ≡ true → left keys (From key) a < left keys bound a
less_from keys bound low key a m h l = less_left keys bound (From key) (beyond_from bound key (upward bound low key m l)) low m (not_from key low l) a h
