-- One of so many, all of so many, and the first of so many.
use Rattle.std.proofs.Common.{ℕ, zero, suc, ◌≡◌, ◌<◌, ◌+◌, Bool, true, false, ◌||◌, ◌&&◌, List, refl, ap, subst, ◌∙◌, arith, add-one, Some, None, find}
use Rattle.std.specs.Option.{option_or}
use Rattle.std.proofs.Math.Decide.{dec_lt}
use Rattle.std.proofs.Math.Logic.{dite}
use Rattle.std.proofs.lemmas.List.Folds.{find-append}
use Rattle.dw_nest.specs.Shapes.{any_of, all_of, joined}

or_right : (a : Bool) → a || true ≡ true
or_right true = refl
or_right false = refl

and_right : (a : Bool) → a && false ≡ false
and_right true = refl
and_right false = refl

pub and_left : (a b : Bool) → a && b ≡ true → a ≡ true
and_left true b h = refl
and_left false b h = absurd (cc)

pub and_last : (a b : Bool) → a && b ≡ true → b ≡ true
and_last true b h = h
and_last false b h = absurd (cc)

pub or_left : (a b : Bool) → a || b ≡ false → a ≡ false
or_left true b h = absurd (cc)
or_left false b h = refl

pub or_last : (a b : Bool) → a || b ≡ false → b ≡ false
or_last true b h = absurd (cc)
or_last false b h = h

pub any_more : (i : ℕ) (f : ℕ → Bool) → any_of (i + 1) f ≡ any_of i f || f i
any_more i f = ap (λ n. any_of n f) (add-one i)

pub all_more : (i : ℕ) (f : ℕ → Bool) → all_of (i + 1) f ≡ all_of i f && f i
all_more i f = ap (λ n. all_of n f) (add-one i)

-- what holds of one holds of any
pub any_by : (n i : ℕ) (f : ℕ → Bool) → i < n → f i ≡ true → any_of n f ≡ true
any_by zero i f h k = absurd (omega arith)
any_by (suc n) i f h k = dite (dec_lt i n) (λ l. ap (λ b. b || f n) (any_by n i f l k)) (λ no. let same : i ≡ n = omega arith in ap (λ b. any_of n f || b) (subst (λ j. f j ≡ true) same k) ∙ or_right (any_of n f))

-- what fails of one fails of all
pub all_not : (n i : ℕ) (f : ℕ → Bool) → i < n → f i ≡ false → all_of n f ≡ false
all_not zero i f h k = absurd (omega arith)
all_not (suc n) i f h k = dite (dec_lt i n) (λ l. ap (λ b. b && f n) (all_not n i f l k)) (λ no. let same : i ≡ n = omega arith in ap (λ b. all_of n f && b) (subst (λ j. f j ≡ false) same k) ∙ and_right (all_of n f))

pub any_false : (n : ℕ) (f : ℕ → Bool) → ((i : ℕ) → i < n → f i ≡ false) → any_of n f ≡ false
any_false zero f h = refl
any_false (suc n) f h = ap (λ b. b || f n) (any_false n f (λ i k. h i (omega arith))) ∙ h n (omega arith)

pub all_true : (n : ℕ) (f : ℕ → Bool) → ((i : ℕ) → i < n → f i ≡ true) → all_of n f ≡ true
all_true zero f h = refl
all_true (suc n) f h = ap (λ b. b && f n) (all_true n f (λ i k. h i (omega arith))) ∙ h n (omega arith)

pub all_at : (n i : ℕ) (f : ℕ → Bool) → all_of n f ≡ true → i < n → f i ≡ true
all_at zero i f h k = absurd (omega arith)
all_at (suc n) i f h k = dite (dec_lt i n) (λ l. all_at n i f (and_left (all_of n f) (f n) h) l) (λ no. let same : n ≡ i = omega arith in subst (λ j. f j ≡ true) same (and_last (all_of n f) (f n) h))

pub any_at : (n i : ℕ) (f : ℕ → Bool) → any_of n f ≡ false → i < n → f i ≡ false
any_at zero i f h k = absurd (omega arith)
any_at (suc n) i f h k = dite (dec_lt i n) (λ l. any_at n i f (or_left (any_of n f) (f n) h) l) (λ no. let same : n ≡ i = omega arith in subst (λ j. f j ≡ false) same (or_last (any_of n f) (f n) h))

-- the first that is found
pub find_more : {X : Type 0} (test : X → Bool) (i : ℕ) (part : ℕ → List X) → find test (joined i part) ≡ None → find test (part i) ≡ None → find test (joined (i + 1) part) ≡ None
find_more test i part h k = ap (λ n. find test (joined n part)) (add-one i) ∙ find-append test (joined i part) (part i) ∙ ap (λ o. option_or o (find test (part i))) h ∙ k

pub find_first : {X : Type 0} (test : X → Bool) (n i : ℕ) (part : ℕ → List X) (x : X) → i < n → find test (joined i part) ≡ None → find test (part i) ≡ Some x → find test (joined n part) ≡ Some x
find_first test zero i part x l h k = absurd (omega arith)
find_first test (suc n) i part x l h k =
    find-append test (joined n part) (part n)
    ∙ dite (dec_lt i n) (λ m. ap (λ o. option_or o (find test (part n))) (find_first test n i part x m h k))
    (λ no. let same : i ≡ n = omega arith in ap (λ o. option_or o (find test (part n))) (subst (λ j. find test (joined j part) ≡ None) same h) ∙ subst (λ j. find test (part j) ≡ Some x) same k)
