-- The first keys of a content from a place on are all of its keys up to where the run ends.
use Rattle.std.proofs.Common.{◌≡◌, ℕ, zero, suc, List, [], ◌∷◌, ◌++◌, refl, sym, ap, ◌∙◌, subst, Bool, true, false, not, cond, ◌&&◌, take, length, arith, ◌≤◌}
use Rattle.std.specs.Prelude.{filter, ◌==◌}
use Rattle.std.specs.List.{AllByRecursion}
use Rattle.std.specs.Ordering.{nat_cmp, is_lt, ordering_reverse, ordering_then}
use Rattle.std.specs.Cmp.{nat_cmp_total}
use Rattle.std.specs.Cmp.Lexicographic.{slice_cmp}
use Rattle.std.specs.declared.cmp.Ordering.{Ordering}
use Rattle.std.specs.declared.cmp.Ordering.TheVariants.{Less, Equal, Greater}
use Rattle.std.proofs.lemmas.Bool.{eqb-true}
use Rattle.dw_tablet.specs.Places.{below, AreFrom, Ascends, AreBefore, between, after_last, run_end, at_most, onward}
use Rattle.dw_tablet.proofs.Order.{not_itself, clash, below_upto, upto, back}

after_zero : (a : ℕ) (es : List ℕ) → is_lt (ordering_then (nat_cmp a 0) (slice_cmp nat_cmp es [])) ≡ false
after_zero zero [] = refl
after_zero zero (b ∷ bs) = refl
after_zero (suc a) es = grind (arith)

both : (r s : Ordering) (x y : Bool → Ordering) (u v : Ordering) → s ≡ ordering_reverse r → is_lt u ≡ not (is_lt v) → is_lt (ordering_then r u) ≡ not (is_lt (ordering_then s v))
both Less s x y u v e h = ap (λ o. not (is_lt (ordering_then o v))) (sym e)
both Equal s x y u v e h = h ∙ ap (λ o. not (is_lt (ordering_then o v))) (sym e)
both Greater s x y u v e h = ap (λ o. not (is_lt (ordering_then o v))) (sym e)

-- nothing stands between a place and that place with a byte 0 behind it
pub next : (j k : List ℕ) → below j (k ++ 0 ∷ []) ≡ not (below k j)
next [] [] = refl
next [] (b ∷ bs) = refl
next (a ∷ es) [] = after_zero a es
next (a ∷ es) (b ∷ bs) =
    both (nat_cmp a b) (nat_cmp b a) (λ _. Less) (λ _. Less) (slice_cmp nat_cmp es (bs ++ 0 ∷ [])) (slice_cmp nat_cmp bs es) (nat_cmp_total.antisymm b a) (next es bs)

pub before_next : (k : List ℕ) → below k (k ++ 0 ∷ []) ≡ true
before_next k = next k k ∙ ap not (not_itself k)

pub next_upto : (j k : List ℕ) → below k j ≡ true → below j (k ++ 0 ∷ []) ≡ false
next_upto j k h = next j k ∙ ap not h

pub from_next : (k : List ℕ) (xs : List (List ℕ)) → AllByRecursion (λ d. below k d ≡ true) xs → AreFrom (k ++ 0 ∷ []) xs
from_next k [] h = tt
from_next k (x ∷ xs) h = (next_upto x k h.0, from_next k xs h.1)

-- the place after the last cell is not before that where they begin
pub grows : (a : List ℕ) (xs : List (List ℕ)) → Ascends xs → AreFrom a xs → below (after_last a xs) a ≡ false
grows a [] up h = not_itself a
grows a (x ∷ xs) up h =
    upto a (x ++ 0 ∷ []) (after_last (x ++ 0 ∷ []) xs)
    (upto a x (x ++ 0 ∷ []) h.0 (back x (x ++ 0 ∷ []) (before_next x)))
    (grows (x ++ 0 ∷ []) xs up.1 (from_next x xs up.0))

-- and not after a place that all of them are before
pub stays : (a end : List ℕ) (xs : List (List ℕ)) → below end a ≡ false → AreBefore end xs → below end (after_last a xs) ≡ false
stays a end [] h k = h
stays a end (x ∷ xs) h k = stays (x ++ 0 ∷ []) end xs (next_upto end x k.0) k.1

take_all : (P : List ℕ → Type 0) (n : ℕ) (xs : List (List ℕ)) → AllByRecursion P xs → AllByRecursion P (take n xs)
take_all P zero xs h = tt
take_all P (suc n) [] h = tt
take_all P (suc n) (x ∷ xs) h = (h.0, take_all P n xs h.1)

take_up : (n : ℕ) (xs : List (List ℕ)) → Ascends xs → Ascends (take n xs)
take_up zero xs h = tt
take_up (suc n) [] h = tt
take_up (suc n) (x ∷ xs) h = (take_all (λ d. below x d ≡ true) n xs h.0, take_up n xs h.1)

none_left : (a : List ℕ) (xs : List (List ℕ)) → AreFrom a xs → filter (λ c. below c a) xs ≡ []
none_left a [] h = refl
none_left a (x ∷ xs) h = ap (λ b. cond b (x ∷ filter (λ c. below c a) xs) (filter (λ c. below c a) xs)) h.0 ∙ none_left a xs h.1

all_pass : (f : List ℕ → Bool) (xs : List (List ℕ)) → AllByRecursion (λ c. f c ≡ true) xs → filter f xs ≡ xs
all_pass f [] h = refl
all_pass f (x ∷ xs) h = ap (λ b. cond b (x ∷ filter f xs) (filter f xs)) h.0 ∙ ap (λ l. x ∷ l) (all_pass f xs h.1)

-- the first n keys are those before the place after the last of them
cut : (n : ℕ) (a : List ℕ) (xs : List (List ℕ)) → Ascends xs → AreFrom a xs → n ≤ length xs → take n xs ≡ filter (λ c. below c (after_last a (take n xs))) xs
cut zero a xs up h k = sym (none_left a xs h)
cut (suc n) a [] up h k = absurd (omega (arith, k))
cut (suc n) a (x ∷ xs) up h k =
    let p = after_last (x ++ 0 ∷ []) (take n xs) in
    let later = from_next x xs up.0 in
    let first : below x p ≡ true =
    below_upto x (x ++ 0 ∷ []) p (before_next x) (grows (x ++ 0 ∷ []) (take n xs) (take_up n xs up.1) (take_all (λ c. below c (x ++ 0 ∷ []) ≡ false) n xs later)) in
    ap (λ l. x ∷ l) (cut n (x ++ 0 ∷ []) xs up.1 later (omega (arith, k)))
    ∙ sym (ap (λ b. cond b (x ∷ filter (λ c. below c p) xs) (filter (λ c. below c p) xs)) first)

filter_both : (p q : List ℕ → Bool) (xs : List (List ℕ)) → filter (λ c. p c && q c) xs ≡ filter q (filter p xs)
filter_both p q [] = refl
filter_both p q (x ∷ xs) = both_step (p x) x (filter (λ c. p c && q c) xs) (filter p xs) (filter_both p q xs)
  where
    both_step : (b : Bool) (x : List ℕ) (us vs : List (List ℕ)) → us ≡ filter q vs → cond (b && q x) (x ∷ us) us ≡ filter q (cond b (x ∷ vs) vs)
    both_step true x us vs e = ap (λ l. cond (q x) (x ∷ l) l) e
    both_step false x us vs e = e

pub onward_all : (P : List ℕ → Type 0) (f : List ℕ → Bool) (xs : List (List ℕ)) → AllByRecursion P xs → AllByRecursion P (filter f xs)
onward_all P f [] h = tt
onward_all P f (x ∷ xs) h = by_test (f x) (onward_all P f xs h.1)
  where
    by_test : (b : Bool) → AllByRecursion P (filter f xs) → AllByRecursion P (cond b (x ∷ filter f xs) (filter f xs))
    by_test true k = (h.0, k)
    by_test false k = k

pub filter_up : (f : List ℕ → Bool) (xs : List (List ℕ)) → Ascends xs → Ascends (filter f xs)
filter_up f [] h = tt
filter_up f (x ∷ xs) h = by_test (f x) (onward_all (λ d. below x d ≡ true) f xs h.0) (filter_up f xs h.1)
  where
    by_test : (b : Bool) → AllByRecursion (λ d. below x d ≡ true) (filter f xs) → Ascends (filter f xs) → Ascends (cond b (x ∷ filter f xs) (filter f xs))
    by_test true k l = (k, l)
    by_test false k l = l

pub no_first : (k : List ℕ) → below k [] ≡ false
no_first [] = refl
no_first (b ∷ bs) = refl

pub from_start : (xs : List (List ℕ)) → AreFrom [] xs
from_start [] = tt
from_start (x ∷ xs) = (no_first x, from_start xs)

short : (n : ℕ) (xs : List (List ℕ)) → (length (take n xs) == n) ≡ false → take n xs ≡ xs
short zero xs h = absurd (clash refl h)
short (suc n) [] h = refl
short (suc n) (x ∷ xs) h = ap (λ l. x ∷ l) (short n xs (sym (same_tests (length (take n xs)) n) ∙ h))
  where
    same_tests : (a b : ℕ) → (suc a == suc b) ≡ (a == b)
    same_tests a b = grind (arith)

full : (n : ℕ) (xs : List (List ℕ)) → length (take n xs) ≡ n → n ≤ length xs
full zero xs h = omega arith
full (suc n) [] h = absurd (omega (arith, h))
full (suc n) (x ∷ xs) h = let k = full n xs (omega (arith, h)) in omega (arith, k)

-- a run that is not empty ends where it does, wherever none would
same_last : (n : ℕ) (a b : List ℕ) (xs : List (List ℕ)) → (n == 0) ≡ false → n ≤ length xs → after_last a (take n xs) ≡ after_last b (take n xs)
same_last zero a b xs h k = absurd (clash refl h)
same_last (suc n) a b [] h k = absurd (omega (arith, k))
same_last (suc n) a b (x ∷ xs) h k = refl

cut_run : (n : ℕ) (end : List ℕ) (ys : List (List ℕ)) → Ascends ys → (n == 0) ≡ false → (length (take n ys) == n) ≡ true → take n ys ≡ filter (λ c. below c (after_last end (take n ys))) ys
cut_run n end ys up e f =
    let long : n ≤ length ys = full n ys (eqb-true (length (take n ys)) n f) in
    cut n [] ys up (from_start ys) long ∙ ap (λ p. filter (λ c. below c p) ys) (same_last n [] end ys e long)

run_cases : (n : ℕ) (end : List ℕ) (ys : List (List ℕ)) → Ascends ys → AreBefore end ys → (z b : Bool) → (n == 0) ≡ z → (length (take n ys) == n) ≡ b
    → cond z ys (take n ys) ≡ filter (λ c. below c (cond (not z && b) (after_last end (take n ys)) end)) ys
run_cases n end ys up h true b e f = sym (all_pass (λ c. below c end) ys h)
run_cases n end ys up h false true e f = cut_run n end ys up e f
run_cases n end ys up h false false e f = short n ys f ∙ sym (all_pass (λ c. below c end) ys h)

run_is : (n : ℕ) (end : List ℕ) (ys : List (List ℕ)) (z : Bool) → (n == 0) ≡ z → cond (not z && (length (take n ys) == n)) (after_last end (take n ys)) end ≡ cond (not z && (length (cond z ys (take n ys)) == n)) (after_last end (cond z ys (take n ys))) end
run_is n end ys true e = refl
run_is n end ys false e = refl

pub run_between : (n : ℕ) (from end : List ℕ) (content run : List (List ℕ)) → Ascends content → AreBefore end content → run ≡ at_most n (onward from content) → run ≡ between from (run_end end n run) content
run_between n from end content run up h is =
    let ys = onward from content in
    let tests : at_most n ys ≡ filter (λ c. below c (run_end end n (at_most n ys))) ys =
    run_cases n end ys (filter_up (λ c. not (below c from)) content up) (onward_all (λ c. below c end ≡ true) (λ c. not (below c from)) content h) (n == 0) (length (take n ys) == n) refl refl
    ∙ ap (λ p. filter (λ c. below c p) ys) (run_is n end ys (n == 0) refl) in
    subst (λ r. r ≡ between from (run_end end n r) content) (sym is)
    (tests ∙ sym (filter_both (λ c. not (below c from)) (λ c. below c (run_end end n (at_most n ys))) content))
