-- The first value among some keys.
use Rattle.std.proofs.Common.{◌≡◌, ℕ, ◌<◌, ◌+◌, ◌≤◌, List, [], ◌∷◌, ◌++◌, refl, sym, ap, ◌∙◌, subst, Bool, true, false, not, cond, length, take, drop, get_or, arith, zero, suc}
use Rattle.std.specs.Prelude.{filter_map, Option, Some, None, is_some, nat_lt, slice_get, MatchOption}
use Rattle.std.specs.List.{AllByRecursion, cons_option, position, position_or_len}
use Rattle.std.proofs.lemmas.Bool.Decides.{nat_tests}
use Rattle.std.proofs.lemmas.List.{take_all}
use Rattle.std.proofs.lemmas.List.Elements.{filter_map-append}
use Rattle.std.proofs.lemmas.List.Quantifiers.{position-Some}
use Rattle.std.proofs.lemmas.List.Sums.{fails_before_first}
use Rattle.dw_tablet.specs.Values.{Value}
use Rattle.dw_tablet.specs.Cursors.{says, from_first, FirstIs}
use Rattle.dw_tablet.specs.Places.{below, Ascends, AreFrom, onward}
use Rattle.dw_tablet.proofs.Order.{past, clash}
use Rattle.dw_tablet.proofs.Cut.{from_next, before_next}

says_none : (o : Option Value) → is_some o ≡ false → o ≡ None
says_none None h = refl
says_none (Some v) h = cc

none_before : (f : List ℕ → Option Value) (xs : List (List ℕ)) (i : ℕ) → i ≤ length xs → ((k : ℕ) → k < i → says f (get_or xs k []) ≡ false) → filter_map f (take i xs) ≡ []
none_before f [] zero h p = refl
none_before f [] (suc i) h p = absurd (omega (arith, h))
none_before f (x ∷ xs) zero h p = refl
none_before f (x ∷ xs) (suc i) h p =
    ap (λ o. cons_option o (filter_map f (take i xs))) (says_none (f x) (p 0 (omega arith))) ∙ none_before f xs i (omega (arith, h)) (λ k l. p (suc k) (omega (arith, l)))

pub none_says : (f : List ℕ → Option Value) (xs : List (List ℕ)) → position (says f) xs ≡ None → filter_map f xs ≡ []
none_says f xs h = by (nat_lt (position_or_len (says f) xs) (length xs)) refl h
  where
    by : (b : Bool) → nat_lt (position_or_len (says f) xs) (length xs) ≡ b → cond b (Some (position_or_len (says f) xs)) None ≡ None → filter_map f xs ≡ []
    by true test e = cc
    by false test e =
        let far : length xs ≤ position_or_len (says f) xs = grind (arith, nat_tests) in
        ap (filter_map f) (sym (take_all (length xs) xs (omega arith)))
        ∙ none_before f xs (length xs) (omega arith) (λ k l. fails_before_first (says f) xs k [] (omega (arith, l, far)))

-- a key that stands first, and what is behind it
pub first_says : (f : List ℕ → Option Value) (xs : List (List ℕ)) (i : ℕ) → position (says f) xs ≡ Some i → drop i xs ≡ from_first f xs
first_says f xs i h = let p = position-Some (says f) xs i [] h in at_first f xs i p.0 p.1 p.2
  where
    at_first : (f : List ℕ → Option Value) (xs : List (List ℕ)) (i : ℕ) → i < length xs → says f (get_or xs i []) ≡ true → ((k : ℕ) → k < i → says f (get_or xs k []) ≡ false) → drop i xs ≡ from_first f xs
    at_first f [] i h e p = absurd (omega (arith, h))
    at_first f (x ∷ xs) zero h e p = sym (ap (λ b. cond b (x ∷ xs) (from_first f xs)) e)
    at_first f (x ∷ xs) (suc i) h e p =
        at_first f xs i (omega (arith, h)) e (λ k l. p (suc k) (omega (arith, l))) ∙ sym (ap (λ b. cond b (x ∷ xs) (from_first f xs)) (p 0 (omega arith)))

none_first : (f : List ℕ → Option Value) (xs : List (List ℕ)) → filter_map f xs ≡ [] → from_first f xs ≡ []
none_first f [] h = refl
none_first f (x ∷ xs) h = at (f x) (none_first f xs) h
  where
    at : (o : Option Value) → (filter_map f xs ≡ [] → from_first f xs ≡ []) → cons_option o (filter_map f xs) ≡ [] → cond (is_some o) (x ∷ xs) (from_first f xs) ≡ []
    at None later g = later g
    at (Some v) later g = cc

pub none_stands : (f : List ℕ → Option Value) (xs : List (List ℕ)) → position (says f) xs ≡ None → [] ≡ from_first f xs
none_stands f xs h = sym (none_first f xs (none_says f xs h))

-- the values are those from the first on
pub values_first : (f : List ℕ → Option Value) (xs : List (List ℕ)) → filter_map f (from_first f xs) ≡ filter_map f xs
values_first f [] = refl
values_first f (x ∷ xs) = at (f x) refl (values_first f xs)
  where
    at : (o : Option Value) → f x ≡ o → filter_map f (from_first f xs) ≡ filter_map f xs → filter_map f (cond (is_some o) (x ∷ xs) (from_first f xs)) ≡ cons_option o (filter_map f xs)
    at None e g = g
    at (Some v) e g = ap (λ o. cons_option o (filter_map f xs)) e

-- the first key says a value
pub head_says : (f : List ℕ → Option Value) (xs ks : List (List ℕ)) (k : List ℕ) → from_first f xs ≡ k ∷ ks → says f k ≡ true
head_says f [] ks k h = cc
head_says f (x ∷ xs) ks k h = at (says f x) refl (head_says f xs ks k) h
  where
    heads : (a b : List (List ℕ)) (y : List ℕ) → y ∷ a ≡ k ∷ b → y ≡ k
    heads a b y e = cc

    at : (c : Bool) → says f x ≡ c → (from_first f xs ≡ k ∷ ks → says f k ≡ true) → cond c (x ∷ xs) (from_first f xs) ≡ k ∷ ks → says f k ≡ true
    at true e later g = ap (says f) (sym (heads xs ks x g)) ∙ e
    at false e later g = later g

-- what holds of all keys holds of the first that says a value
pub first_among : (P : List ℕ → Type 0) (f : List ℕ → Option Value) (xs ks : List (List ℕ)) (k : List ℕ) → from_first f xs ≡ k ∷ ks → AllByRecursion P xs → P k
first_among P f [] ks k h a = absurd (no_head h)
  where
    no_head : [] ≡ k ∷ ks → ⊥
    no_head e = cc
first_among P f (x ∷ xs) ks k h a = at (says f x) (λ g. first_among P f xs ks k g a.1) h
  where
    heads : (c b : List (List ℕ)) (y : List ℕ) → y ∷ c ≡ k ∷ b → y ≡ k
    heads c b y e = cc

    at : (c : Bool) → (from_first f xs ≡ k ∷ ks → P k) → cond c (x ∷ xs) (from_first f xs) ≡ k ∷ ks → P k
    at true later g = subst P (heads xs ks x g) a.0
    at false later g = later g

-- more keys behind those of which one says a value
pub first_then : (f : List ℕ → Option Value) (xs ys ks : List (List ℕ)) (k : List ℕ) → from_first f xs ≡ k ∷ ks → from_first f (xs ++ ys) ≡ k ∷ (ks ++ ys)
first_then f [] ys ks k h = cc
first_then f (x ∷ xs) ys ks k h = at (says f x) (first_then f xs ys ks k) h
  where
    at : (c : Bool) → (from_first f xs ≡ k ∷ ks → from_first f (xs ++ ys) ≡ k ∷ (ks ++ ys)) → cond c (x ∷ xs) (from_first f xs) ≡ k ∷ ks → cond c (x ∷ (xs ++ ys)) (from_first f (xs ++ ys)) ≡ k ∷ (ks ++ ys)
    at true later g = ap (λ l. l ++ ys) g
    at false later g = later g

pub none_then : (f : List ℕ → Option Value) (xs ys : List (List ℕ)) → from_first f xs ≡ [] → filter_map f (xs ++ ys) ≡ filter_map f ys
none_then f xs ys h = filter_map-append f xs ys ∙ ap (λ l. l ++ filter_map f ys) (sym (values_first f xs) ∙ ap (filter_map f) h)

-- among keys that ascend, those from the place after the first that says a value are those behind it
pub after_first : (f : List ℕ → Option Value) (xs ks : List (List ℕ)) (k : List ℕ) → Ascends xs → from_first f xs ≡ k ∷ ks → onward (k ++ 0 ∷ []) xs ≡ ks
after_first f [] ks k up h = cc
after_first f (x ∷ xs) ks k up h = at (says f x) (after_first f xs ks k up.1) h
  where
    heads : (c b : List (List ℕ)) (y : List ℕ) → y ∷ c ≡ k ∷ b → (y ≡ k) × (c ≡ b)
    heads c b y e = (cc, cc)

    all_on : (a : List ℕ) (ys : List (List ℕ)) → AreFrom a ys → onward a ys ≡ ys
    all_on a [] g = refl
    all_on a (y ∷ ys) g = ap (λ b. cond (not b) (y ∷ onward a ys) (onward a ys)) g.0 ∙ ap (λ l. y ∷ l) (all_on a ys g.1)

    at : (c : Bool) → (from_first f xs ≡ k ∷ ks → onward (k ++ 0 ∷ []) xs ≡ ks) → cond c (x ∷ xs) (from_first f xs) ≡ k ∷ ks → onward (k ++ 0 ∷ []) (x ∷ xs) ≡ ks
    at true later g =
        let e = heads xs ks x g in
        let gone : below x (k ++ 0 ∷ []) ≡ true = ap (λ y. below y (k ++ 0 ∷ [])) e.0 ∙ before_next k in
        ap (λ b. cond (not b) (x ∷ onward (k ++ 0 ∷ []) xs) (onward (k ++ 0 ∷ []) xs)) gone
        ∙ (ap (λ y. onward (y ++ 0 ∷ []) xs) (sym e.0)
        ∙ (all_on (x ++ 0 ∷ []) xs (from_next x xs up.0)
        ∙ e.1))
    at false later g =
        let gone : below x (k ++ 0 ∷ []) ≡ true = past x k (k ++ 0 ∷ []) (first_among (λ j. below x j ≡ true) f xs ks k g up.0) (before_next k) in
        ap (λ b. cond (not b) (x ∷ onward (k ++ 0 ∷ []) xs) (onward (k ++ 0 ∷ []) xs)) gone ∙ later g

-- the first of the keys from the first that says a value on, by what was read of it
pub first_read : {A : Type 0} (r : Option A) (g : A → Value) (f : List ℕ → Option Value) (keys known : List (List ℕ)) (key : List ℕ) → keys ≡ from_first f known → slice_get keys 0 ≡ Some key
    → MatchOption r (f key ≡ None) (λ a. f key ≡ Some (g a)) → MatchOption r (keys ≡ []) (λ a. FirstIs f keys (g a))
first_read r g f [] known key is at_key read = cc
first_read (Some a) g f (k ∷ ks) known key is at_key read = ap f (some_is k key at_key) ∙ read
  where
    some_is : (x y : List ℕ) → Some x ≡ Some y → x ≡ y
    some_is x y e = cc
first_read None g f (k ∷ ks) known key is at_key read = absurd (clash (head_says f known ks k (sym is)) (ap is_some (ap f (some_is k key at_key) ∙ read)))
  where
    some_is : (x y : List ℕ) → Some x ≡ Some y → x ≡ y
    some_is x y e = cc

pub head_is : (keys : List (List ℕ)) (key : List ℕ) → slice_get keys 0 ≡ Some key → keys ≡ key ∷ drop 1 keys
head_is [] key h = cc
head_is (k ∷ ks) key h = ap (λ x. x ∷ ks) (some_is k key h)
  where
    some_is : (x y : List ℕ) → Some x ≡ Some y → x ≡ y
    some_is x y e = cc

-- the first key's value is the first of all
pub known_first : (f : List ℕ → Option Value) (keys known : List (List ℕ)) (v : Value) → keys ≡ from_first f known → FirstIs f keys v → slice_get (filter_map f known) 0 ≡ Some v
known_first f [] known v is first = absurd first
known_first f (k ∷ ks) known v is first =
    ap (λ vs. slice_get vs 0) (sym (values_first f known) ∙ ap (filter_map f) (sym is)) ∙ at (f k) first
  where
    at : (o : Option Value) → o ≡ Some v → slice_get (cons_option o (filter_map f ks)) 0 ≡ Some v
    at (Some w) e = e
    at None e = cc
