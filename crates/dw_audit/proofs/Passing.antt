-- On tests and on what they leave.
use Rattle.std.proofs.Common.{◌≡◌, ◌||◌, ◌&&◌, ℕ, suc, arith, Bool, true, false, cond, List, [], ◌∷◌, map, length, nat_le, refl, ap, subst}
use Rattle.std.specs.Prelude.{Option, Some, None, MatchOption, Result, Ok, Err, OnOk, filter, filter_map}
use Rattle.std.specs.List.{list_any, list_all, cons_option, AllByRecursion}
use Rattle.std.specs.List.Sorted.{IsStrictlySortedBy}
use Rattle.std.specs.Map.{keys_of}
use Rattle.std.specs.declared.cmp.Ordering.{Ordering}
use Rattle.std.specs.declared.cmp.Ordering.TheVariants.{Less}
use Rattle.std.proofs.lemmas.Bool.Decides.{nat_tests}
use Rattle.dw_derive.specs.Readers.{only_if}

pub only_some : {A : Type 0} (b : Bool) (x y : A) → only_if b x ≡ Some y → (b ≡ true) × (x ≡ y)
only_some true x y e = (refl, cc)
only_some false x y e = cc

pub only_true : {A : Type 0} (b : Bool) (x : A) → b ≡ true → only_if b x ≡ Some x
only_true true x e = refl
only_true false x e = cc

pub if_some : {A : Type 0} (b : Bool) (o : Option A) (y : A) → cond b o None ≡ Some y → (b ≡ true) × (o ≡ Some y)
if_some true o y e = (refl, e)
if_some false o y e = cc

pub none_of : {X : Type 0} (A : Type 0) (B : X → Type 0) (o : Option X) → o ≡ None → MatchOption o A B → A
none_of A B None e h = h
none_of A B (Some x) e h = cc

pub some_of : {X : Type 0} (A : Type 0) (B : X → Type 0) (o : Option X) (x : X) → o ≡ Some x → MatchOption o A B → B x
some_of A B None x e h = cc
some_of A B (Some y) x e h = let same : y ≡ x = cc in subst B same h

pub on_ok : {A E P Q : Type 0} (r : Result A E) → (P → Q) → OnOk r P → OnOk r Q
on_ok (Ok x) f h = f h
on_ok (Err e) f h = h

pub always_ok : {A E P : Type 0} (r : Result A E) → P → OnOk r P
always_ok (Ok x) h = h
always_ok (Err e) h = tt

pub both : (a b : Bool) → a ≡ true → b ≡ true → (a && b) ≡ true
both true b h k = k
both false b h k = cc

pub none_or : (a b : Bool) → (a || b) ≡ false → (a ≡ false) × (b ≡ false)
none_or true b h = cc
none_or false b h = (refl, h)

-- what holds of each that is found holds of all
pub all_found : {A B : Type 0} (P : B → Type 0) (f : A → Option B) → ((x : A) (y : B) → f x ≡ Some y → P y) → (xs : List A) → AllByRecursion P (filter_map f xs)
all_found P f h [] = tt
all_found {B = B} P f h (x ∷ xs) = at (f x) refl (all_found P f h xs)
  where
    at : (o : Option B) → f x ≡ o → AllByRecursion P (filter_map f xs) → AllByRecursion P (cons_option o (filter_map f xs))
    at None e r = r
    at (Some y) e r = (h x y e, r)

pub all_by_tests : {A : Type 0} (p : A → Bool) (xs : List A) → AllByRecursion (λ x. p x ≡ true) xs → list_all p xs ≡ true
all_by_tests p [] h = refl
all_by_tests p (x ∷ xs) h = both (p x) (list_all p xs) h.0 (all_by_tests p xs h.1)

-- where each passes none is left out
pub all_kept : {A : Type 0} (p : A → Bool) (xs : List A) → AllByRecursion (λ x. p x ≡ true) xs → filter p xs ≡ xs
all_kept p [] h = refl
all_kept p (x ∷ xs) h = at (p x) h.0 (all_kept p xs h.1)
  where
    at : (b : Bool) → b ≡ true → filter p xs ≡ xs → cond b (x ∷ filter p xs) (filter p xs) ≡ x ∷ xs
    at true e r = ap (λ ys. x ∷ ys) r
    at false e r = cc

-- a list of which some passes is not empty
pub some_there : {A : Type 0} (p : A → Bool) (xs : List A) → list_any p xs ≡ true → nat_le 1 (length xs) ≡ true
some_there p [] h = cc
some_there p (x ∷ xs) h = some (length xs)
  where
    some : (n : ℕ) → nat_le 1 (suc n) ≡ true
    some n = grind (arith, nat_tests)

pub or_left : (a b : Bool) → a ≡ true → (a || b) ≡ true
or_left true b h = refl
or_left false b h = cc

pub or_right : (a b : Bool) → b ≡ true → (a || b) ≡ true
or_right true b h = refl
or_right false b h = h

pub and_true : (a : Bool) → (a && true) ≡ a
and_true true = refl
and_true false = refl

pub all_map : {A B : Type 0} (P : A → Type 0) (Q : B → Type 0) (f : A → B) → ((x : A) → P x → Q (f x)) → (xs : List A) → AllByRecursion P xs → AllByRecursion Q (map f xs)
all_map P Q f h [] all = tt
all_map P Q f h (x ∷ xs) all = (h x all.0, all_map P Q f h xs all.1)

pub all_weaker : {A : Type 0} (P Q : A → Type 0) → ((x : A) → P x → Q x) → (xs : List A) → AllByRecursion P xs → AllByRecursion Q xs
all_weaker P Q f [] h = tt
all_weaker P Q f (x ∷ xs) h = (f x h.0, all_weaker P Q f xs h.1)

-- what passes a test does
pub all_filter : {A : Type 0} (p : A → Bool) (xs : List A) → AllByRecursion (λ x. p x ≡ true) (filter p xs)
all_filter p [] = tt
all_filter {A = A} p (x ∷ xs) = at (p x) refl (all_filter p xs)
  where
    at : (b : Bool) → p x ≡ b → AllByRecursion (λ y. p y ≡ true) (filter p xs) → AllByRecursion (λ y. p y ≡ true) (cond b (x ∷ filter p xs) (filter p xs))
    at true e r = (e, r)
    at false e r = r

-- the entries that pass a test ascend by their keys where all do
pub ascend_filtered : {K X : Type 0} (R : K → K → Ordering) (p : K × X → Bool) (es : List (K × X)) → IsStrictlySortedBy R (keys_of es) → IsStrictlySortedBy R (keys_of (filter p es))
unfolding IsStrictlySortedBy
ascend_filtered R p [] up = tt
ascend_filtered {K = K} {X = X} R p (e ∷ es) up = at (p e) (ascend_filtered R p es up.1)
  where
    kept : (P : K → Type 0) (fs : List (K × X)) → AllByRecursion P (keys_of fs) → AllByRecursion P (keys_of (filter p fs))
    kept P [] h = tt
    kept P (f ∷ fs) h = by (p f) (kept P fs h.1)
      where
        by : (b : Bool) → AllByRecursion P (keys_of (filter p fs)) → AllByRecursion P (keys_of (cond b (f ∷ filter p fs) (filter p fs)))
        by true r = (h.0, r)
        by false r = r

    at : (b : Bool) → IsStrictlySortedBy R (keys_of (filter p es)) → IsStrictlySortedBy R (keys_of (cond b (e ∷ filter p es) (filter p es)))
    at true r = (kept (λ y. R e.0 y ≡ Less) es up.0, r)
    at false r = r
