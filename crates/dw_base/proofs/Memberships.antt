-- What is in a list, by a fact and by a test.
use Rattle.std.proofs.Common.{◌≡◌, ◌⊎◌, ◌↔◌, ℕ, Bool, true, false, List, [], ◌∷◌, refl, ap, subst, get_or, inl, inr}
use Rattle.std.specs.Prelude.{◌||◌, IsTrue, Any}
use Rattle.std.specs.List.{Contains, list_any}
use Rattle.std.specs.Str.{bytes_eq}
use Rattle.std.proofs.lemmas.Slice.Eq.{bytes_eq-Decides}
use Rattle.dw_base.proofs.Members.{StandsIn, stands_from, from_stands}

-- a test that holds exactly where another does
pub same_tests : (a b : Bool) → IsTrue a ↔ (b ≡ true) → a ≡ b
same_tests true true h = refl
same_tests true false h = let e : false ≡ true = h.0 refl in cc
same_tests false true h = let e : false ≡ true = h.1 refl in cc
same_tests false false h = refl

or_parts : (a b : Bool) → (a || b) ≡ true → (a ≡ true) ⊎ (b ≡ true)
or_parts true b h = inl refl
or_parts false b h = inr h

or_right : (a b : Bool) → b ≡ true → (a || b) ≡ true
or_right true b h = refl
or_right false b h = h

passes : (names : List (List ℕ)) (name : List ℕ) → list_any (λ n. bytes_eq n name) names ≡ true → StandsIn names name
passes [] name h = cc
passes (n ∷ ns) name h = one (λ k. passes ns name k) (or_parts (bytes_eq n name) (list_any (λ m. bytes_eq m name) ns) h)
  where
    one : (list_any (λ m. bytes_eq m name) ns ≡ true → StandsIn ns name) → (bytes_eq n name ≡ true) ⊎ (list_any (λ m. bytes_eq m name) ns ≡ true) → StandsIn (n ∷ ns) name
    one rest (inl e) = inl ((bytes_eq-Decides n name).0 e)
    one rest (inr k) = inr (rest k)

passed : (names : List (List ℕ)) (name : List ℕ) → StandsIn names name → list_any (λ n. bytes_eq n name) names ≡ true
passed [] name h = absurd h
passed (n ∷ ns) name (inl e) = ap (λ b. b || list_any (λ m. bytes_eq m name) ns) ((bytes_eq-Decides n name).1 e)
passed (n ∷ ns) name (inr h) = or_right (bytes_eq n name) (list_any (λ m. bytes_eq m name) ns) (passed ns name h)

-- a text is in a list of texts exactly where some text of the list has its bytes
pub named : (names : List (List ℕ)) (name : List ℕ) → (list_any (λ n. bytes_eq n name) names ≡ true) ↔ Contains names name
named names name = ((λ h. from_stands names name (passes names name h)), λ h. passed names name (stands_from names name h))

any_contains : (names : List (List ℕ)) (name : List ℕ) → Any (λ n. n ≡ name) names → Contains names name
any_contains names name h = (h.0, h.2, subst (λ (n : List ℕ). get_or names h.0 n ≡ n) h.4 h.3)

contains_any : (names : List (List ℕ)) (name : List ℕ) → Contains names name → Any (λ n. n ≡ name) names
contains_any names name h = (h.0, name, h.1, h.2, refl)

-- a search by a name answers as the test on the names does
pub found_named : (names : List (List ℕ)) (name : List ℕ) (b : Bool) → IsTrue b ↔ Any (λ n. n ≡ name) names → b ≡ list_any (λ n. bytes_eq n name) names
found_named names name b h =
    same_tests b (list_any (λ n. bytes_eq n name) names) (
      (λ t. (named names name).1 (any_contains names name (h.0 t))),
      (λ e. h.1 (contains_any names name ((named names name).0 e))),
    )
