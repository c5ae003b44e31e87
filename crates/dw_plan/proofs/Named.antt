-- On names in lists.
use Rattle.std.proofs.Common.{◌≡◌, ◌↔◌, inl, inr, ℕ, Bool, true, false, cond, ◌&&◌, ◌||◌, List, [], ◌∷◌, refl, sym, ap, ◌∙◌}
use Rattle.std.specs.Prelude.{filter, IsTrue}
use Rattle.std.specs.List.{Contains}
use Rattle.std.specs.Ordering.{nat_cmp, is_eq}
use Rattle.std.specs.Cmp.{tied_itself}
use Rattle.std.specs.Cmp.Lexicographic.{slice_cmp, nat_list_cmp_total}
use Rattle.std.proofs.lemmas.Map.Lookups.{exact_bytes}
use Rattle.dw_base.proofs.Members.{StandsIn, stands_from, from_stands}
use Rattle.dw_base.proofs.Memberships.{same_tests}
use Rattle.dw_event.specs.Texts.{is_same}
use Rattle.dw_outside.proofs.CellMaps.{tied}
use Rattle.dw_plan.specs.Joins.{has}

pub same_is : (a b : List ℕ) → is_same a b ≡ true → a ≡ b
same_is a b h = exact_bytes a b (tied (slice_cmp nat_cmp a b) h)

pub same_itself : (a b : List ℕ) → a ≡ b → is_same a b ≡ true
same_itself a b e = ap (is_same a) (sym e) ∙ ap is_eq (tied_itself nat_list_cmp_total a)

pub or_none : (a : Bool) → (a || false) ≡ a
or_none true = refl
or_none false = refl

and_none : (a : Bool) → (a && false) ≡ false
and_none true = refl
and_none false = refl

pub or_right : (a b : Bool) → b ≡ true → (a || b) ≡ true
or_right true b h = refl
or_right false b h = h

pub stands_has : (xs : List (List ℕ)) (s : List ℕ) → StandsIn xs s → has xs s ≡ true
stands_has [] s h = absurd h
stands_has (x ∷ xs) s (inl e) = ap (λ b. b || has xs s) (same_itself s x (sym e))
stands_has (x ∷ xs) s (inr h) = or_right (is_same s x) (has xs s) (stands_has xs s h)

pub has_stands : (xs : List (List ℕ)) (s : List ℕ) → has xs s ≡ true → StandsIn xs s
has_stands [] s h = cc
has_stands (x ∷ xs) s h = at (is_same s x) refl h (has_stands xs s)
  where
    at : (b : Bool) → is_same s x ≡ b → (b || has xs s) ≡ true → (has xs s ≡ true → StandsIn xs s) → StandsIn (x ∷ xs) s
    at true e k r = inl (sym (same_is s x e))
    at false e k r = inr (r k)

-- a test that says whether a name is a member
pub has_contains : (xs : List (List ℕ)) (s : List ℕ) (b : Bool) → IsTrue b ↔ Contains xs s → b ≡ has xs s
has_contains xs s b h = same_tests b (has xs s) (
  (λ t. stands_has xs s (stands_from xs s (h.0 t))),
  λ e. h.1 (from_stands xs s (has_stands xs s e)),
)

pub contains_has : (xs : List (List ℕ)) (s : List ℕ) → Contains xs s → has xs s ≡ true
contains_has xs s h = stands_has xs s (stands_from xs s h)

pub has_filter : (p : List ℕ → Bool) (xs : List (List ℕ)) (s : List ℕ) → has (filter p xs) s ≡ (has xs s && p s)
has_filter p [] s = refl
has_filter p (x ∷ xs) s = at (is_same s x) refl (p x) refl (has_filter p xs s)
  where
    at : (b : Bool) → is_same s x ≡ b → (c : Bool) → p x ≡ c → has (filter p xs) s ≡ (has xs s && p s)
        → has (cond c (x ∷ filter p xs) (filter p xs)) s ≡ ((b || has xs s) && p s)
    at true e true f r = ap (λ z. z || has (filter p xs) s) e ∙ sym (ap p (same_is s x e) ∙ f)
    at true e false f r = let q : p s ≡ false = ap p (same_is s x e) ∙ f in r ∙ ap (λ z. has xs s && z) q ∙ and_none (has xs s) ∙ sym q
    at false e true f r = ap (λ z. z || has (filter p xs) s) e ∙ r
    at false e false f r = r
