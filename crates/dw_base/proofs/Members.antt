-- What stands in a list that ascends.
use Rattle.std.proofs.Common.{◌≡◌, ◌⊎◌, ◌↔◌, ◌<◌, ◌≤◌, ◌+◌, ℕ, zero, suc, List, [], ◌∷◌, length, get_or, refl, sym, ap, ◌∙◌, subst, inl, inr, arith}
use Rattle.std.specs.List.{Contains, AllByRecursion}
use Rattle.std.specs.Ordering.{match_ordering, nat_cmp, ordering_index, ordering_reverse, is_lt}
use Rattle.std.specs.Cmp.Lexicographic.{slice_cmp, nat_list_cmp_total}
use Rattle.std.specs.Prelude.{Any}
use Rattle.std.specs.Cmp.{IsTotalOrder, tied_itself}
use Rattle.std.specs.List.Sorted.{IsStrictlySortedBy, IsPartitionPoint, IsSearchInRange, IsBinarySearchResult, IsNonDecreasingBy}
use Rattle.std.specs.Prelude.{Result, Ok, Err, IsTrue, is_ok}
use Rattle.std.specs.declared.cmp.Ordering.{Ordering}
use Rattle.std.specs.declared.cmp.Ordering.TheVariants.{Less, Equal, Greater}
use Rattle.std.proofs.lemmas.Bool.{cases_lt}
use Rattle.std.proofs.lemmas.List.Elements.{Contains-append_cases, Contains-push_cases, Contains-append_left, Contains-append_right, Contains-push}
use Rattle.std.proofs.lemmas.List.Sorted.{searchable_from_sorted}
use Rattle.std.proofs.lemmas.Map.Keys.{Less-from_sorted}
use Rattle.std.proofs.lemmas.Map.Lookups.{CmpEqualImpliesEq, exact_bytes}
use Rattle.dw_base.specs.Ascending.{with_item, with_items}
use Rattle.dw_base.proofs.Search.{ascending_with, searchable}

-- the item stands somewhere in the list, by recursion
abbrev pub StandsIn : {A : Type 0} → List A → A → Type 0
StandsIn [] x = ⊥
StandsIn (y ∷ ys) x = (y ≡ x) ⊎ StandsIn ys x

none_stands : {A : Type 0} (x : A) → Contains [] x → ⊥
none_stands x h = absurd (omega (arith, h.1))

pub stands_from : {A : Type 0} (xs : List A) (x : A) → Contains xs x → StandsIn xs x
stands_from [] x h = none_stands x h
stands_from (y ∷ ys) x h = past (λ k. stands_from ys x k) (Contains-append_cases (y ∷ []) ys x h)
  where
    first : Contains [] x ⊎ (y ≡ x) → StandsIn (y ∷ ys) x
    first (inl k) = absurd (none_stands x k)
    first (inr e) = inl e

    past : (Contains ys x → StandsIn ys x) → Contains (y ∷ []) x ⊎ Contains ys x → StandsIn (y ∷ ys) x
    past f (inl k) = first (Contains-push_cases [] y x k)
    past f (inr k) = inr (f k)

pub from_stands : {A : Type 0} (xs : List A) (x : A) → StandsIn xs x → Contains xs x
from_stands [] x h = absurd h
from_stands (y ∷ ys) x (inl e) = subst (Contains (y ∷ ys)) e (Contains-append_left (y ∷ []) ys y (Contains-push [] y))
from_stands (y ∷ ys) x (inr h) = Contains-append_right (y ∷ []) ys x (from_stands ys x h)

all_stand : {A : Type 0} (P : A → Type 0) (xs : List A) (x : A) → AllByRecursion P xs → StandsIn xs x → P x
all_stand P [] x all h = absurd h
all_stand P (y ∷ ys) x all (inl e) = subst P e all.0
all_stand P (y ∷ ys) x all (inr h) = all_stand P ys x all.1 h

-- the item at a place, with what holds there
item_at : {A : Type 0} (P : A → Type 0) (xs : List A) (i : ℕ) → i < length xs → ((d : A) → P (get_or xs i d)) → (x : A) × (get_or xs i x ≡ x) × P x
item_at P [] i within h = absurd (omega arith)
item_at P (y ∷ ys) zero within h = (y, refl, h y)
item_at P (y ∷ ys) (suc i) within h = item_at P ys i (omega arith) h

module _ {K : Type 0} {R : K → K → Ordering} (o : IsTotalOrder R) (exact : CmpEqualImpliesEq R) where
  old_at : (r : Ordering) (x y p : K) (ys more : List K) → (StandsIn ys p → StandsIn more p) → StandsIn (y ∷ ys) p
      → StandsIn (match_ordering r (x ∷ y ∷ ys) (y ∷ ys) (y ∷ more)) p
  old_at Less x y p ys more f h = inr h
  old_at Equal x y p ys more f h = h
  old_at Greater x y p ys more f (inl e) = inl e
  old_at Greater x y p ys more f (inr h) = inr (f h)

  -- what stood there stands there still
  old_stands : (xs : List K) (x p : K) → StandsIn xs p → StandsIn (with_item R xs x) p
  old_stands [] x p h = absurd h
  old_stands (y ∷ ys) x p h = old_at (R x y) x y p ys (with_item R ys x) (old_stands ys x p) h

  new_at : (r : Ordering) (x y : K) (ys more : List K) → R x y ≡ r → StandsIn more x
      → StandsIn (match_ordering r (x ∷ y ∷ ys) (y ∷ ys) (y ∷ more)) x
  new_at Less x y ys more e h = inl refl
  new_at Equal x y ys more e h = inl (sym (exact x y e))
  new_at Greater x y ys more e h = inr h

  -- the new one does
  new_stands : (xs : List K) (x : K) → StandsIn (with_item R xs x) x
  new_stands [] x = inl refl
  new_stands (y ∷ ys) x = new_at (R x y) x y ys (with_item R ys x) refl (new_stands ys x)

  either_at : (r : Ordering) (x y p : K) (ys more : List K) → (StandsIn more p → StandsIn ys p ⊎ (p ≡ x))
      → StandsIn (match_ordering r (x ∷ y ∷ ys) (y ∷ ys) (y ∷ more)) p → StandsIn (y ∷ ys) p ⊎ (p ≡ x)
  either_at Less x y p ys more f (inl e) = inr (sym e)
  either_at Less x y p ys more f (inr h) = inl h
  either_at Equal x y p ys more f h = inl h
  either_at Greater x y p ys more f (inl e) = inl (inl e)
  either_at Greater x y p ys more f (inr h) = past (f h)
    where
      past : StandsIn ys p ⊎ (p ≡ x) → StandsIn (y ∷ ys) p ⊎ (p ≡ x)
      past (inl k) = inl (inr k)
      past (inr e) = inr e

  -- and nothing else
  either_stands : (xs : List K) (x p : K) → StandsIn (with_item R xs x) p → StandsIn xs p ⊎ (p ≡ x)
  either_stands [] x p (inl e) = inr (sym e)
  either_stands [] x p (inr h) = absurd h
  either_stands (y ∷ ys) x p h = either_at (R x y) x y p ys (with_item R ys x) (either_stands ys x p) h

  -- the members of a set with one more item
  pub members_with : (xs : List K) (x p : K) → Contains (with_item R xs x) p ↔ (Contains xs p ⊎ (p ≡ x))
  members_with xs x p = (λ h. apart (either_stands xs x p (stands_from (with_item R xs x) p h)), back)
    where
      apart : StandsIn xs p ⊎ (p ≡ x) → Contains xs p ⊎ (p ≡ x)
      apart (inl k) = inl (from_stands xs p k)
      apart (inr e) = inr e

      back : Contains xs p ⊎ (p ≡ x) → Contains (with_item R xs x) p
      back (inl k) = from_stands (with_item R xs x) p (old_stands xs x p (stands_from xs p k))
      back (inr e) = subst (Contains (with_item R xs x)) (sym e) (from_stands (with_item R xs x) x (new_stands xs x))

  below_itself : (x y : K) → x ≡ y → R x y ≡ Less → ⊥
  below_itself x y e h = let same : R y y ≡ Equal = tied_itself o y in let at : R y y ≡ Less = subst (λ z. R z y ≡ Less) e h in cc

  above_itself : (x y : K) → x ≡ y → R x y ≡ Greater → ⊥
  above_itself x y e h = let same : R y y ≡ Equal = tied_itself o y in let at : R y y ≡ Greater = subst (λ z. R z y ≡ Greater) e h in cc

  -- a search that ends between the smaller and the larger items did not pass the item
  pub not_there : (xs : List K) (x : K) (i : ℕ) → IsPartitionPoint (λ y. R y x ≡ Less) (λ y. R y x ≡ Greater) xs i → Contains xs x → ⊥
  not_there xs x i around h = by_place (cases_lt h.0 i)
    where
      by_place : (h.0 < i) ⊎ (i ≤ h.0) → ⊥
      by_place (inl low) = below_itself (get_or xs h.0 x) x h.2 (around.0 h.0 x (omega arith) low)
      by_place (inr high) = above_itself (get_or xs h.0 x) x h.2 (around.1 h.0 x high h.1)

  -- a search finds the item exactly where it is a member
  pub found_member : (xs : List K) (x : K) (r : Result ℕ ℕ) → IsStrictlySortedBy R xs → IsSearchInRange r (length xs) → IsBinarySearchResult (λ y. R y x) xs r → IsTrue (is_ok r) ↔ Contains xs x
  found_member xs x (Ok i) up within ends = (λ t. (i, within, exact (get_or xs i x) x (ends x)), λ h. refl)
  found_member xs x (Err i) up within ends = (λ t. cc, λ h. absurd (not_there xs x i (ends (searchable o xs x up)) h))

  -- the same by a name, in whose order the items stand
  module _ (name : K → List ℕ) (by_name : (x y : K) → R x y ≡ slice_cmp nat_cmp (name x) (name y)) where
    names_rise : (xs : List K) (bytes : List ℕ) → IsStrictlySortedBy R xs → IsNonDecreasingBy (λ y. ordering_index (slice_cmp nat_cmp (name y) bytes)) xs
    names_rise xs bytes up =
        searchable_from_sorted nat_list_cmp_total name xs bytes (λ k d low high.
        let rises : R (get_or xs k d) (get_or xs (k + 1) d) ≡ Less = Less-from_sorted R xs k (k + 1) d up (omega arith) high in
        let falls : R (get_or xs (k + 1) d) (get_or xs k d) ≡ Greater = o.antisymm (get_or xs (k + 1) d) (get_or xs k d) ∙ ap ordering_reverse rises in
        ap is_lt (sym (by_name (get_or xs (k + 1) d) (get_or xs k d)) ∙ falls))

    no_name : (xs : List K) (bytes : List ℕ) (i : ℕ) → IsPartitionPoint (λ y. slice_cmp nat_cmp (name y) bytes ≡ Less) (λ y. slice_cmp nat_cmp (name y) bytes ≡ Greater) xs i → Any (λ x. name x ≡ bytes) xs → ⊥
    no_name xs bytes i around h = by_place (cases_lt h.0 i)
      where
        same : slice_cmp nat_cmp (name (get_or xs h.0 h.1)) bytes ≡ Equal
        same = ap (λ y. slice_cmp nat_cmp (name y) bytes) h.3 ∙ (ap (λ ys. slice_cmp nat_cmp ys bytes) h.4 ∙ tied_itself nat_list_cmp_total bytes)

        by_place : (h.0 < i) ⊎ (i ≤ h.0) → ⊥
        by_place (inl low) = let e = around.0 h.0 h.1 (omega arith) low in cc (same, e)
        by_place (inr high) = let e = around.1 h.0 h.1 high h.2 in cc (same, e)

    pub found_name : (xs : List K) (bytes : List ℕ) (r : Result ℕ ℕ) → IsStrictlySortedBy R xs → IsSearchInRange r (length xs) → IsBinarySearchResult (λ y. slice_cmp nat_cmp (name y) bytes) xs r
        → IsTrue (is_ok r) ↔ Any (λ x. name x ≡ bytes) xs
    found_name xs bytes (Ok i) up within ends =
        let x = item_at (λ y. slice_cmp nat_cmp (name y) bytes ≡ Equal) xs i within ends in
        (λ t. (i, x.0, within, x.1, exact_bytes (name x.0) bytes x.2), λ h. refl)
    found_name xs bytes (Err i) up within ends = (λ t. cc, λ h. absurd (no_name xs bytes i (ends (names_rise xs bytes up)) h))

  -- a set with more items, one after another, ascends
  pub ascending_with_items : (xs more : List K) → IsStrictlySortedBy R xs → IsStrictlySortedBy R (with_items R xs more)
  ascending_with_items xs [] up = up
  ascending_with_items xs (y ∷ ys) up = ascending_with_items (with_item R xs y) ys (ascending_with o xs y up)

  kept_with_items : (xs more : List K) (p : K) → StandsIn xs p → StandsIn (with_items R xs more) p
  kept_with_items xs [] p h = h
  kept_with_items xs (y ∷ ys) p h = kept_with_items (with_item R xs y) ys p (old_stands xs y p h)

  more_stand : (xs more : List K) (p : K) → StandsIn more p → StandsIn (with_items R xs more) p
  more_stand xs [] p h = absurd h
  more_stand xs (y ∷ ys) p (inl e) = kept_with_items (with_item R xs y) ys p (subst (StandsIn (with_item R xs y)) e (new_stands xs y))
  more_stand xs (y ∷ ys) p (inr h) = more_stand (with_item R xs y) ys p h

  from_more : (xs more : List K) (p : K) → StandsIn (with_items R xs more) p → StandsIn xs p ⊎ StandsIn more p
  from_more xs [] p h = inl h
  from_more xs (y ∷ ys) p h = past (from_more (with_item R xs y) ys p h)
    where
      apart : StandsIn xs p ⊎ (p ≡ y) → StandsIn xs p ⊎ StandsIn (y ∷ ys) p
      apart (inl k) = inl k
      apart (inr e) = inr (inl (sym e))

      past : StandsIn (with_item R xs y) p ⊎ StandsIn ys p → StandsIn xs p ⊎ StandsIn (y ∷ ys) p
      past (inl k) = apart (either_stands xs y p k)
      past (inr k) = inr (inr k)

  below_first : (x y : K) → R x y ≡ Less → R y x ≡ Less → ⊥
  below_first x y h k = below_itself x x refl (o.trans x y x h k)

  first_first : (x y : K) (xs ys : List K) → AllByRecursion (λ z. R x z ≡ Less) xs → AllByRecursion (λ z. R y z ≡ Less) ys
      → StandsIn (y ∷ ys) x → StandsIn (x ∷ xs) y → x ≡ y
  first_first x y xs ys up down (inl e) k = sym e
  first_first x y xs ys up down (inr h) (inl e) = e
  first_first x y xs ys up down (inr h) (inr k) =
      absurd (below_first x y (all_stand (λ z. R x z ≡ Less) xs y up k) (all_stand (λ z. R y z ≡ Less) ys x down h))

  past_first : (x : K) (xs ys : List K) (p : K) → AllByRecursion (λ z. R x z ≡ Less) xs → StandsIn xs p → (x ≡ p) ⊎ StandsIn ys p → StandsIn ys p
  past_first x xs ys p up h (inl e) = absurd (below_itself x p e (all_stand (λ z. R x z ≡ Less) xs p up h))
  past_first x xs ys p up h (inr k) = k

  -- lists that ascend and have the same members are equal
  same_stand : (xs ys : List K) → IsStrictlySortedBy R xs → IsStrictlySortedBy R ys → ((p : K) → StandsIn xs p → StandsIn ys p) → ((p : K) → StandsIn ys p → StandsIn xs p) → xs ≡ ys
  unfolding IsStrictlySortedBy
  same_stand [] [] up down there back = refl
  same_stand [] (y ∷ ys) up down there back = absurd (back y (inl refl))
  same_stand (x ∷ xs) [] up down there back = absurd (there x (inl refl))
  same_stand (x ∷ xs) (y ∷ ys) up down there back =
      let e : x ≡ y = first_first x y xs ys up.0 down.0 (there x (inl refl)) (back y (inl refl)) in
      let tails : xs ≡ ys = same_stand xs ys up.1 down.1
      (λ p h. past_first x xs ys p up.0 h (subst (λ z. (z ≡ p) ⊎ StandsIn ys p) (sym e) (there p (inr h))))
      (λ p h. past_first y ys xs p down.0 h (subst (λ z. (z ≡ p) ⊎ StandsIn xs p) e (back p (inr h)))) in
      ap (λ z. z ∷ xs) e ∙ ap (λ zs. y ∷ zs) tails

  -- the only list that ascends and has the members of a list is the set of its items
  pub set_of_members : (items set : List K) → IsStrictlySortedBy R [] → IsStrictlySortedBy R set → ((x : K) → Contains set x ↔ Contains items x) → set ≡ with_items R [] items
  set_of_members items set none up same =
      same_stand set (with_items R [] items) up (ascending_with_items [] items none)
      (λ p h. more_stand [] items p (stands_from items p ((same p).0 (from_stands set p h))))
      (λ p h. only p (from_more [] items p h))
    where
      only : (p : K) → ⊥ ⊎ StandsIn items p → StandsIn set p
      only p (inl h) = absurd h
      only p (inr h) = stands_from set p ((same p).1 (from_stands items p h))

  -- the set of some items has these items and no others
  pub members_of_set : (items : List K) (x : K) → Contains (with_items R [] items) x ↔ Contains items x
  members_of_set items x = (
    (λ h. from_stands items x (only (from_more [] items x (stands_from (with_items R [] items) x h)))),
    λ h. from_stands (with_items R [] items) x (more_stand [] items x (stands_from items x h)),
  )
    where
      only : ⊥ ⊎ StandsIn items x → StandsIn items x
      only (inl h) = absurd h
      only (inr h) = h
