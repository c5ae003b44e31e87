-- On two lists that ascend, merged.
use Rattle.std.proofs.Common.{◌≡◌, ℕ, Bool, true, false, ◌||◌, List, [], ◌∷◌, refl, sym, ap, ◌∙◌}
use Rattle.std.specs.List.{AllByRecursion}
use Rattle.std.specs.List.Sorted.{IsStrictlySortedBy}
use Rattle.std.specs.Ordering.{nat_cmp, match_ordering, ordering_reverse}
use Rattle.std.specs.Cmp.Lexicographic.{slice_cmp, nat_list_cmp_total}
use Rattle.std.specs.Set.{sorted_merge}
use Rattle.std.specs.declared.cmp.Ordering.{Ordering}
use Rattle.std.specs.declared.cmp.Ordering.TheVariants.{Less, Equal, Greater}
use Rattle.std.proofs.lemmas.Map.Lookups.{exact_bytes}
use Rattle.dw_event.specs.Texts.{is_same}
use Rattle.dw_plan.specs.Joins.{has}
use Rattle.dw_plan.proofs.Named.{or_none}

abbrev merge : List (List ℕ) → List (List ℕ) → List (List ℕ)
merge = sorted_merge (slice_cmp nat_cmp) true

abbrev cmp : List ℕ → List ℕ → Ordering
cmp = slice_cmp nat_cmp

abbrev Below : List ℕ → List (List ℕ) → Type 0
Below x ys = AllByRecursion (λ y. cmp x y ≡ Less) ys

by_rank : (P : List (List ℕ) → Type 0) (k : Ordering) (xs ys zs : List (List ℕ)) → (k ≡ Less → P xs) → (k ≡ Equal → P ys) → (k ≡ Greater → P zs) → P (match_ordering k xs ys zs)
by_rank P Less xs ys zs a b c = a refl
by_rank P Equal xs ys zs a b c = b refl
by_rank P Greater xs ys zs a b c = c refl

under : (x y : List ℕ) → cmp x y ≡ Greater → cmp y x ≡ Less
under x y h = nat_list_cmp_total.antisymm y x ∙ ap ordering_reverse h

all_below : (x y : List ℕ) (ys : List (List ℕ)) → cmp x y ≡ Less → Below y ys → Below x ys
all_below x y [] h b = tt
all_below x y (z ∷ zs) h b = (nat_list_cmp_total.trans x y z h b.0, all_below x y zs h b.1)

level : (x y : List ℕ) (ys : List (List ℕ)) → x ≡ y → Below y ys → Below x ys
level x y [] e b = tt
level x y (z ∷ zs) e b = (ap (λ a. cmp a z) e ∙ b.0, level x y zs e b.1)

all_at : (P : List ℕ → Type 0) (x : List ℕ) (xs : List (List ℕ)) → P x → AllByRecursion P xs → ((ys : List (List ℕ)) → AllByRecursion P ys → AllByRecursion P (merge xs ys)) → (ys : List (List ℕ)) → AllByRecursion P ys → AllByRecursion P (merge (x ∷ xs) ys)
all_at P x xs p a h [] b = (p, a)
all_at P x xs p a h (y ∷ ys) b = by_rank (AllByRecursion P) (cmp x y) _ _ _ (λ _. (p, h (y ∷ ys) b)) (λ _. (p, h ys b.1)) (λ _. (b.0, all_at P x xs p a h ys b.1))

all_merged : (P : List ℕ → Type 0) (xs ys : List (List ℕ)) → AllByRecursion P xs → AllByRecursion P ys → AllByRecursion P (merge xs ys)
all_merged P [] ys a b = b
all_merged P (x ∷ xs) ys a b = all_at P x xs a.0 a.1 (λ zs. all_merged P xs zs a.1) ys b

ascends_at : (x : List ℕ) (xs : List (List ℕ)) → IsStrictlySortedBy cmp (x ∷ xs) → ((ys : List (List ℕ)) → IsStrictlySortedBy cmp ys → IsStrictlySortedBy cmp (merge xs ys)) → (ys : List (List ℕ)) → IsStrictlySortedBy cmp ys → IsStrictlySortedBy cmp (merge (x ∷ xs) ys)
unfolding IsStrictlySortedBy
ascends_at x xs s h [] t = s
ascends_at x xs s h (y ∷ ys) t = by_rank (IsStrictlySortedBy cmp) (cmp x y) _ _ _
    (λ k. (all_merged (λ z. cmp x z ≡ Less) xs (y ∷ ys) s.0 (k, all_below x y ys k t.0), h (y ∷ ys) t))
    (λ k. (all_merged (λ z. cmp x z ≡ Less) xs ys s.0 (level x y ys (exact_bytes x y k) t.0), h ys t.1))
    (λ k. (all_merged (λ z. cmp y z ≡ Less) (x ∷ xs) ys (under x y k, all_below y x xs (under x y k) s.0) t.0, ascends_at x xs s h ys t.1))

pub merge_ascends : (xs ys : List (List ℕ)) → IsStrictlySortedBy cmp xs → IsStrictlySortedBy cmp ys → IsStrictlySortedBy cmp (merge xs ys)
unfolding IsStrictlySortedBy
merge_ascends [] ys s t = t
merge_ascends (x ∷ xs) ys s t = ascends_at x xs s (λ zs. merge_ascends xs zs s.1) ys t

or_assoc : (a b c : Bool) → (a || (b || c)) ≡ ((a || b) || c)
or_assoc true b c = refl
or_assoc false b c = refl

once : (t a b : Bool) → (t || (a || b)) ≡ ((t || a) || (t || b))
once true a b = refl
once false a b = refl

swap : (a b c : Bool) → (a || (b || c)) ≡ (b || (a || c))
swap true true c = refl
swap true false c = refl
swap false b c = refl

module _ (s : List ℕ) where
  has_at : (x : List ℕ) (xs : List (List ℕ)) → ((ys : List (List ℕ)) → has (merge xs ys) s ≡ (has xs s || has ys s)) → (ys : List (List ℕ)) → has (merge (x ∷ xs) ys) s ≡ (has (x ∷ xs) s || has ys s)
  has_at x xs h [] = sym (or_none (has (x ∷ xs) s))
  has_at x xs h (y ∷ ys) = by_rank (λ l. has l s ≡ (has (x ∷ xs) s || has (y ∷ ys) s)) (cmp x y) _ _ _
      (λ k. ap (λ b. is_same s x || b) (h (y ∷ ys)) ∙ or_assoc (is_same s x) (has xs s) (has (y ∷ ys) s))
      (λ k. ap (λ b. is_same s x || b) (h ys) ∙ once (is_same s x) (has xs s) (has ys s) ∙ ap (λ t. has (x ∷ xs) s || (t || has ys s)) (ap (is_same s) (exact_bytes x y k)))
      (λ k. ap (λ b. is_same s y || b) (has_at x xs h ys) ∙ swap (is_same s y) (has (x ∷ xs) s) (has ys s))

  pub has_merged : (xs ys : List (List ℕ)) → has (merge xs ys) s ≡ (has xs s || has ys s)
  has_merged [] ys = refl
  has_merged (x ∷ xs) ys = has_at x xs (has_merged xs) ys
