-- The values of a field in a view whose fields ascend.
use Rattle.std.proofs.Common.{◌≡◌, ℕ, zero, suc, ◌+◌, ◌-◌, ◌<◌, ◌≤◌, Bool, true, false, cond, List, [], ◌∷◌, length, take, drop, get_or, refl, ap, sym, ◌∙◌, arith}
use Rattle.std.specs.Prelude.{Option, Some, None, option_map, filter}
use Rattle.std.specs.List.{AllByRecursion, cons_option}
use Rattle.std.specs.List.Sorted.{IsStrictlySortedBy, IsPartitionedBy, IsPartitionPoint}
use Rattle.std.specs.declared.cmp.Ordering.{Ordering}
use Rattle.std.specs.declared.cmp.Ordering.TheVariants.{Less, Equal, Greater}
use Rattle.std.specs.Ordering.{nat_cmp, is_lt, is_le, is_eq, is_gt, ordering_then}
use Rattle.std.specs.Cmp.{upto, tied_itself}
use Rattle.std.specs.Cmp.Lexicographic.{slice_cmp, nat_list_cmp_total}
use Rattle.std.proofs.lemmas.Bool.{true≢false}
use Rattle.std.proofs.lemmas.List.{get_or-drop, length-drop}
use Rattle.dw_norm.specs.Normal.{norm}
use Rattle.dw_dict.specs.Dictionary.{Dictionary, rule_of}
use Rattle.dw_event.specs.Texts.{is_same}
use Rattle.dw_event.specs.Views as views
use Rattle.dw_event.specs.declared.views.Pair.{Pair}
use Rattle.dw_eval.specs.declared.nview.Formed.{Formed}
use Rattle.dw_eval.specs.Values.{normal_view, values_of, FieldsAscend}

-- ---- a view whose pairs ascend has fields that ascend

first_upto : (a b : Ordering) → ordering_then a b ≡ Less → is_gt a ≡ false
first_upto Less b e = refl
first_upto Equal b e = refl
first_upto Greater b e = absurd (true≢false (ap is_gt e))

-- a pair before those that have a form
formed_after : (dict : Dictionary) (p : Pair) (ps : List Pair) → AllByRecursion (λ q. views.pair_cmp p q ≡ Less) ps
    → AllByRecursion (λ (q : Formed). is_gt (slice_cmp nat_cmp p.field q.field) ≡ false) (normal_view dict ps)
formed_after dict p [] h = tt
formed_after dict p (q ∷ qs) h = at (norm (rule_of dict q.field).kind q.raw) (formed_after dict p qs h.1)
  where
    at : (o : Option (List ℕ)) → AllByRecursion (λ (q : Formed). is_gt (slice_cmp nat_cmp p.field q.field) ≡ false) (normal_view dict qs) → AllByRecursion (λ (q : Formed). is_gt (slice_cmp nat_cmp p.field q.field) ≡ false) (cons_option (option_map (λ form. record { field = q.field; form = form }) o) (normal_view dict qs))
    at None rest = rest
    at (Some form) rest = (first_upto (slice_cmp nat_cmp p.field q.field) (slice_cmp nat_cmp p.raw q.raw) h.0, rest)

pub forms_ascend : (dict : Dictionary) (ps : List Pair) → views.IsAscending ps → FieldsAscend (normal_view dict ps)
unfolding IsStrictlySortedBy
forms_ascend dict [] h = tt
forms_ascend dict (p ∷ ps) h = at (norm (rule_of dict p.field).kind p.raw) (forms_ascend dict ps h.1)
  where
    at : (o : Option (List ℕ)) → FieldsAscend (normal_view dict ps) → FieldsAscend (cons_option (option_map (λ form. record { field = p.field; form = form }) o) (normal_view dict ps))
    at None rest = rest
    at (Some form) rest = (formed_after dict p ps h.0, rest)

-- ---- by index

all_at : {X : Type 0} (P : X → Type 0) (xs : List X) → AllByRecursion P xs → (j : ℕ) (d : X) → j < length xs → P (get_or xs j d)
all_at P [] h j d low = absurd (omega arith)
all_at P (x ∷ xs) h zero d low = h.0
all_at P (x ∷ xs) h (suc j) d low = all_at P xs h.1 j d (omega arith)

ascend_at : (xs : List Formed) → FieldsAscend xs → (i j : ℕ) (d : Formed) → i ≤ j → j < length xs → is_gt (slice_cmp nat_cmp (get_or xs i d).field (get_or xs j d).field) ≡ false
ascend_at [] h i j d le low = absurd (omega arith)
ascend_at (x ∷ xs) h zero zero d le low = ap is_gt (tied_itself nat_list_cmp_total x.field)
ascend_at (x ∷ xs) h zero (suc j) d le low = all_at _ xs h.0 j d (omega arith)
ascend_at (x ∷ xs) h (suc i) zero d le low = absurd (omega arith)
ascend_at (x ∷ xs) h (suc i) (suc j) d le low = ascend_at xs h.1 i j d (omega arith) (omega arith)

pub ascend_drop : (n : ℕ) (xs : List Formed) → FieldsAscend xs → FieldsAscend (drop n xs)
ascend_drop zero xs h = h
ascend_drop (suc n) [] h = tt
ascend_drop (suc n) (x ∷ xs) h = ascend_drop n xs h.1

-- ---- what stands below the field, and at most at it

le_from : (r : Ordering) → is_gt r ≡ false → is_le r ≡ true
le_from Less e = refl
le_from Equal e = refl
le_from Greater e = absurd (true≢false e)

gt_from : (r : Ordering) → is_le r ≡ true → is_gt r ≡ false
gt_from Less e = refl
gt_from Equal e = refl
gt_from Greater e = absurd (true≢false (sym e))

less_from : (r : Ordering) → is_lt r ≡ true → r ≡ Less
less_from Less e = refl
less_from Equal e = absurd (true≢false (sym e))
less_from Greater e = absurd (true≢false (sym e))

below_upto : (x y z : List ℕ) (r : Ordering) → slice_cmp nat_cmp x y ≡ r → is_gt r ≡ false → is_lt (slice_cmp nat_cmp y z) ≡ true → is_lt (slice_cmp nat_cmp x z) ≡ true
below_upto x y z Less p h k = ap is_lt (nat_list_cmp_total.trans x y z p (less_from (slice_cmp nat_cmp y z) k))
below_upto x y z Equal p h k = ap is_lt (nat_list_cmp_total.congr x y z p) ∙ k
below_upto x y z Greater p h k = absurd (true≢false h)

pub parted_below : (field : List ℕ) (xs : List Formed) → FieldsAscend xs → IsPartitionedBy (λ p. is_lt (slice_cmp nat_cmp p.field field)) xs
parted_below field xs h i j d le low k =
    below_upto (get_or xs i d).field (get_or xs j d).field field (slice_cmp nat_cmp (get_or xs i d).field (get_or xs j d).field) refl (ascend_at xs h i j d le low) k

pub parted_upto : (field : List ℕ) (xs : List Formed) → FieldsAscend xs → IsPartitionedBy (λ p. is_le (slice_cmp nat_cmp p.field field)) xs
parted_upto field xs h i j d le low k =
    le_from (slice_cmp nat_cmp (get_or xs i d).field field)
    (upto nat_list_cmp_total (get_or xs i d).field (get_or xs j d).field field (ascend_at xs h i j d le low) (gt_from (slice_cmp nat_cmp (get_or xs j d).field field) k))

-- ---- a filter by what stands at the front

module _ {X : Type 0} (p : X → Bool) where
  pub filter_none : (xs : List X) → ((k : ℕ) (d : X) → k < length xs → p (get_or xs k d) ≡ false) → filter p xs ≡ []
  filter_none [] h = refl
  filter_none (x ∷ xs) h = ap (λ b. cond b (x ∷ filter p xs) (filter p xs)) (h 0 x (omega arith)) ∙ filter_none xs (λ k d low. h (suc k) d (omega arith))

  pub filter_front : (xs : List X) (n : ℕ) → n ≤ length xs → ((k : ℕ) (d : X) → k < n → p (get_or xs k d) ≡ true) → ((k : ℕ) (d : X) → n ≤ k → k < length xs → p (get_or xs k d) ≡ false) → filter p xs ≡ take n xs
  filter_front xs zero within passes fails = filter_none xs (λ k d low. fails k d (omega arith) low)
  filter_front [] (suc n) within passes fails = absurd (omega arith)
  filter_front (x ∷ xs) (suc n) within passes fails =
      ap (λ b. cond b (x ∷ filter p xs) (filter p xs)) (passes 0 x (omega arith))
      ∙ ap (λ ys. x ∷ ys) (filter_front xs n (omega arith) (λ k d low. passes (suc k) d (omega arith)) (λ k d le low. fails (suc k) d (omega arith) (omega arith)))

  pub filter_behind : (xs : List X) (n : ℕ) → n ≤ length xs → ((k : ℕ) (d : X) → k < n → p (get_or xs k d) ≡ false) → filter p xs ≡ filter p (drop n xs)
  filter_behind xs zero within fails = refl
  filter_behind [] (suc n) within fails = absurd (omega arith)
  filter_behind (x ∷ xs) (suc n) within fails =
      ap (λ b. cond b (x ∷ filter p xs) (filter p xs)) (fails 0 x (omega arith)) ∙ filter_behind xs n (omega arith) (λ k d low. fails (suc k) d (omega arith))

-- ---- the values of a field

lt_no_eq : (r : Ordering) → is_lt r ≡ true → is_eq r ≡ false
lt_no_eq Less e = refl
lt_no_eq Equal e = absurd (true≢false (sym e))
lt_no_eq Greater e = refl

gt_no_eq : (r : Ordering) → is_le r ≡ false → is_eq r ≡ false
gt_no_eq Less e = refl
gt_no_eq Equal e = absurd (true≢false e)
gt_no_eq Greater e = refl

eq_between : (r : Ordering) → is_lt r ≡ false → is_le r ≡ true → is_eq r ≡ true
eq_between Less e f = absurd (true≢false e)
eq_between Equal e f = refl
eq_between Greater e f = f

abbrev pub Below : List ℕ → List Formed → ℕ → Type 0
Below field xs n = IsPartitionPoint (λ p. is_lt (slice_cmp nat_cmp p.field field) ≡ true) (λ p. is_lt (slice_cmp nat_cmp p.field field) ≡ false) xs n

abbrev pub Upto : List ℕ → List Formed → ℕ → Type 0
Upto field xs n = IsPartitionPoint (λ p. is_le (slice_cmp nat_cmp p.field field) ≡ true) (λ p. is_le (slice_cmp nat_cmp p.field field) ≡ false) xs n

-- behind those below the field, those at most at it
pub values_there : (field : List ℕ) (xs : List Formed) (low count : ℕ) → low ≤ length xs → count ≤ length (drop low xs)
    → Below field xs low → Upto field (drop low xs) count → take count (drop low xs) ≡ values_of field xs
values_there field xs low count in_low in_count below upto_field =
    sym (filter_behind same xs low in_low (λ k d l. lt_no_eq (order (get_or xs k d)) (below.0 k d (omega arith) l))
    ∙ filter_front same (drop low xs) count in_count
    (λ k d l. eq_between (order (get_or (drop low xs) k d)) (not_below k d (omega arith)) (upto_field.0 k d (omega arith) l))
    (λ k d le l. gt_no_eq (order (get_or (drop low xs) k d)) (upto_field.1 k d le l)))
  where
    same : Formed → Bool
    same p = is_same p.field field

    order : Formed → Ordering
    order p = slice_cmp nat_cmp p.field field

    not_below : (k : ℕ) (d : Formed) → k < length (drop low xs) → is_lt (order (get_or (drop low xs) k d)) ≡ false
    not_below k d l = ap (λ q. is_lt (order q)) (get_or-drop low xs k d) ∙ below.1 (low + k) d (omega arith) (omega (arith, l, length-drop low xs))
