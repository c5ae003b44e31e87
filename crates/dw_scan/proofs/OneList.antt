-- A tree that can be enumerated has one list of candidates.
use Rattle.std.proofs.Common.{ℕ, zero, suc, ◌≡◌, ◌<◌, Bool, true, false, not, cond, ◌&&◌, ◌||◌, List, [], ◌∷◌, refl, ap, sym, ◌∙◌, arith}
use Rattle.std.specs.Prelude.{IsTrue}
use Rattle.std.specs.List.{list_any, filter, flat_map, AllByRecursion}
use Rattle.std.specs.List.Sorted.{IsStrictlySortedBy}
use Rattle.std.specs.Ordering.{is_eq, is_lt}
use Rattle.std.specs.declared.cmp.Ordering.TheVariants.{Less}
use Rattle.std.proofs.Math.Decide.{dec_lt}
use Rattle.std.proofs.Math.Logic.{dite}
use Rattle.dw_base.specs.Ascending.{set_of}
use Rattle.dw_key.specs.DocKeys.{doc_key_cmp}
use Rattle.dw_key.specs.declared.doc_key.DocKey.{DocKey}
use Rattle.dw_nest.specs.Bounds.{Ascends, has, is_before}
use Rattle.dw_nest.specs.Kleene.{swapped, least_of_two, most_of_two, least_of, most_of}
use Rattle.dw_nest.specs.declared.place.Place.{Place}
use Rattle.dw_nest.specs.declared.place.Place.TheVariants.{Positive, Negative}
use Rattle.dw_nest.specs.declared.truth.Truth.{Truth}
use Rattle.dw_nest.specs.declared.truth.Truth.TheVariants.{No, Unknown, Yes}
use Rattle.dw_nest.specs.Shapes.{Shape, leaf, unknown, opposite, and, or, value, any_of, is_enumerable, joined, leaves}
use Rattle.dw_nest.proofs.Choices.{all_at}
use Rattle.dw_nest.proofs.Order.{total, exact, less}
use Rattle.dw_nest.proofs.Values.{among}
use Rattle.dw_outside.proofs.CellMaps.{tied}
use Rattle.dw_plan.specs.Hit.{is_no}
use Rattle.dw_derive.proofs.Lists.{any_flat, any_alike}
use Rattle.dw_derive.proofs.Sets.{any_filtered, any_set, set_ascends, same_sorted}
use Rattle.dw_scan.specs.Candidates.{AreCandidates}
use Rattle.dw_scan.specs.CandidateLists.{candidates_of, CandidatesAreOneList}
use Rattle.dw_scan.proofs.Sharded.{and_any}

-- ---- a key of no leaf

least_no : (a : Truth) → least_of_two a No ≡ No
least_no No = refl
least_no Unknown = refl
least_no Yes = refl

most_yes : (a : Truth) → most_of_two a Yes ≡ Yes
most_yes No = refl
most_yes Unknown = refl
most_yes Yes = refl

-- one No is the least
no_of : (n i : ℕ) (f : ℕ → Truth) → i < n → f i ≡ No → least_of n f ≡ No
no_of zero i f h e = absurd (omega arith)
no_of (suc n) i f h e =
    dite (dec_lt i n) (λ l. ap (λ t. least_of_two t (f n)) (no_of n i f l e))
    (λ no. let same : i ≡ n = omega arith in ap (λ t. least_of_two (least_of n f) t) (ap f (sym same) ∙ e) ∙ least_no (least_of n f))

yes_of : (n i : ℕ) (f : ℕ → Truth) → i < n → f i ≡ Yes → most_of n f ≡ Yes
yes_of zero i f h e = absurd (omega arith)
yes_of (suc n) i f h e =
    dite (dec_lt i n) (λ l. ap (λ t. most_of_two t (f n)) (yes_of n i f l e))
    (λ no. let same : i ≡ n = omega arith in ap (λ t. most_of_two (most_of n f) t) (ap f (sym same) ∙ e) ∙ most_yes (most_of n f))

all_yes : (n : ℕ) (f : ℕ → Truth) → ((i : ℕ) → i < n → f i ≡ Yes) → least_of n f ≡ Yes
all_yes zero f h = refl
all_yes (suc n) f h = ap (λ t. least_of_two t (f n)) (all_yes n f (λ i l. h i (omega arith))) ∙ h n (omega arith)

all_no : (n : ℕ) (f : ℕ → Truth) → ((i : ℕ) → i < n → f i ≡ No) → most_of n f ≡ No
all_no zero f h = refl
all_no (suc n) f h = ap (λ t. most_of_two t (f n)) (all_no n f (λ i l. h i (omega arith))) ∙ h n (omega arith)

record One (n : ℕ) (p : ℕ → Bool) : Type 0 where
  at : ℕ
  below : at < n
  holds : p at ≡ true

one_of : (n : ℕ) (p : ℕ → Bool) → any_of n p ≡ true → One n p
one_of zero p h = absurd (cc)
one_of (suc n) p h = by (any_of n p) refl h (λ e. one_of n p e)
  where
    earlier : One n p → One (suc n) p
    earlier o = record { at = o.at; below = omega (arith, o.below); holds = o.holds }

    by : (b : Bool) → any_of n p ≡ b → b || p n ≡ true → (any_of n p ≡ true → One n p) → One (suc n) p
    by true e k on = earlier (on e)
    by false e k on = record { at = n; below = omega arith; holds = k }

module _ (key : DocKey) where
  abbrev with_key : List DocKey → Bool
  with_key all = has all key

  -- what is not looked for at a place
  abbrev off : Place → Truth
  off Positive = No
  off Negative = Yes

  none_in : (n i : ℕ) (part : ℕ → List (List DocKey)) → i < n → list_any with_key (joined n part) ≡ false → list_any with_key (part i) ≡ false
  none_in n i part l h = at (list_any with_key (part i)) refl
    where
      at : (b : Bool) → list_any with_key (part i) ≡ b → b ≡ false
      at false e = refl
      at true e = absurd (let f : true ≡ false = sym (among with_key n i part l e) ∙ h in cc)

  first_none : (a : Bool) → a || false ≡ false → a ≡ false
  first_none true h = absurd (cc)
  first_none false h = refl

  at_none : (a : Shape (List DocKey)) (place : Place) → list_any with_key (leaves a) ≡ false → is_enumerable place a ≡ true → value a key ≡ off place
  at_none (leaf all) Positive h e = ap (λ b. cond b Yes No) (first_none (has all key) h)
  at_none (leaf all) Negative h e = absurd (cc)
  at_none unknown Positive h e = absurd (cc)
  at_none unknown Negative h e = absurd (cc)
  at_none (opposite a) Positive h e = ap swapped (at_none a Negative h e)
  at_none (opposite a) Negative h e = ap swapped (at_none a Positive h e)
  at_none (and n f) Positive h e =
      let o = one_of n (λ i. is_enumerable Positive (f i)) e in
      no_of n o.at (λ i. value (f i) key) o.below (at_none (f o.at) Positive (none_in n o.at (λ i. leaves (f i)) o.below h) o.holds)
  at_none (and n f) Negative h e = all_yes n (λ i. value (f i) key) (λ i l. at_none (f i) Negative (none_in n i (λ j. leaves (f j)) l h) (all_at n i (λ j. is_enumerable Negative (f j)) e l))
  at_none (or n f) Positive h e = all_no n (λ i. value (f i) key) (λ i l. at_none (f i) Positive (none_in n i (λ j. leaves (f j)) l h) (all_at n i (λ j. is_enumerable Positive (f j)) e l))
  at_none (or n f) Negative h e =
      let o = one_of n (λ i. is_enumerable Negative (f i)) e in
      yes_of n o.at (λ i. value (f i) key) o.below (at_none (f o.at) Negative (none_in n o.at (λ i. leaves (f i)) o.below h) o.holds)

-- ---- lists that ascend

all_before : (x : DocKey) (xs : List DocKey) → AllByRecursion (λ y. doc_key_cmp x y ≡ Less) xs → AllByRecursion (λ y. IsTrue (is_before x y)) xs
all_before x [] h = tt
all_before x (y ∷ ys) h = (ap is_lt h.0, all_before x ys h.1)

all_less : (x : DocKey) (xs : List DocKey) → AllByRecursion (λ y. IsTrue (is_before x y)) xs → AllByRecursion (λ y. doc_key_cmp x y ≡ Less) xs
all_less x [] h = tt
all_less x (y ∷ ys) h = (less x y h.0, all_less x ys h.1)

ascends_of : (xs : List DocKey) → IsStrictlySortedBy doc_key_cmp xs → Ascends xs
unfolding IsStrictlySortedBy
ascends_of [] h = tt
ascends_of (x ∷ xs) h = (all_before x xs h.0, ascends_of xs h.1)

sorted_of : (xs : List DocKey) → Ascends xs → IsStrictlySortedBy doc_key_cmp xs
unfolding IsStrictlySortedBy
sorted_of [] h = tt
sorted_of (x ∷ xs) h = (all_less x xs h.0, sorted_of xs h.1)

all_kept : (P : DocKey → Type 0) (p : DocKey → Bool) (xs : List DocKey) → AllByRecursion P xs → AllByRecursion P (filter p xs)
all_kept P p [] h = tt
all_kept P p (x ∷ xs) h = at (p x) (all_kept P p xs h.1)
  where
    at : (b : Bool) → AllByRecursion P (filter p xs) → AllByRecursion P (cond b (x ∷ filter p xs) (filter p xs))
    at true k = (h.0, k)
    at false k = k

kept_ascend : (p : DocKey → Bool) (xs : List DocKey) → Ascends xs → Ascends (filter p xs)
kept_ascend p [] h = tt
kept_ascend p (x ∷ xs) h = at (p x) (kept_ascend p xs h.1)
  where
    at : (b : Bool) → Ascends (filter p xs) → Ascends (cond b (x ∷ filter p xs) (filter p xs))
    at true k = (all_kept (λ y. IsTrue (is_before x y)) p xs h.0, k)
    at false k = k

-- ---- the candidates

and_false : (a : Bool) → (a && false) ≡ false
and_false true = refl
and_false false = refl

module _ (lists : Shape (List DocKey)) (led : is_enumerable Positive lists ≡ true) where
  abbrev stays : DocKey → Bool
  stays key = not (is_no (value lists key))

  abbrev keys : List DocKey
  keys = flat_map (λ all. all) (leaves lists)

  module _ (key : DocKey) where
    tied_alike : (y : DocKey) → (stays y && is_eq (doc_key_cmp key y)) ≡ (stays key && is_eq (doc_key_cmp key y))
    tied_alike y = at (is_eq (doc_key_cmp key y)) refl
      where
        at : (b : Bool) → is_eq (doc_key_cmp key y) ≡ b → (stays y && b) ≡ (stays key && b)
        at false e = and_false (stays y) ∙ sym (and_false (stays key))
        at true e = ap (λ k. stays k && true) (sym (exact key y (tied (doc_key_cmp key y) e)))

    among_keys : (b : Bool) → list_any (λ all. has all key) (leaves lists) ≡ b → (stays key && b) ≡ stays key
    among_keys true e = at (stays key)
      where
        at : (a : Bool) → (a && true) ≡ a
        at true = refl
        at false = refl
    among_keys false e = and_false (stays key) ∙ ap (λ t. not (is_no t)) (sym (at_none key lists Positive e led))

    exactly : has (candidates_of lists) key ≡ stays key
    exactly =
        any_filtered (λ y. is_eq (doc_key_cmp key y)) stays (set_of doc_key_cmp keys)
        ∙ any_alike _ _ tied_alike (set_of doc_key_cmp keys)
        ∙ and_any (stays key) (λ y. is_eq (doc_key_cmp key y)) (set_of doc_key_cmp keys)
        ∙ ap (λ b. stays key && b) (any_set doc_key_cmp exact total (λ y. is_eq (doc_key_cmp key y)) keys ∙ any_flat (λ y. is_eq (doc_key_cmp key y)) (λ all. all) (leaves lists))
        ∙ among_keys (list_any (λ all. has all key) (leaves lists)) refl

  are_candidates : AreCandidates lists (candidates_of lists)
  are_candidates = record { ascend = kept_ascend stays (set_of doc_key_cmp keys) (ascends_of (set_of doc_key_cmp keys) (set_ascends doc_key_cmp exact total keys)); exact = exactly }

  no_other : (all : List DocKey) → AreCandidates lists all → all ≡ candidates_of lists
  no_other all h =
      same_sorted doc_key_cmp exact total all (candidates_of lists) (sorted_of all h.ascend) (sorted_of (candidates_of lists) are_candidates.ascend)
      (λ key. h.exact key ∙ sym (exactly key))

pub one_list : CandidatesAreOneList
one_list lists led = (are_candidates lists led, no_other lists led)
