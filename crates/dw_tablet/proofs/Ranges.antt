-- Places of a field and of a value lie within its range.
use Rattle.std.proofs.Common.{◌≡◌, ℕ, List, [], ◌∷◌, ◌++◌, refl, sym, ap, ◌∙◌, subst, Bool, true, false, cond, arith}
use Rattle.std.specs.Prelude.{Option, Some, None, nat_lt, ◌==◌}
use Rattle.std.proofs.lemmas.Bool.Decides.{nat_tests}
use Rattle.std.specs.declared.cmp.Ordering.{Ordering}
use Rattle.std.specs.declared.cmp.Ordering.TheVariants.{Less, Equal, Greater}
use Rattle.std.specs.Ordering.{nat_cmp, is_lt, ordering_then}
use Rattle.std.specs.Cmp.Lexicographic.{slice_cmp}
use Rattle.dw_key.specs.KeyCode.{escaped}
use Rattle.dw_nest.specs.declared.bound.Bound.{Bound}
use Rattle.dw_nest.specs.declared.bound.Bound.TheVariants.{Start, From, After}
use Rattle.dw_derive.specs.Entries.{doc_text}
use Rattle.dw_tablet.specs.Places.{below}
use Rattle.dw_tablet.specs.Positions.{field_front, field_start, field_end, value_start, value_end, bound_place, cursor_end}
use Rattle.dw_tablet.proofs.Shards.{same_front}
use Rattle.dw_tablet.proofs.Joined.{joined_on}

-- what begins with a byte 0 behind the same bytes stands before what has a 1 there
pub under : (front more : List ℕ) → below (front ++ (0 ∷ more)) (front ++ 1 ∷ []) ≡ true
under front more = ap is_lt (same_front front (0 ∷ more) (1 ∷ []))

pub field_long : (shard field : List ℕ) → below (field_start shard field) (field_end shard field) ≡ true
field_long shard field = under (field_front shard field) []

-- behind the front of a field
pub in_field : (shard field more : List ℕ) → below (field_start shard field ++ more) (field_end shard field) ≡ true
in_field shard field more = ap (λ p. below p (field_end shard field)) (joined_on (field_front shard field) (0 ∷ []) more) ∙ under (field_front shard field) more

pub bound_in_field : (shard field value : List ℕ) (bound : Bound) → below (bound_place shard field value bound) (field_end shard field) ≡ true
bound_in_field shard field value Start = in_field shard field (escaped value ++ 0 ∷ 255 ∷ [])
bound_in_field shard field value (From doc) = at (escaped (doc_text doc) ++ 0 ∷ 0 ∷ [])
  where
    at : (more : List ℕ) → below (value_start shard field value ++ more) (field_end shard field) ≡ true
    at more =
        ap (λ p. below p (field_end shard field)) (joined_on (field_start shard field) (escaped value ++ 0 ∷ 255 ∷ []) more)
        ∙ in_field shard field ((escaped value ++ 0 ∷ 255 ∷ []) ++ more)
bound_in_field shard field value (After doc) = at (escaped (doc_text doc) ++ 0 ∷ 1 ∷ [])
  where
    at : (more : List ℕ) → below (value_start shard field value ++ more) (field_end shard field) ≡ true
    at more =
        ap (λ p. below p (field_end shard field)) (joined_on (field_start shard field) (escaped value ++ 0 ∷ 255 ∷ []) more)
        ∙ in_field shard field ((escaped value ++ 0 ∷ 255 ∷ []) ++ more)

pub in_value : (shard field value more : List ℕ) → below (value_start shard field value ++ more) (value_end shard field value) ≡ true
in_value shard field value more =
    let front = field_start shard field in
    let text = escaped value in
    ap (λ p. below p (value_end shard field value)) (joined_on front (text ++ 0 ∷ 255 ∷ []) more ∙ ap (λ l. front ++ l) (joined_on text (0 ∷ 255 ∷ []) more))
    ∙ ap is_lt (same_front front (text ++ (0 ∷ 255 ∷ more)) (text ++ 1 ∷ []) ∙ same_front text (0 ∷ 255 ∷ more) (1 ∷ []))

empty_end : (xs : List ℕ) → xs ++ [] ≡ xs
empty_end [] = refl
empty_end (x ∷ xs) = ap (λ l. x ∷ l) (empty_end xs)

pub bound_in_value : (shard field value : List ℕ) (bound : Bound) → below (bound_place shard field value bound) (value_end shard field value) ≡ true
bound_in_value shard field value Start = ap (λ p. below p (value_end shard field value)) (sym (empty_end (value_start shard field value))) ∙ in_value shard field value []
bound_in_value shard field value (From doc) = in_value shard field value (escaped (doc_text doc) ++ 0 ∷ 0 ∷ [])
bound_in_value shard field value (After doc) = in_value shard field value (escaped (doc_text doc) ++ 0 ∷ 1 ∷ [])

zero_least : (n : ℕ) (b : Bool) → nat_lt 0 n ≡ b → (d : Bool) → (0 == n) ≡ d → cond b Less (cond d Equal Greater) ≡ Greater → ⊥
zero_least n true h d k e = none e
  where
    none : Less ≡ Greater → ⊥
    none g = cc
zero_least n false h true k e = none e
  where
    none : Equal ≡ Greater → ⊥
    none g = cc
zero_least n false h false k e = some_least
  where
    some_least : ⊥
    some_least = grind (arith, nat_tests)

-- the place after a key before an end stands before it too
next_in : (key front : List ℕ) → below key (front ++ 1 ∷ []) ≡ true → below (key ++ 0 ∷ []) (front ++ 1 ∷ []) ≡ true
next_in [] [] h = refl
next_in [] (f ∷ front) h = at (nat_cmp 0 f) refl
  where
    at : (o : Ordering) → nat_cmp 0 f ≡ o → is_lt (ordering_then o (slice_cmp nat_cmp [] (front ++ 1 ∷ []))) ≡ true
    at Less e = refl
    at Equal e = shorter front
      where
        shorter : (xs : List ℕ) → is_lt (slice_cmp nat_cmp [] (xs ++ 1 ∷ [])) ≡ true
        shorter [] = refl
        shorter (x ∷ xs) = refl
    at Greater e = absurd (zero_least f (nat_lt 0 f) refl (0 == f) refl e)
next_in (k ∷ key) [] h = first (nat_cmp k 1) key h
  where
    first : (o : Ordering) (ns : List ℕ) → is_lt (ordering_then o (slice_cmp nat_cmp ns [])) ≡ true → is_lt (ordering_then o (slice_cmp nat_cmp (ns ++ 0 ∷ []) [])) ≡ true
    first Less ns g = refl
    first Equal [] g = cc
    first Equal (m ∷ ns) g = cc
    first Greater ns g = g
next_in (k ∷ key) (f ∷ front) h = at (nat_cmp k f) (next_in key front) h
  where
    at : (o : Ordering) → (below key (front ++ 1 ∷ []) ≡ true → below (key ++ 0 ∷ []) (front ++ 1 ∷ []) ≡ true)
        → is_lt (ordering_then o (slice_cmp nat_cmp key (front ++ 1 ∷ []))) ≡ true → is_lt (ordering_then o (slice_cmp nat_cmp (key ++ 0 ∷ []) (front ++ 1 ∷ []))) ≡ true
    at Less later g = refl
    at Equal later g = later g
    at Greater later g = cc

pub passed_in : (shard field : List ℕ) (only : Option (List ℕ)) (key : List ℕ) → below key (cursor_end shard field only) ≡ true → below (key ++ 0 ∷ []) (cursor_end shard field only) ≡ true
passed_in shard field None key h = next_in key (field_front shard field) h
passed_in shard field (Some value) key h =
    let whole = joined_on (field_start shard field) (escaped value) (1 ∷ []) in
    subst (λ e. below (key ++ 0 ∷ []) e ≡ true) whole (next_in key (field_start shard field ++ escaped value) (subst (λ e. below key e ≡ true) (sym whole) h))
