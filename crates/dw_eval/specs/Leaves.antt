-- What values meet a leaf.
use Rattle.std.specs.Prelude.{ℕ, Bool, true, false, ◌&&◌, ◌||◌, List, [], ◌∷◌, nat_eq}
use Rattle.std.specs.List.{list_any, starts_with, ends_with}
use Rattle.std.specs.Ordering.{nat_cmp, match_ordering}
use Rattle.std.specs.Cmp.Lexicographic.{slice_cmp}
use Rattle.dw_event.specs.Texts.{is_same}
use Rattle.dw_eval.specs.declared.nview.Formed.{Formed}
use Rattle.dw_eval.specs.Values.{values_of}

-- a form before the end, or the end itself where the edge is true
abbrev pub is_below : List ℕ → List ℕ → Bool → Bool
is_below form high edge = match_ordering (slice_cmp nat_cmp form high) true edge false

-- a form behind the end, or the end itself where the edge is true
abbrev pub is_above : List ℕ → List ℕ → Bool → Bool
is_above form low edge = match_ordering (slice_cmp nat_cmp form low) false edge true

-- the text stands somewhere in the form
abbrev pub holds : List ℕ → List ℕ → Bool
holds [] text = starts_with nat_eq [] text
holds (b ∷ bs) text = starts_with nat_eq (b ∷ bs) text || holds bs text

-- some value of the field passes the test
abbrev pub some_value : List Formed → List ℕ → (List ℕ → Bool) → Bool
some_value view field test = list_any (λ p. test p.form) (values_of field view)

abbrev pub some_equal : List Formed → List ℕ → List ℕ → Bool
some_equal view field value = some_value view field (λ form. is_same form value)

abbrev pub some_below : List Formed → List ℕ → List ℕ → Bool → Bool
some_below view field value edge = some_value view field (λ form. is_below form value edge)

abbrev pub some_above : List Formed → List ℕ → List ℕ → Bool → Bool
some_above view field value edge = some_value view field (λ form. is_above form value edge)

-- one value meets both ends
abbrev pub some_between : List Formed → List ℕ → List ℕ → Bool → List ℕ → Bool → Bool
some_between view field low low_edge high high_edge = some_value view field (λ form. is_above form low low_edge && is_below form high high_edge)

abbrev pub some_starts : List Formed → List ℕ → List ℕ → Bool
some_starts view field text = some_value view field (λ form. starts_with nat_eq form text)

abbrev pub some_ends : List Formed → List ℕ → List ℕ → Bool
some_ends view field text = some_value view field (λ form. ends_with nat_eq form text)

abbrev pub some_holds : List Formed → List ℕ → List ℕ → Bool
some_holds view field text = some_value view field (λ form. holds form text)
