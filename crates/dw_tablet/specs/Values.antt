-- The values of a field in the field index, as a reader sees them.
use Rattle.std.specs.Prelude.{◌≡◌, ℕ, ◌&&◌, nat_eq, nat_le, Bool, true, false, List, filter_map, map as list_map, Option, Some, None, if◌then◌else◌}
use Rattle.std.specs.Option.{option_map}
use Rattle.std.specs.List.{list_any}
use Rattle.std.specs.Ordering.{is_eq}
use Rattle.std.specs.Cmp.Lexicographic.{pointwise}
use Rattle.dw_key.specs.declared.doc_key.DocKey.{DocKey}
use Rattle.dw_key.specs.DocKeys.{doc_key_cmp}
use Rattle.dw_vis.specs.Sight.{sees}
use Rattle.dw_event.specs.Wanted.{is_type_wanted}
use Rattle.dw_event.specs.declared.types.Types.{Types}
use Rattle.dw_nest.specs.Bounds.{Ascends, has}
use Rattle.dw_tablet.specs.declared.said.Said.{Said}
use Rattle.dw_tablet.specs.declared.asked.Asked.{Asked}
use Rattle.dw_tablet.specs.declared.said.Said.TheVariants.{OfEvent, OfIndex, Nothing}
use Rattle.dw_tablet.specs.Said.{said_of}

-- a normal form and whose value has it
abbrev pub Value : Type 0
Value = List ℕ × DocKey

-- the value that is said of the field, where the names see it and it is of a batch up to the snapshot
abbrev pub value_if : List ℕ → List (List ℕ) → ℕ → Said → Option Value
value_if field names snapshot (OfEvent r) = None
value_if field names snapshot (OfIndex r) = if pointwise nat_eq r.field field && (nat_le r.batch snapshot && sees r.vis names) then Some (r.value, r.doc) else None
value_if field names snapshot Nothing = None

-- the same of the bytes of a key
abbrev pub value_at : List ℕ → List (List ℕ) → ℕ → List ℕ → Option Value
value_at field names snapshot key = value_if field names snapshot (said_of key)

-- the value is the one that is asked for, or any is
abbrev pub is_only : Option (List ℕ) → List ℕ → Bool
is_only None value = true
is_only (Some only) value = pointwise nat_eq value only

-- the type is one of those that are asked for, or any is
abbrev pub is_of : Option Types → List ℕ → Bool
is_of None dtype = true
is_of (Some types) dtype = is_type_wanted types dtype

-- a value, where it and its document's type are asked for
abbrev pub kept_if : Option (List ℕ) → Option Types → Option Value → Option Value
kept_if only types None = None
kept_if only types (Some v) = if is_only only v.0 && is_of types v.1.dtype then Some v else None

-- the value that a key says, where all of it is asked for
abbrev pub shown_at : List ℕ → List (List ℕ) → ℕ → Option (List ℕ) → Option Types → List ℕ → Option Value
shown_at field names snapshot only types key = kept_if only types (value_at field names snapshot key)

-- the same, by what a cursor asks for
abbrev pub shown_by : Asked → List ℕ → Option Value
shown_by a = shown_at a.field.now a.auths.now a.snapshot (option_map (λ v. v.now) a.only) (option_map (λ t. t.now) a.types)

-- a value is said of the document
abbrev pub is_of_doc : DocKey → Option Value → Bool
is_of_doc doc None = false
is_of_doc doc (Some v) = is_eq (doc_key_cmp doc v.1)

-- some key says a value of the document
abbrev pub some_says : (List ℕ → Option Value) → List (List ℕ) → DocKey → Bool
some_says f keys doc = list_any (λ key. is_of_doc doc (f key)) keys

-- the documents of which some keys say a value, in the order of the keys
abbrev pub docs_of : (List ℕ → Option Value) → List (List ℕ) → List DocKey
docs_of f keys = list_map (λ v. v.1) (filter_map f keys)

-- all documents of which some keys say a value, ascending, each once
pub record AreDocs (f : List ℕ → Option Value) (keys : List (List ℕ)) (all : List DocKey) : Type 0 where
  pub ascends : Ascends all
  pub has : (doc : DocKey) → has all doc ≡ some_says f keys doc
