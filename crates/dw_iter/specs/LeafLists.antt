-- The documents that a leaf stands for.
use Rattle.std.specs.Prelude.{◌≡◌, ℕ, Bool, List, Option, Some, None, if◌then◌else◌}
use Rattle.std.specs.Option.{option_map}
use Rattle.dw_key.specs.declared.doc_key.DocKey.{DocKey}
use Rattle.dw_event.specs.declared.types.Types.{Types}
use Rattle.dw_tablet.specs.Held.{Held, Agrees}
use Rattle.dw_tablet.specs.Values.{Value, shown_at, AreDocs}

-- a value, where its normal form passes the test
abbrev pub passed_if : (List ℕ → Bool) → Option Value → Option Value
passed_if test None = None
passed_if test (Some v) = if test v.0 then Some v else None

-- the document of a value, where it passes the test
abbrev pub doc_where : (List ℕ → Bool) → (List ℕ → Option Value) → List ℕ → Option DocKey
doc_where test f key = option_map (λ v. v.1) (passed_if test (f key))

-- what a key says of the field, where a reader sees it, it is of a batch up to the snapshot, its document is of a type that is asked for, and its
-- normal form passes the test
abbrev pub leaf_value : List ℕ → (List ℕ → Bool) → List (List ℕ) → ℕ → Types → List ℕ → Option Value
leaf_value field test names snapshot types key = passed_if test (shown_at field names snapshot None (Some types) key)

-- all documents of a content of the shard that have such a value, ascending, each once
abbrev pub AreLeafDocs : List ℕ → (List ℕ → Bool) → List (List ℕ) → ℕ → Types → List (List ℕ) → List DocKey → Type 0
AreLeafDocs field test names snapshot types content all = AreDocs (leaf_value field test names snapshot types) content all

-- the lists of all contents that agree with the tablet
abbrev pub StandsFor : Held → List ℕ → (List ℕ → Bool) → List (List ℕ) → ℕ → Types → List DocKey → Type 0
StandsFor tablet field test names snapshot types all = (content : List (List ℕ)) × Agrees tablet content × AreLeafDocs field test names snapshot types content all
