-- A walk over the cells of one value, by their documents.
use Rattle.std.specs.Prelude.{◌≡◌, ℕ, List, [], IsTrue, filter_map, slice_get, Option, Some, Contains}
use Rattle.dw_key.specs.declared.doc_key.DocKey.{DocKey}
use Rattle.dw_event.specs.declared.types.Types.{Types}
use Rattle.dw_nest.specs.declared.bound.Bound.{Bound}
use Rattle.dw_nest.specs.declared.bound.Bound.TheVariants.{Start, From, After}
use Rattle.dw_nest.specs.Bounds.{meets, rest}
use Rattle.dw_derive.specs.ReaderLaws.{IsDocKey}
use Rattle.dw_tablet.specs.Places.{between}
use Rattle.dw_tablet.specs.Positions.{value_end, bound_place}
use Rattle.dw_tablet.specs.Held.{Held, Agrees}
use Rattle.dw_tablet.specs.Values.{Value, shown_at, docs_of, AreDocs}
use Rattle.dw_tablet.specs.Cursors.{known_keys}

-- the document key of a bound is one by its types
abbrev pub BoundFits : Bound → Type 0
BoundFits Start = Unit {0}
BoundFits (From doc) = IsDocKey doc
BoundFits (After doc) = IsDocKey doc

module _ (t : Held) (field : List ℕ) (names : List (List ℕ)) (snapshot : ℕ) (value : List ℕ) (types : Types) (bound : Bound) where
  -- the cells of the value that a reader sees, of documents of the types
  abbrev pub of_value : List ℕ → Option Value
  of_value = shown_at field names snapshot (Some value) (Some types)

  -- those of a content from the bound on
  abbrev pub walked : List (List ℕ) → List Value
  walked content = filter_map of_value (between (bound_place t.shard field value bound) (value_end t.shard field value) content)

  -- and of the tablet's keys, up to the first place that is not covered
  abbrev pub walked_known : List Value
  walked_known = filter_map of_value (known_keys t (bound_place t.shard field value bound) (value_end t.shard field value))

-- the first cell of a walk over a value is of the first document that meets the bound, and a walk without a cell means that there is none;
-- a cell that is known is one of the tablet's, and of a document that meets the bound
pub record EqualWalk (t : Held) (field : List ℕ) (names : List (List ℕ)) (snapshot : ℕ) (value : List ℕ) (types : Types) (bound : Bound) : Type 0 where
  pub first : (content : List (List ℕ)) (all : List DocKey) (v : Value) → Agrees t content → AreDocs (of_value t field names snapshot value types bound) content all
      → slice_get (walked t field names snapshot value types bound content) 0 ≡ Some v → slice_get (rest all bound) 0 ≡ Some v.1
  pub none : (content : List (List ℕ)) (all : List DocKey) → Agrees t content → AreDocs (of_value t field names snapshot value types bound) content all
      → walked t field names snapshot value types bound content ≡ [] → rest all bound ≡ []
  pub met : (v : Value) → slice_get (walked_known t field names snapshot value types bound) 0 ≡ Some v → IsTrue (meets bound v.1)
  pub known : (v : Value) → slice_get (walked_known t field names snapshot value types bound) 0 ≡ Some v → Contains (docs_of (of_value t field names snapshot value types bound) t.keys) v.1

abbrev pub EqualWalksAreOrdered : Type 0
EqualWalksAreOrdered = (t : Held) (field : List ℕ) (names : List (List ℕ)) (snapshot : ℕ) (value : List ℕ) (types : Types) (bound : Bound) → BoundFits bound → EqualWalk t field names snapshot value types bound
