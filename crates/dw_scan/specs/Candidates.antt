-- Which events of a shard are candidates of a query, and what the query's tree says of their keys.
use Rattle.std.specs.Prelude.{◌≡◌, ℕ, Bool, true, ◌&&◌, not, List, map, filter}
use Rattle.dw_key.specs.declared.doc_key.DocKey.{DocKey}
use Rattle.dw_dict.specs.Dictionary.{Dictionary}
use Rattle.dw_event.specs.Wanted.{is_type_wanted}
use Rattle.dw_event.specs.declared.reports.Shown.{Shown}
use Rattle.dw_event.specs.declared.types.Types.{Types}
use Rattle.dw_nest.specs.Bounds.{Ascends, has}
use Rattle.dw_nest.specs.Shapes.{Shape, value, is_enumerable}
use Rattle.dw_nest.specs.declared.place.Place.TheVariants.{Positive}
use Rattle.dw_eval.specs.declared.nquery.NQuery.{NQuery}
use Rattle.dw_eval.specs.Kleene.{kleene}
use Rattle.dw_eval.specs.Leaves.{some_value}
use Rattle.dw_eval.specs.Sat.{sat}
use Rattle.dw_eval.specs.Values.{normal_view}
use Rattle.dw_plan.specs.Anchored.{anchored}
use Rattle.dw_plan.specs.Hit.{is_no}
use Rattle.dw_scan.specs.Trees.{tree_of}

-- the keys at which the value of a tree is not No, for the lists of its leaves, ascending
pub record AreCandidates (lists : Shape (List DocKey)) (all : List DocKey) : Type 0 where
  pub ascend : Ascends all
  pub exact : (key : DocKey) → has all key ≡ not (is_no (value lists key))

-- the keys of some events
abbrev pub keys_of : List Shown → List DocKey
keys_of events = map (λ s. s.key) events

module _ (dict : Dictionary) (types : Types) where
  -- the keys of the events of a wanted type that have a value of the field whose normal form passes the test
  abbrev pub leaf_keys : List Shown → List ℕ → (List ℕ → Bool) → List DocKey
  leaf_keys events field test = keys_of (filter (λ s. is_type_wanted types s.key.dtype && some_value (normal_view dict s.view) field test) events)

  -- the event is of a wanted type, and by the indexes alone it may satisfy the query
  abbrev pub is_candidate : NQuery → Shown → Bool
  is_candidate q s = is_type_wanted types s.key.dtype && not (is_no (kleene (normal_view dict s.view) q))

  -- it is of a wanted type, and its values satisfy the query
  abbrev pub is_answer : NQuery → Shown → Bool
  is_answer q s = is_type_wanted types s.key.dtype && sat (normal_view dict s.view) q

-- The tree of an anchored query over the keys of the events of one shard, leaf by leaf, finds the candidates among them and
-- nothing else. A rule is reversed only where it is indexed, by its type.
abbrev pub TreesFindCandidates : Type 0
TreesFindCandidates = (dict : Dictionary) (types : Types) (events : List Shown) (q : NQuery) → Ascends (keys_of events) → anchored q ≡ true →
    (is_enumerable Positive (tree_of (leaf_keys dict types events) q) ≡ true)
    × AreCandidates (tree_of (leaf_keys dict types events) q) (keys_of (filter (is_candidate dict types q) events))

-- what satisfies a query is a candidate
abbrev pub AnswersAreCandidates : Type 0
AnswersAreCandidates = (dict : Dictionary) (types : Types) (q : NQuery) (s : Shown) → is_answer dict types q s ≡ true → is_candidate dict types q s ≡ true
