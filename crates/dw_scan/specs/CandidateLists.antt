-- The candidates of a tree that can be enumerated, as a list.
use Rattle.std.specs.Prelude.{◌≡◌, true, not, List, filter}
use Rattle.std.specs.List.{flat_map}
use Rattle.dw_base.specs.Ascending.{set_of}
use Rattle.dw_key.specs.DocKeys.{doc_key_cmp}
use Rattle.dw_key.specs.declared.doc_key.DocKey.{DocKey}
use Rattle.dw_nest.specs.declared.place.Place.TheVariants.{Positive}
use Rattle.dw_nest.specs.Shapes.{Shape, value, is_enumerable, leaves}
use Rattle.dw_plan.specs.Hit.{is_no}
use Rattle.dw_scan.specs.Candidates.{AreCandidates}

-- the keys of all leaves at which the value is not No
abbrev pub candidates_of : Shape (List DocKey) → List DocKey
candidates_of lists = filter (λ key. not (is_no (value lists key))) (set_of doc_key_cmp (flat_map (λ all. all) (leaves lists)))

-- a tree that can be enumerated has one list of candidates, for any lists at its leaves, and no other
abbrev pub CandidatesAreOneList : Type 0
CandidatesAreOneList = (lists : Shape (List DocKey)) → is_enumerable Positive lists ≡ true →
    AreCandidates lists (candidates_of lists) × ((all : List DocKey) → AreCandidates lists all → all ≡ candidates_of lists)
