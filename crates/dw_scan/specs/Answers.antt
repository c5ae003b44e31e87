-- What a shard answers, and what is left of that after a resume.
use Rattle.std.specs.Prelude.{◌≡◌, ◌⊎◌, ◌++◌, ℕ, Bool, true, List, map, filter, Option, Some, None}
use Rattle.dw_key.specs.declared.doc_key.DocKey.{DocKey}
use Rattle.dw_event.specs.declared.reports.Shown.{Shown}
use Rattle.dw_nest.specs.declared.bound.Bound.{Bound}
use Rattle.dw_nest.specs.declared.bound.Bound.TheVariants.{Start, After}
use Rattle.dw_nest.specs.Bounds.{rest, has}
use Rattle.dw_nest.specs.Shapes.{Shape, Alike}
use Rattle.dw_eval.specs.Sat.{sat}
use Rattle.dw_eval.specs.Values.{normal_view}
use Rattle.dw_tablet.specs.Held.{Held, Agrees}
use Rattle.dw_tablet.specs.Places.{between}
use Rattle.dw_tablet.specs.Documents.{document_start, document_end, view_in}
use Rattle.dw_scan.specs.declared.ask.Ask.{Ask}
use Rattle.dw_scan.specs.Candidates.{AreCandidates}

-- where a search goes on
abbrev pub beyond : Option DocKey → Bound
beyond None = Start
beyond (Some key) = After key

-- the candidates that stand after a resume
abbrev pub left : List DocKey → Option DocKey → List DocKey
left all after = rest all (beyond after)

-- the document of a key, as the content of a shard has it and the reader of an ask sees it
abbrev pub shown_at : Ask → List ℕ → List (List ℕ) → DocKey → Shown
shown_at ask shard content key = record {
  shard = shard;
  key = key;
  view = view_in ask.auths ask.snapshot key (between (document_start shard key) (document_end shard key) content);
}

-- what is seen satisfies the query
abbrev pub is_met : Ask → Shown → Bool
is_met ask s = sat (normal_view ask.dict s.view) ask.query

-- the documents of some keys that satisfy the query
abbrev pub answers : Ask → List ℕ → List (List ℕ) → List DocKey → List Shown
answers ask shard content keys = filter (is_met ask) (map (shown_at ask shard content) keys)

-- the answer of a shard after a resume, where these are all its candidates
abbrev pub answer_after : Ask → List ℕ → List (List ℕ) → List DocKey → Option DocKey → List Shown
answer_after ask shard content all after = answers ask shard content (left all after)

-- a content of the shard that agrees with the tablet, and the candidates by some lists that the leaves of a tree stand for
pub record IsShard {L : Type 0} (stands : L → List DocKey → Type 0) (tablet : Held) (tree : Shape L) (content : List (List ℕ)) (all : List DocKey) : Type 0 where
  pub lists : Shape (List DocKey)
  pub stand : Alike stands tree lists
  pub candidates : AreCandidates lists all
  pub agrees : Agrees tablet content

-- a candidate that stands strictly after the old resume
abbrev pub IsLater : List DocKey → Option DocKey → Option DocKey → Type 0
IsLater all from after = (key : DocKey) × (after ≡ Some key) × (has (left all from) key ≡ true)

-- from one resume to another, the candidates in between were searched, and this was found
pub record IsSearched (ask : Ask) (shard : List ℕ) (content : List (List ℕ)) (all : List DocKey) (from after : Option DocKey) (found : List Shown) : Type 0 where
  pub answer : found ++ answer_after ask shard content all after ≡ answer_after ask shard content all from
  pub moved : (after ≡ from) ⊎ IsLater all from after
