-- Why a walk over the candidates of a shard stopped.
use Rattle.std.specs.Prelude.{◌≡◌, ◌≢◌, ◌⊎◌, ◌<◌, ◌+◌, ℕ, Bool, true, false, List, [], map, Option, Some, None, IsTrue, is_some, slice_get, Contains}
use Rattle.dw_key.specs.declared.doc_key.DocKey.{DocKey}
use Rattle.dw_nest.specs.Shapes.{Shape, leaves}
use Rattle.dw_tablet.specs.Held.{Held}
use Rattle.dw_tablet.specs.Documents.{document_gap}
use Rattle.dw_scan.specs.declared.stop.Stop.{Stop}
use Rattle.dw_scan.specs.declared.stop.Stop.TheVariants.{Ended, Full, Stuck, Uncovered}
use Rattle.dw_scan.specs.Answers.{left}

-- no candidate is left
abbrev pub is_end : Stop → Bool
is_end Ended = true
is_end Full = false
is_end Stuck = false
is_end (Uncovered key) = false

-- what is left of the candidates where the walk stopped
abbrev pub IsStopped : List DocKey → Option DocKey → Stop → Type 0
IsStopped all after Ended = left all after ≡ []
IsStopped all after Full = left all after ≢ []
IsStopped all after Stuck = Unit {0}
IsStopped all after (Uncovered key) = slice_get (left all after) 0 ≡ Some key

-- why it stopped, with so many steps before and now, and so many events found: all were read or found that may be, or a
-- place of a document is not covered where more are wanted
abbrev pub HasCause : Held → ℕ → ℕ → ℕ → ℕ → ℕ → Stop → Type 0
HasCause tablet before now budget found want Ended = Unit {0}
HasCause tablet before now budget found want Full = (now ≡ before + budget) ⊎ (found ≡ want)
HasCause tablet before now budget found want Stuck = Unit {0}
HasCause tablet before now budget found want (Uncovered key) = IsTrue (is_some (document_gap tablet key)) × (found < want)

-- a fact, where an iterator did not know
abbrev pub IfStuck : Stop → Type 0 → Type 0
IfStuck Ended fact = Unit {0}
IfStuck Full fact = Unit {0}
IfStuck Stuck fact = fact
IfStuck (Uncovered key) fact = Unit {0}

-- some leaf of a tree lacks a place, by what it was made from
abbrev pub SomeLacks : {L : Type 0} → (L → List (List ℕ)) → (List (List ℕ) → List ℕ → Type 0) → Shape L → List ℕ → Type 0
SomeLacks made lacks tree place = (texts : List (List ℕ)) × Contains (map made (leaves tree)) texts × lacks texts place

-- the place that is missing where the walk stopped
abbrev pub IsPlaceOf : (List ℕ → Type 0) → Held → Stop → Option (List ℕ) → Type 0
IsPlaceOf IsLacked tablet Ended o = o ≡ None
IsPlaceOf IsLacked tablet Full o = o ≡ None
IsPlaceOf IsLacked tablet Stuck o = (place : List ℕ) × (o ≡ Some place) × IsLacked place
IsPlaceOf IsLacked tablet (Uncovered key) o = o ≡ document_gap tablet key
