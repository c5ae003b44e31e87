-- How records are taken in.
use Rattle.std.specs.Prelude.{ℕ, ◌+◌, nat_lt, List, [], ◌∷◌, ◌++◌, Option, Some, None, Result, Ok, Err, if◌then◌else◌}
use Rattle.std.specs.Map.{lookup}
use Rattle.std.specs.BTreeMap.{is_at, insert_entry}
use Rattle.dw_event.specs.Cells.{cells_eq}
use Rattle.dw_event.specs.Places.{place_of, place_cmp}
use Rattle.dw_event.specs.declared.records.Record.{Record}
use Rattle.dw_event.specs.declared.records.Place.{Place}
use Rattle.dw_event.specs.declared.records.Held.{Held}
use Rattle.dw_event.specs.declared.reports.Bad.{Bad}
use Rattle.dw_event.specs.declared.reports.BadReason.TheVariants.{Rule, Clash}
use Rattle.dw_event.specs.declared.reports.BadRecord.{BadRecord}
use Rattle.dw_event.specs.declared.reports.Report.{Report}

-- an event: its place, and what is held there
abbrev pub Event : Type 0
Event = Place × Held

-- what has become of the records so far: the events, how many records there were, how many were new and how
-- many were repeats, and those that were not taken
pub record Taken : Type 0 where
  pub events : List Event
  pub at : ℕ
  pub new : ℕ
  pub repeat : ℕ
  pub bad : List Bad

-- what is held at a place
abbrev pub held_at : List Event → Place → Option Held
held_at events place = lookup (is_at (place_cmp place)) events

-- before the first record
abbrev pub none_taken : List Event → Taken
none_taken events = record { events = events; at = 0; new = 0; repeat = 0; bad = [] }

-- a record whose place is free is new, one whose cells are held there is a repeat, and any other clashes
abbrev pub with_held : ℕ → Place → Record → Taken → Option Held → Taken
with_held batch place rec t None =
    record { events = insert_entry place_cmp t.events place (record { cells = rec.cells; batch = batch }); at = t.at + 1; new = t.new + 1; repeat = t.repeat; bad = t.bad }
with_held batch place rec t (Some held) =
    if cells_eq held.cells rec.cells
    then record { events = t.events; at = t.at + 1; new = t.new; repeat = t.repeat + 1; bad = t.bad }
    else record { events = t.events; at = t.at + 1; new = t.new; repeat = t.repeat; bad = t.bad ++ record { at = t.at; why = Clash place } ∷ [] }

-- after one record more, which is reported where it breaks a rule
unfoldable pub with_record : (List ℕ → List ℕ) → ℕ → Taken → Result Record BadRecord → Taken
with_record digest batch t (Err rule) =
    record { events = t.events; at = t.at + 1; new = t.new; repeat = t.repeat; bad = t.bad ++ record { at = t.at; why = Rule rule } ∷ [] }
with_record digest batch t (Ok rec) = let place = place_of digest rec in with_held batch place rec t (held_at t.events place)

-- after these records, in order, each of which is seen by the later ones
abbrev pub with_records : (List ℕ → List ℕ) → ℕ → Taken → List (Result Record BadRecord) → Taken
with_records digest batch t [] = t
with_records digest batch t (rec ∷ recs) = with_records digest batch (with_record digest batch t rec) recs

-- the records taken as the batch after the last one
abbrev pub taken : (List ℕ → List ℕ) → List Event → ℕ → List (Result Record BadRecord) → Taken
taken digest events last records = with_records digest (last + 1) (none_taken events) records

-- the number of the last batch, which counts one more where a record was new
abbrev pub last_after : ℕ → Taken → ℕ
last_after last t = if nat_lt 0 t.new then last + 1 else last

-- what is reported
abbrev pub report_of : ℕ → Taken → Report
report_of last t = record { new = t.new; repeat = t.repeat; bad = t.bad; last = last_after last t }
