-- The events that tables stand for.
use Rattle.std.specs.Prelude.{◌≡◌, ℕ, ◌==◌, List, [], ◌∷◌, map as list_map, filter, filter_map, Option, None, if◌then◌else◌, Bool, Some}
use Rattle.std.specs.Option.{option_map, option_and_then}
use Rattle.std.specs.Ordering.{eq_by_cmp}
use Rattle.std.specs.FinMap as map
use Rattle.dw_base.specs.Ascending.{set_of, with_item}
use Rattle.dw_key.specs.declared.key.Key.{Key}
use Rattle.dw_event.specs.declared.cells.EventCell.{EventCell}
use Rattle.dw_event.specs.declared.records.Place.{Place}
use Rattle.dw_event.specs.declared.records.Held.{Held}
use Rattle.dw_event.specs.Cells.{cell_cmp}
use Rattle.dw_event.specs.Places.{place_cmp}
use Rattle.dw_event.specs.Take.{Event, held_at}
use Rattle.std.specs.Str.{is_utf8}
use Rattle.dw_outside.specs.declared.slot.Slot.{Slot}
use Rattle.dw_outside.specs.Tables.{span_of}
use Rattle.dw_derive.specs.Readers.{EventReading, event_reading}
use Rattle.dw_derive.specs.Decoded.{key_from}
use Rattle.dw_derive.specs.Documents.{seen_by}
use Rattle.dw_derive.specs.World.{World}
use Rattle.dw_derive.specs.Tables.{tables}
use Rattle.dw_derive.specs.Lawful.{HasEvents}

-- what the key of an event's cell says: whose cell it is, the cell, and the batch
pub record CellReading : Type 0 where
  pub place : Place
  pub cell : EventCell
  pub batch : ℕ

abbrev pub with_cell_of : Key → EventReading → Option CellReading
with_cell_of k r =
    if is_utf8 r.shard then option_map (λ c. record { place = record { shard = r.shard; key = r.doc }; cell = c; batch = k.stamp }) (seen_by k.vis r) else None

abbrev pub key_says : Key → Option CellReading
key_says k = option_and_then (with_cell_of k) (event_reading k)

-- what the code of a key says
abbrev pub code_says : List ℕ → Option CellReading
code_says bytes = option_and_then key_says (key_from bytes)

-- what a slot of table 0 says
abbrev pub slot_says : Slot → Option CellReading
slot_says s = if s.table == 0 then code_says s.key else None

abbrev pub is_of : Place → CellReading → Bool
is_of p r = eq_by_cmp place_cmp p r.place

abbrev pub first_batch : List CellReading → ℕ
first_batch [] = 0
first_batch (r ∷ rs) = r.batch

-- the event of a place: the set of its cells, and the batch of the first of them
abbrev pub event_at : List CellReading → Place → Event
event_at rs p = (p, record { cells = set_of cell_cmp (list_map (λ r. r.cell) (filter (is_of p) rs)); batch = first_batch (filter (is_of p) rs) })

abbrev pub events_of : List CellReading → List Event
events_of rs = list_map (event_at rs) (set_of place_cmp (list_map (λ r. r.place) rs))

-- the events whose cells are among these slots, read in the order of their keys
abbrev pub events_in : List Slot → List Event
events_in slots = events_of (filter_map slot_says slots)

-- ---- the same, cell by cell

-- what is held with one cell more
abbrev pub held_more : Option Held → EventCell → ℕ → Held
held_more None c batch = record { cells = c ∷ []; batch = batch }
held_more (Some held) c batch = record { cells = with_item cell_cmp held.cells c; batch = held.batch }

-- what is held at a place after one reading
abbrev pub held_with : Place → Option Held → CellReading → Option Held
held_with p held r = if is_of p r then Some (held_more held r.cell r.batch) else held

-- and after some of them
abbrev pub held_after : Place → Option Held → List CellReading → Option Held
held_after p held [] = held
held_after p held (r ∷ rs) = held_after p (held_with p held r) rs

-- ---- of a world

-- the tables of a world stand for its events
abbrev pub EventsAreRead : Type 0
EventsAreRead = (w : World) → HasEvents w → events_in (map.keys (tables w)) ≡ w.events

-- worlds with equal tables have equal events
abbrev pub TablesTellEvents : Type 0
TablesTellEvents = (v w : World) → HasEvents v → HasEvents w → tables v ≡ tables w → v.events ≡ w.events

-- gathered cell by cell, they are what is held at each place
abbrev pub EventsAreGathered : Type 0
EventsAreGathered = (w : World) → HasEvents w → (p : Place) →
    held_after p None (filter_map code_says (list_map (λ c. c.0) (span_of 0 [] [] (tables w)))) ≡ held_at w.events p
