-- Laws of the tables of a world.
use Rattle.std.specs.Prelude.{◌≡◌, ◌≢◌, ℕ, ◌==◌, Bool, false, List, [], ◌∷◌, map as list_map, Option, Some, None, Result, Ok, Err, if◌then◌else◌}
use Rattle.std.specs.List.{list_any}
use Rattle.std.specs.FinMap as map
use Rattle.dw_event.specs.Take.{Event}
use Rattle.dw_outside.specs.declared.slot.Slot.{Slot}
use Rattle.dw_outside.specs.declared.cell.Put.{Put}
use Rattle.dw_outside.specs.Tables.{Tables, applied}
use Rattle.dw_dict.specs.Dictionary.{Dictionary}
use Rattle.dw_derive.specs.declared.uid_list.Form.{Form}
use Rattle.dw_derive.specs.declared.uid_list.Form.TheVariants.{Two}
use Rattle.dw_derive.specs.declared.uid_list.UidList.{UidList}
use Rattle.dw_derive.specs.declared.uid_list.UidList.TheVariants.{Kept}
use Rattle.dw_derive.specs.declared.list_bytes.BadList.{BadList}
use Rattle.dw_derive.specs.UidLists.{added, list_bytes, list_read}
use Rattle.dw_derive.specs.Entries.{slots_of}
use Rattle.dw_derive.specs.Meta.{put_at, commit_slot, commit_bytes}
use Rattle.dw_derive.specs.World.{World}
use Rattle.dw_derive.specs.Tables.{gives, uid_of, tables}
use Rattle.dw_derive.specs.Lawful.{IsEvent, HasEvents, IsFree, with_event}

-- the list of one uid, in the newer form
abbrev pub list_of_one : List ℕ → List ℕ
list_of_one uid = list_bytes Two (Kept (uid ∷ []))

-- the list that was read, with one uid more; what is no list counts for nothing
abbrev pub list_after : List ℕ → Result (Form × UidList) BadList → List ℕ
list_after uid (Ok read) = list_bytes read.0 (added read.0 read.1 uid)
list_after uid (Err e) = list_of_one uid

-- what a slot of an index has once one event more gives it, from what it had
abbrev pub list_with : Option (List ℕ) → List ℕ → List ℕ
list_with None uid = list_of_one uid
list_with (Some bytes) uid = list_after uid (list_read bytes)

-- the same for any slot
abbrev pub grown : Slot → Option (List ℕ) → List ℕ → List ℕ
grown s before uid = if s.table == 0 then [] else list_with before uid

-- with one event more, each slot that it gives has it, and any other slot has what it had
abbrev pub TablesOfOneMore : Type 0
TablesOfOneMore = (w : World) (e : Event) → HasEvents w → IsEvent e → IsFree w e → (s : Slot) →
    map.get (tables (with_event w e)) s
    ≡ (if gives (slots_of w.dict) s e then Some (grown s (map.get (tables w) s) (uid_of e)) else map.get (tables w) s)

-- ---- as puts

-- what is to stand in a slot that one event more gives, by what these tables have there
abbrev pub put_of : Tables → List ℕ → Slot → Put
put_of m uid s = put_at s (grown s (map.get m s) uid)

-- the tables after the puts of an event's slots
abbrev pub stepped : Dictionary → Event → Tables → Tables
stepped dict e m = applied (list_map (put_of m (uid_of e)) (slots_of dict e)) m

-- these are the tables with the event
abbrev pub EventsAreSteps : Type 0
EventsAreSteps = (w : World) (e : Event) → HasEvents w → IsEvent e → IsFree w e → stepped w.dict e (tables w) ≡ tables (with_event w e)

-- the world with another last number
abbrev pub with_last : World → ℕ → World
with_last w n = record { events = w.events; dict = w.dict; grants = w.grants; last = n; old = w.old }

-- a number that is not 0 stands in its cell, and no other cell tells it
abbrev pub NumbersAreCells : Type 0
NumbersAreCells = (w : World) (n : ℕ) → n ≢ 0 → map.insert (tables w) commit_slot (commit_bytes n) ≡ tables (with_last w n)

-- a test that passes no slot of table 3 finds a cell of the tables where it finds one among those that some event gives
abbrev pub CellsAreGiven : Type 0
CellsAreGiven = (w : World) (test : Slot → Bool) → ((s : Slot) → s.table ≡ 3 → test s ≡ false) →
    list_any test (map.keys (tables w)) ≡ list_any (λ e. list_any test (slots_of w.dict e)) w.events
