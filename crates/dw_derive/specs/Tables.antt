-- The tables of a world.
use Rattle.std.specs.Prelude.{ℕ, ◌==◌, Bool, List, [], ◌∷◌, ◌++◌, map as list_map, filter, if◌then◌else◌}
use Rattle.std.specs.List.{list_any, flat_map}
use Rattle.std.specs.FinMap as map
use Rattle.std.specs.FinSet as set
use Rattle.dw_dict.specs.declared.rule.FieldRule.{FieldRule}
use Rattle.dw_event.specs.Take.{Event}
use Rattle.dw_outside.specs.declared.slot.Slot.{Slot}
use Rattle.dw_outside.specs.Tables.{Tables, slot_cmp, is_slot}
use Rattle.dw_derive.specs.declared.uid_list.Form.{Form}
use Rattle.dw_derive.specs.declared.uid_list.Form.TheVariants.{One, Two}
use Rattle.dw_derive.specs.UidLists.{list_of, list_bytes}
use Rattle.dw_derive.specs.Entries.{slots_of}
use Rattle.dw_derive.specs.Meta.{commit_slot, commit_bytes, field_slot, rule_bytes, grant_slot, names_bytes}
use Rattle.dw_derive.specs.World.{World}

abbrev pub uid_of : Event → List ℕ
uid_of e = e.0.key.uid

-- ---- of any slots that events give, and any form at each slot

-- the event gives the slot
abbrev pub gives : (Event → List Slot) → Slot → Event → Bool
gives slots s e = list_any (is_slot s) (slots e)

-- the events that give a slot, in their order
abbrev pub givers : (Event → List Slot) → List Event → Slot → List Event
givers slots events s = filter (gives slots s) events

-- what a slot that is given has: nothing in table 0, and else the list of the uids of its events
abbrev pub content : (Slot → Form) → (Event → List Slot) → List Event → Slot → List ℕ
content forms slots events s =
    if s.table == 0 then [] else list_bytes (forms s) (list_of (forms s) (list_map uid_of (givers slots events s)))

-- the cells that the events give, of which one may stand several times
abbrev pub event_cells : (Slot → Form) → (Event → List Slot) → List Event → List (Slot × List ℕ)
event_cells forms slots events = list_map (λ s. (s, content forms slots events s)) (flat_map slots events)

-- ---- of a world

-- which form the list in a slot has
abbrev pub form_at : set.FinSet slot_cmp → Slot → Form
form_at old s = if set.contains old s then One else Two

-- the cell of the last number, which is not there while that is 0
abbrev pub commit_cells : ℕ → List (Slot × List ℕ)
commit_cells last = if last == 0 then [] else (commit_slot, commit_bytes last) ∷ []

-- the cell of a field's rule
abbrev pub field_cell : List ℕ × FieldRule → Slot × List ℕ
field_cell f = (field_slot f.0, rule_bytes f.1)

-- the cell of a grant
abbrev pub grant_cell : List ℕ × List (List ℕ) → Slot × List ℕ
grant_cell g = (grant_slot g.0, names_bytes g.1)

-- the cells of table 3
abbrev pub meta_cells : World → List (Slot × List ℕ)
meta_cells w = commit_cells w.last ++ list_map field_cell (map.entries w.dict) ++ list_map grant_cell (map.entries w.grants)

-- the union of the cells that the events give and those of table 3
unfoldable pub tables : World → Tables
tables w = map.from_entries (event_cells (form_at w.old) (slots_of w.dict) w.events ++ meta_cells w)
