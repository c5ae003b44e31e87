-- What a field's new rule adds to the tables.
use Rattle.std.specs.Prelude.{◌≡◌, ℕ, ◌==◌, ◌&&◌, not, List, [], ◌∷◌, ◌++◌, map as list_map, filter, length, Option, Some, None, is_none, IsTrue, if◌then◌else◌}
use Rattle.std.specs.List.{flat_map}
use Rattle.std.specs.Str.{bytes_eq}
use Rattle.std.specs.FinMap as map
use Rattle.dw_base.specs.FieldNames.{is_folded_name}
use Rattle.dw_norm.specs.Normal.{norm}
use Rattle.dw_dict.specs.declared.rule.FieldRule.{FieldRule}
use Rattle.dw_dict.specs.Rules.{Widens}
use Rattle.dw_dict.specs.Dictionary.{rule_of}
use Rattle.dw_event.specs.declared.cells.EventCell.{EventCell}
use Rattle.dw_event.specs.Take.{Event}
use Rattle.dw_outside.specs.declared.slot.Slot.{Slot}
use Rattle.dw_outside.specs.Tables.{Tables, applied, over}
use Rattle.dw_derive.specs.declared.event_cells.Entry.{Entry}
use Rattle.dw_derive.specs.declared.uid_list.Form.TheVariants.{Two}
use Rattle.dw_derive.specs.Entries.{forward_entries, backward_entries, slot_of}
use Rattle.dw_derive.specs.Meta.{field_slot, rule_bytes}
use Rattle.dw_derive.specs.World.{World}
use Rattle.dw_derive.specs.Tables.{uid_of, event_cells, tables}
use Rattle.dw_derive.specs.Lawful.{HasEvents, IsWorld}
use Rattle.dw_derive.specs.Laws.{put_of}
use Rattle.dw_derive.specs.MetaTables.{with_rule}

-- the cells of the indexes that a new rule gives for a normal form, and the old one does not
abbrev pub entries_beside : FieldRule → FieldRule → Event → EventCell → Option (List ℕ) → List Entry
entries_beside old rule e c None = []
entries_beside old rule e c (Some value) =
    (if rule.indexed && not old.indexed then forward_entries e c value else [])
    ++ (if rule.reversed && not old.reversed then backward_entries e c value else [])

-- those that it adds for one cell of an event, where that is of the field
abbrev pub cell_adds : List ℕ → FieldRule → FieldRule → Event → EventCell → List Entry
cell_adds field old rule e c = if bytes_eq c.field field then entries_beside old rule e c (norm rule.kind c.raw) else []

-- and for an event, of which one may stand twice
abbrev pub entries_added : List ℕ → FieldRule → FieldRule → Event → List Entry
entries_added field old rule e = flat_map (cell_adds field old rule e) e.1.cells

abbrev pub slots_added : List ℕ → FieldRule → FieldRule → Event → List Slot
slots_added field old rule e = list_map slot_of (entries_added field old rule e)

-- the cells of some slots that events give, with lists of the newer form
unfoldable pub index_tables : (Event → List Slot) → List Event → Tables
index_tables slots events = map.from_entries (event_cells (λ s. Two) slots events)

-- the tables after the puts of an event's slots
abbrev pub index_stepped : (Event → List Slot) → Event → Tables → Tables
index_stepped slots e m = applied (list_map (put_of m (uid_of e)) (slots e)) m

-- and after those of some events, one after another
abbrev pub all_stepped : (Event → List Slot) → List Event → Tables → Tables
all_stepped slots [] m = m
all_stepped slots (e ∷ es) m = all_stepped slots es (index_stepped slots e m)

-- what the new rule of a field adds to the tables of a world
abbrev pub added_tables : World → List ℕ → FieldRule → Tables
added_tables w field rule = index_tables (slots_added field (rule_of w.dict field) rule) w.events

-- with these cells and that of the rule the tables are those of the world with the rule
abbrev pub IndexesAreAdded : Type 0
IndexesAreAdded = (w : World) (field : List ℕ) (rule : FieldRule) → HasEvents w → Widens rule (rule_of w.dict field) →
    map.insert (over (added_tables w field rule) (tables w)) (field_slot field) (rule_bytes rule) ≡ tables (with_rule w field rule)

-- how many cells of the tables 0 to 2 stand after and not before
abbrev pub new_cells : Tables → Tables → ℕ
new_cells before after = length (filter (λ s. not (s.table == 3) && is_none (map.get before s)) (map.keys after))

-- these cells are all that are new
abbrev pub AddedAreNew : Type 0
AddedAreNew = (w : World) (field : List ℕ) (rule : FieldRule) → HasEvents w → Widens rule (rule_of w.dict field) →
    map.len (added_tables w field rule) ≡ new_cells (tables w) (tables (with_rule w field rule))

-- event by event the same cells are made
abbrev pub IndexesAreSteps : Type 0
IndexesAreSteps = (w : World) (field : List ℕ) (rule : FieldRule) → HasEvents w → Widens rule (rule_of w.dict field) →
    all_stepped (slots_added field (rule_of w.dict field) rule) w.events map.empty ≡ added_tables w field rule

-- a world with a wider rule of a field keeps the rules of a world
abbrev pub WiderRulesKeepWorlds : Type 0
WiderRulesKeepWorlds = (w : World) (field : List ℕ) (rule : FieldRule) → Widens rule (rule_of w.dict field) → IsWorld w → IsTrue (is_folded_name field) → IsWorld (with_rule w field rule)
