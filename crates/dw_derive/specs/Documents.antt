-- The cells of one event, read from the table of cells.
use Rattle.std.specs.Prelude.{◌≡◌, ℕ, true, List, [], ◌∷◌, ◌++◌, map as list_map, filter_map, Option, Some, None, if◌then◌else◌}
use Rattle.std.specs.Option.{option_and_then, option_map_or}
use Rattle.dw_base.specs.Ascending.{set_of}
use Rattle.dw_key.specs.declared.key.Key.{Key}
use Rattle.dw_key.specs.KeyCode.{escaped, part_code}
use Rattle.dw_key.specs.TypeName.{is_type_name}
use Rattle.dw_vis.specs.Test.{is_vis}
use Rattle.dw_event.specs.declared.cells.EventCell.{EventCell}
use Rattle.dw_event.specs.declared.records.Place.{Place}
use Rattle.dw_event.specs.Cells.{cell_cmp}
use Rattle.dw_event.specs.Take.{held_at}
use Rattle.dw_outside.specs.Tables.{Tables, span_of}
use Rattle.dw_derive.specs.UidLists.{IsUid}
use Rattle.dw_derive.specs.Entries.{doc_text}
use Rattle.dw_derive.specs.Readers.{EventReading, event_reading}
use Rattle.dw_derive.specs.Decoded.{key_from}
use Rattle.dw_derive.specs.World.{World}
use Rattle.dw_derive.specs.Tables.{tables}
use Rattle.dw_derive.specs.Lawful.{HasEvents}

-- what the keys of an event's cells begin with, up to the byte 0 that ends it
abbrev pub document_front : Place → List ℕ
document_front p = part_code p.shard ++ (escaped (doc_text p.key) ++ 0 ∷ [])

-- the first place of an event's cells
abbrev pub document_start : Place → List ℕ
document_start p = document_front p ++ 0 ∷ []

-- and the first place past them
abbrev pub document_end : Place → List ℕ
document_end p = document_front p ++ 1 ∷ []

-- the field and the raw value that a key says, and who sees them, where its visibility is one
abbrev pub seen_by : List ℕ → EventReading → Option EventCell
seen_by vis r = if is_vis vis then Some (record { field = r.field; raw = r.raw; vis = vis }) else None

abbrev pub cell_of_key : Key → Option EventCell
cell_of_key k = option_and_then (seen_by k.vis) (event_reading k)

-- the cell of an event that the code of a key says
abbrev pub cell_from : List ℕ → Option EventCell
cell_from bytes = option_and_then cell_of_key (key_from bytes)

-- the set of the cells that some codes say
abbrev pub cells_from : List (List ℕ) → List EventCell
cells_from keys = set_of cell_cmp (filter_map cell_from keys)

-- the cells of the event of a place, as tables have them
abbrev pub document_of : Tables → Place → List EventCell
document_of m p = cells_from (list_map (λ c. c.0) (span_of 0 (document_start p) (document_end p) m))

-- they are the cells of the world's event of that place, and none where there is no such event
abbrev pub DocumentsAreRead : Type 0
DocumentsAreRead = (w : World) (p : Place) → HasEvents w → is_type_name p.key.dtype ≡ true → IsUid p.key.uid →
    document_of (tables w) p ≡ option_map_or (λ h. h.cells) (held_at w.events p) []
