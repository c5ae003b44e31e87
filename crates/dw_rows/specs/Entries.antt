-- What is written of a record, whatever rules that breaks, and the first rule that it breaks.
use Rattle.std.specs.Prelude.{ℕ, Bool, ◌&&◌, not, nat_le, ◌==◌, List, [], ◌∷◌, ◌++◌, length, Option, Some, None, is_some, unwrap_or, Result, Ok, Err, if◌then◌else◌}
use Rattle.std.specs.List.{list_any, list_all}
use Rattle.std.specs.Str.{is_utf8, str_to_ascii_uppercase}
use Rattle.dw_base.specs.Ascending.{set_of}
use Rattle.dw_base.specs.Days.{day_digits}
use Rattle.dw_base.specs.FieldNames.{is_field_name}
use Rattle.dw_base.specs.declared.limits.TheConstants.{MAX_CELLS, MAX_CANONICAL, MAX_VALUE}
use Rattle.dw_key.specs.TypeName.{is_type_name}
use Rattle.dw_event.specs.Cells.{cell_cmp}
use Rattle.dw_event.specs.Names.{lacks_zero, is_visibility}
use Rattle.dw_event.specs.Records.{canon}
use Rattle.dw_event.specs.declared.cells.EventCell.{EventCell}
use Rattle.dw_event.specs.declared.records.Record.{Record}
use Rattle.dw_event.specs.declared.reports.BadRecord.{BadRecord}
use Rattle.dw_event.specs.declared.reports.BadRecord.TheVariants.{Shape, Dtype, Date, Field, Visibility, Value, TooLarge}
use Rattle.dw_rows.specs.Values.{guarded}

-- What is written of one value: its field, or None where the name breaks its rule; its visibility, or None where
-- that is refused; and its bytes, of which there are none where no value stands.
pub record Entry : Type 0 where
  pub field : Option (List ℕ)
  pub vis : Option (List ℕ)
  pub raw : List ℕ

-- what is written of a record: its type, its date and the entries of its values
pub record Draft : Type 0 where
  pub dtype : List ℕ
  pub date : List ℕ
  pub entries : List Entry

-- the field of a name that keeps its rule, with its letters in upper case
abbrev pub field_of : List ℕ → Option (List ℕ)
field_of name = guarded (is_field_name name) (Some (str_to_ascii_uppercase name))

-- the visibility that a text is, where it is one and holds no byte 0
abbrev pub vis_of : List ℕ → Option (List ℕ)
vis_of text = guarded (is_visibility text) (Some text)

-- the eight digits of the day that the bytes name, where they are a text
abbrev pub day_of : List ℕ → Option (List ℕ)
day_of date = guarded (is_utf8 date) (day_digits date)

-- ---- the rules on one entry

-- a value stands there
abbrev pub has_value : Entry → Bool
has_value e = not (length e.raw == 0)

-- the name keeps its rule
abbrev pub has_field : Entry → Bool
has_field e = is_some e.field

-- the visibility is not refused
abbrev pub has_vis : Entry → Bool
has_vis e = is_some e.vis

-- the bytes are a text of at most 4,096 bytes, of which none is 0
abbrev pub is_short_text : List ℕ → Bool
is_short_text raw = nat_le (length raw) MAX_VALUE && lacks_zero raw && is_utf8 raw

abbrev pub has_short_value : Entry → Bool
has_short_value e = is_short_text e.raw

-- ---- the record

-- the cell of these parts, where each is there
abbrev pub cell_with : Option (List ℕ) → Option (List ℕ) → List ℕ → List EventCell
cell_with None vis raw = []
cell_with (Some field) None raw = []
cell_with (Some field) (Some vis) raw = record { field = field; raw = raw; vis = vis } ∷ []

-- the cell of an entry where a value stands, where it keeps its rules
abbrev pub cells_at : Entry → List EventCell
cells_at e = if has_value e && has_short_value e then cell_with e.field e.vis e.raw else []

-- the cells of entries, one after another
abbrev pub cells_of : List Entry → List EventCell
cells_of [] = []
cells_of (e ∷ es) = cells_at e ++ cells_of es

-- the record that is written: its date as eight digits, and the set of its cells
abbrev pub record_of : Draft → Record
record_of d = record { dtype = d.dtype; date = unwrap_or (day_of d.date) []; cells = set_of cell_cmp (cells_of d.entries) }

-- at most 4,096 cells and 65,536 canonical bytes
abbrev pub is_small : Record → Bool
is_small rec = nat_le (length rec.cells) MAX_CELLS && nat_le (length (canon rec)) MAX_CANONICAL

-- the record that is written, or the first of the rules that it breaks: a value stands somewhere, the type and the
-- date keep their rules, and then each name, each visibility, each value, and the size
abbrev pub verdict : Draft → Result Record BadRecord
verdict d =
    if not (list_any has_value d.entries) then Err Shape
    else if not (is_type_name d.dtype) then Err Dtype
    else if not (is_some (day_of d.date)) then Err Date
    else if not (list_all has_field d.entries) then Err Field
    else if not (list_all has_vis d.entries) then Err Visibility
    else if not (list_all has_short_value d.entries) then Err Value
    else if not (is_small (record_of d)) then Err TooLarge
    else Ok (record_of d)
