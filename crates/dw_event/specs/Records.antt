-- Records, and the bytes by which they are told apart.
use Rattle.std.specs.Prelude.{◌≡◌, ℕ, Bool, ◌&&◌, nat_le, IsTrue, List, [], ◌∷◌, ◌++◌, length}
use Rattle.std.specs.List.{list_all}
use Rattle.dw_key.specs.TypeName.{is_type_name}
use Rattle.dw_event.specs.declared.cells.EventCell.{EventCell}
use Rattle.dw_event.specs.declared.records.Record.{Record}
use Rattle.std.specs.Str.{is_utf8}
use Rattle.dw_base.specs.Days.{names_day}
use Rattle.dw_base.specs.FieldNames.{is_folded_name}
use Rattle.dw_base.specs.declared.limits.TheConstants.{MAX_CELLS, MAX_CANONICAL}
use Rattle.dw_event.specs.Cells.{IsAscending}
use Rattle.dw_event.specs.Names.{is_raw_value, is_visibility}

-- a text and the byte 0 that ends it
abbrev pub ended : List ℕ → List ℕ
ended text = text ++ 0 ∷ []

-- the field, the raw value and the text of the visibility, each ended
abbrev pub cell_canon : EventCell → List ℕ
cell_canon cell = ended cell.field ++ ended cell.raw ++ ended cell.vis

-- the bytes of cells, one after another
abbrev pub cells_canon : List EventCell → List ℕ
cells_canon [] = []
cells_canon (c ∷ cs) = cell_canon c ++ cells_canon cs

-- the canonical bytes of a record: its type and its date, each ended, and its cells
abbrev pub canon : Record → List ℕ
canon r = ended r.dtype ++ ended r.date ++ cells_canon r.cells

-- a field, a raw value that is UTF-8 and a visibility by their rules
abbrev pub is_cell : EventCell → Bool
is_cell cell = is_folded_name cell.field && (is_raw_value cell.raw && is_utf8 cell.raw && is_visibility cell.vis)

-- a type by its rule, a date that names a day, 1 to 4,096 cells by their rules, and at most 65,536 canonical bytes
abbrev pub keeps_rules : Record → Bool
keeps_rules r =
    is_type_name r.dtype && names_day r.date && nat_le 1 (length r.cells) && nat_le (length r.cells) MAX_CELLS
    && list_all is_cell r.cells && nat_le (length (canon r)) MAX_CANONICAL

-- such a record, whose cells are a set in order
pub record IsWellFormed (r : Record) : Type 0 where
  pub rules : IsTrue (keeps_rules r)
  pub ordered : IsAscending r.cells

-- two well-formed records with one list of canonical bytes are one
abbrev pub CanonTellsApart : Type 0
CanonTellsApart = (r s : Record) → IsWellFormed r → IsWellFormed s → canon r ≡ canon s → r ≡ s
