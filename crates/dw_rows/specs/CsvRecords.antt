-- Records of CSV.
use Rattle.std.specs.Prelude.{ℕ, Bool, false, ◌&&◌, ◌||◌, not, nat_le, ◌==◌, List, [], ◌∷◌, ◌++◌, length, filter, codes, Option, Some, None, unwrap_or, Result, Err, if◌then◌else◌}
use Rattle.std.specs.List.{list_all}
use Rattle.std.specs.Str.{bytes_eq}
use Rattle.dw_event.specs.declared.records.Record.{Record}
use Rattle.dw_event.specs.declared.reports.BadRecord.{BadRecord}
use Rattle.dw_event.specs.declared.reports.BadRecord.TheVariants.{Shape}
use Rattle.dw_rows.specs.Entries.{Entry, field_of, vis_of, verdict}

-- ---- the values of a cell

-- the bytes of a cell, with None for each `;` at which it is cut: `\;` stands for `;` and `\\` for `\`, and any other
-- `\` for itself
abbrev pub tokens : List ℕ → List (Option ℕ)
tokens [] = []
tokens (b ∷ []) = (if b == 59 then None else Some b) ∷ []
tokens (b ∷ c ∷ rest) =
    if (b == 92) && ((c == 59) || (c == 92)) then Some c ∷ tokens rest
    else (if b == 59 then None else Some b) ∷ tokens (c ∷ rest)

-- the texts between the cuts, of which the first begins with these bytes
abbrev pub cut_at_none : List ℕ → List (Option ℕ) → List (List ℕ)
cut_at_none piece [] = piece ∷ []
cut_at_none piece (None ∷ ts) = piece ∷ cut_at_none [] ts
cut_at_none piece (Some b ∷ ts) = cut_at_none (piece ++ b ∷ []) ts

-- the pieces of a cell, the empty ones too
abbrev pub pieces : List ℕ → List (List ℕ)
pieces cell = cut_at_none [] (tokens cell)

-- ---- columns

-- the name begins with `@`
abbrev pub begins_with_at : List ℕ → Bool
begins_with_at [] = false
begins_with_at (b ∷ bs) = b == 64

-- how many columns have a name
abbrev pub columns_named : List ℕ → List (List ℕ) → ℕ
columns_named name header = length (filter (λ n. bytes_eq n name) header)

-- a name that begins with `@` is one of the three
unfoldable pub is_column_name : List ℕ → Bool
is_column_name name = not (begins_with_at name) || bytes_eq name (codes "@type") || bytes_eq name (codes "@date") || bytes_eq name (codes "@vis")

-- `@type` and `@date` stand once each, `@vis` at most once, and no other name begins with `@`
abbrev pub is_header : List (List ℕ) → Bool
is_header header =
    (columns_named (codes "@type") header == 1) && (columns_named (codes "@date") header == 1) && nat_le (columns_named (codes "@vis") header) 1
    && list_all is_column_name header

-- the first cell under a name
abbrev pub cell_under : List ℕ → List (List ℕ) → List (List ℕ) → Option (List ℕ)
cell_under name [] cells = None
cell_under name (n ∷ ns) [] = None
cell_under name (n ∷ ns) (c ∷ cs) = if bytes_eq n name then Some c else cell_under name ns cs

-- ---- records

-- the entries of pieces, one for each
abbrev pub piece_entries : Option (List ℕ) → Option (List ℕ) → List (List ℕ) → List Entry
piece_entries field vis [] = []
piece_entries field vis (raw ∷ raws) = record { field = field; vis = vis; raw = raw } ∷ piece_entries field vis raws

-- the entries of a field's column: one of its name, with no value, and those of the pieces of the cell
abbrev pub column_entries : Option (List ℕ) → Option (List ℕ) → List ℕ → List Entry
column_entries field vis cell = record { field = field; vis = vis; raw = [] } ∷ piece_entries field vis (pieces cell)

-- the entries of the columns that are fields, in order
abbrev pub row_entries : Option (List ℕ) → List (List ℕ) → List (List ℕ) → List Entry
row_entries vis [] cells = []
row_entries vis (n ∷ ns) [] = []
row_entries vis (n ∷ ns) (c ∷ cs) = (if begins_with_at n then [] else column_entries (field_of n) vis c) ++ row_entries vis ns cs

-- the verdict on a type, a date and the columns that are fields, under the visibility of the row, the empty one where
-- no column is `@vis`
abbrev pub fields_verdict : List ℕ → List ℕ → List (List ℕ) → List (List ℕ) → Result Record BadRecord
fields_verdict dtype date header row =
    verdict (record { dtype = dtype; date = date; entries = row_entries (vis_of (unwrap_or (cell_under (codes "@vis") header row) [])) header row })

-- the verdict on what stands under `@type`, and then on what stands under `@date`
abbrev pub typed_verdict : Option (List ℕ) → Option (List ℕ) → List (List ℕ) → List (List ℕ) → Result Record BadRecord
typed_verdict None date header row = Err Shape
typed_verdict (Some dtype) None header row = Err Shape
typed_verdict (Some dtype) (Some date) header row = fields_verdict dtype date header row

-- the record that a row is under a header that keeps its rule and has as many columns, or the first rule that it breaks
unfoldable pub csv_record : List (List ℕ) → List (List ℕ) → Result Record BadRecord
csv_record header row =
    if is_header header && (length row == length header)
    then typed_verdict (cell_under (codes "@type") header row) (cell_under (codes "@date") header row) header row
    else Err Shape
