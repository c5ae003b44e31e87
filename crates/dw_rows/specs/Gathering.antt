-- What is known of a record's entries while they are read.
use Rattle.std.specs.Prelude.{ℕ, true, false, ◌&&◌, ◌||◌, not, nat_le, List, [], ◌∷◌, length, Option, Some, None, is_some, unwrap_or, Result, Ok, Err, if◌then◌else◌}
use Rattle.dw_base.specs.declared.limits.TheConstants.{MAX_CANONICAL}
use Rattle.dw_key.specs.TypeName.{is_type_name}
use Rattle.dw_event.specs.Records.{canon}
use Rattle.dw_event.specs.declared.cells.EventCell.{EventCell}
use Rattle.dw_event.specs.declared.records.Record.{Record}
use Rattle.dw_event.specs.declared.reports.BadRecord.{BadRecord}
use Rattle.dw_event.specs.declared.reports.BadRecord.TheVariants.{Shape, Dtype, Date, Field, Visibility, Value, TooLarge}
use Rattle.dw_rows.specs.Sets.{with_all_few}
use Rattle.dw_rows.specs.Entries.{Entry, day_of, has_value, has_field, has_vis, has_short_value, cells_at}
use Rattle.dw_rows.specs.declared.gathered.Gathered.{Gathered}

-- before the first entry
abbrev pub none_gathered : Gathered
none_gathered = record { cells = Some []; some_value = false; fields_kept = true; visibilities_kept = true; values_kept = true }

-- with one entry more
abbrev pub with_entry : Gathered → Entry → Gathered
with_entry g e = record {
  cells = with_all_few g.cells (cells_at e);
  some_value = g.some_value || has_value e;
  fields_kept = g.fields_kept && has_field e;
  visibilities_kept = g.visibilities_kept && has_vis e;
  values_kept = g.values_kept && has_short_value e;
}

-- with more entries, one after another
abbrev pub with_entries : Gathered → List Entry → Gathered
with_entries g [] = g
with_entries g (e ∷ es) = with_entries (with_entry g e) es

-- the record of a type, a date and cells, where they are few enough, by its canonical bytes
abbrev pub limited : Record → Result Record BadRecord
limited rec = if nat_le (length (canon rec)) MAX_CANONICAL then Ok rec else Err TooLarge

-- the same where the cells were given up
abbrev pub sized : List ℕ → List ℕ → Option (List EventCell) → Result Record BadRecord
sized dtype date None = Err TooLarge
sized dtype date (Some cells) = limited (record { dtype = dtype; date = date; cells = cells })

-- the record of a type, a day and what was gathered, or the first rule that it breaks
abbrev pub judged : List ℕ → List ℕ → Gathered → Result Record BadRecord
judged dtype date g =
    if not g.some_value then Err Shape
    else if not (is_type_name dtype) then Err Dtype
    else if not (is_some (day_of date)) then Err Date
    else if not g.fields_kept then Err Field
    else if not g.visibilities_kept then Err Visibility
    else if not g.values_kept then Err Value
    else sized dtype (unwrap_or (day_of date) []) g.cells
