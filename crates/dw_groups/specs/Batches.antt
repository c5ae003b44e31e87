-- The records of a list of JSON, of a text of JSON and of a text of CSV.
use Rattle.std.specs.Prelude.{ℕ, ◌+◌, nat_le, IsTrue, IfOk, List, [], ◌∷◌, length, map, Option, Some, None, Result, Err}
use Rattle.std.specs.List.{AllByRecursion}
use Rattle.std.specs.Str.{is_utf8}
use Rattle.csv.specs.Reading.{default_config, strip_bom, records}
use Rattle.serde_json.specs.Data.{Data, Items, no_items, item}
use Rattle.serde_json.specs.Read.{read}
use Rattle.dw_event.specs.Records.{IsWellFormed}
use Rattle.dw_event.specs.declared.records.Record.{Record}
use Rattle.dw_event.specs.declared.reports.BadRecord.{BadRecord}
use Rattle.dw_event.specs.declared.reports.BadRecord.TheVariants.{Shape}
use Rattle.dw_rows.specs.Values.{guarded}
use Rattle.dw_rows.specs.JsonRecords.{json_record}
use Rattle.dw_rows.specs.CsvRecords.{csv_record}
use Rattle.dw_groups.specs.declared.limits.TheConstants.{MAX_RECORDS}

-- the value that the bytes are, as JSON
abbrev pub json_of : List ℕ → Option Data
json_of bytes = guarded (is_utf8 bytes) (read bytes)

-- ---- JSON

-- the record of a value, where there is one
abbrev pub value_record : Option Data → Result Record BadRecord
value_record None = Err Shape
value_record (Some d) = json_record d

-- the record that a text of JSON is
abbrev pub text_record : List ℕ → Result Record BadRecord
text_record bytes = value_record (json_of bytes)

abbrev pub items_count : Items → ℕ
items_count no_items = 0
items_count (item d ds) = items_count ds + 1

-- the records of values, each read or the first rule that it breaks
abbrev pub records_of : Items → List (Result Record BadRecord)
records_of no_items = []
records_of (item d ds) = json_record d ∷ records_of ds

-- the records of a list of at most 10,000 values
abbrev pub batch_of : Items → Option (List (Result Record BadRecord))
batch_of ds = guarded (nat_le (items_count ds) MAX_RECORDS) (Some (records_of ds))

-- ---- CSV

-- the rows of a text of CSV, without the byte order mark at its start
abbrev pub rows_of : List ℕ → List (List (List ℕ))
rows_of text = records default_config (strip_bom text)

-- the records of the rows behind a header; where there is no header there is none
abbrev pub rows_records : List (List (List ℕ)) → List (Result Record BadRecord)
rows_records [] = []
rows_records (header ∷ rows) = map (csv_record header) rows

-- the same, where they are at most 10,000
abbrev pub rows_batch : List (List (List ℕ)) → Option (List (Result Record BadRecord))
rows_batch [] = Some []
rows_batch (header ∷ rows) = guarded (nat_le (length rows) MAX_RECORDS) (Some (map (csv_record header) rows))

-- at most 10,000 records, of which each that was read is well formed
pub record IsBatch (recs : List (Result Record BadRecord)) : Type 0 where
  pub few : IsTrue (nat_le (length recs) MAX_RECORDS)
  pub each : AllByRecursion (λ rec. IfOk rec IsWellFormed) recs
