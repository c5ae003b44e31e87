-- The groups of records that an input of `ingest` asks to take in, each by one request.
use Rattle.std.specs.Prelude.{ℕ, nat_le, List, length, map, Result, Ok, Err, if◌then◌else◌}
use Rattle.dw_event.specs.declared.records.Record.{Record}
use Rattle.dw_event.specs.declared.reports.BadRecord.{BadRecord}
use Rattle.dw_event.specs.declared.reports.BadRecord.TheVariants.{Shape}
use Rattle.dw_groups.specs.Batches.{text_record, rows_of, rows_records}
use Rattle.dw_groups.specs.Groups.{full_groups, groups}
use Rattle.dw_wire.specs.ReadLine.{max_line}
use Rattle.dw_wire.specs.declared.request.Request.TheVariants.{Ingest}
use Rattle.dw_desk.specs.Session.{Asked}
use Rattle.datawave.specs.Lines.{lines}

-- the record that a line is, or the first rule that it breaks; a line that is too long is of another shape
abbrev pub line_record : List ℕ → Result Record BadRecord
line_record line = if nat_le (length line) max_line then text_record line else Err Shape

-- the request to take a group in
abbrev pub ingest : List (Result Record BadRecord) → Asked
ingest recs = Ok (Ingest recs)

-- the requests of the whole groups of records, whatever follows
abbrev pub full_ingests : List (Result Record BadRecord) → List Asked
full_ingests recs = map ingest (full_groups recs)

-- the requests of all groups of records
abbrev pub ingests : List (Result Record BadRecord) → List Asked
ingests recs = map ingest (groups recs)

-- the records of lines
abbrev pub line_records : List (List ℕ) → List (Result Record BadRecord)
line_records ls = map line_record ls

-- what an input of one record of JSON a line asks for
abbrev pub json_groups : List ℕ → List Asked
json_groups bytes = ingests (line_records (lines bytes))

-- what an input of CSV asks for
abbrev pub csv_groups : List ℕ → List Asked
csv_groups bytes = ingests (rows_records (rows_of bytes))
