use Rattle.std.proofs.Common.{◌≡◌, ◌++◌, map, drop}
use Rattle.csv.specs.Records.{fields_of}
use Rattle.dw_rows.specs.CsvRecords.{csv_record}
use Rattle.dw_groups.proofs.tables.read_rows.Given as goal

abbrev pub invariant-loop-row : goal.invariant-loop-row
invariant-loop-row l = map (csv_record (fields_of l.header)) (map fields_of l.rows) ≡ l.records ++ map (csv_record (fields_of l.header)) (map fields_of (drop l.row-index l.rows))
