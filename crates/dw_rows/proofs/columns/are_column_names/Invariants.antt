use Rattle.std.proofs.Common.{◌≡◌, map, drop}
use Rattle.std.specs.List.{list_all}
use Rattle.dw_rows.specs.CsvRecords.{is_column_name}
use Rattle.dw_rows.proofs.columns.are_column_names.Given as goal

abbrev pub invariant-loop-column : goal.invariant-loop-column
invariant-loop-column l = list_all is_column_name (map (λ n. n.now) l.header) ≡ list_all is_column_name (map (λ n. n.now) (drop l.column-index l.header))
