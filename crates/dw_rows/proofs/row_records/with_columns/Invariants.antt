use Rattle.std.proofs.Common.{◌≡◌, map, drop}
use Rattle.dw_rows.specs.Gathering.{with_entries}
use Rattle.dw_rows.specs.CsvRecords.{row_entries}
use Rattle.dw_rows.proofs.row_records.with_columns.Given as goal

abbrev pub invariant-loop-i : goal.invariant-loop-i
invariant-loop-i l =
    with_entries l.fn.gathered (row_entries l.vis (map (λ n. n.now) l.header) (map (λ c. c.now) l.row))
    ≡ with_entries l.gathered (row_entries l.vis (map (λ n. n.now) (drop l.i l.header)) (map (λ c. c.now) (drop l.i l.row)))
