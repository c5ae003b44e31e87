use Rattle.std.proofs.Common.{◌≡◌, map, length}
use Rattle.dw_rows.specs.CsvRecords.{cell_under as first_under}
use Rattle.dw_rows.proofs.columns.cell_under.Given as goal

abbrev pub invariant-loop-names : goal.invariant-loop-names
invariant-loop-names l = first_under l.name (map (λ n. n.now) l.header) (map (λ c. c.now) l.row) ≡ first_under l.name (map (λ n. n.now) l.names) (map (λ c. c.now) l.cells)

abbrev pub decreases-loop-names : goal.decreases-loop-names
decreases-loop-names l = length l.names
