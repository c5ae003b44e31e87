use Rattle.std.proofs.Common.{◌≡◌, ◌++◌, drop}
use Rattle.dw_event.specs.Records.{cells_canon}
use Rattle.dw_event.proofs.canon.put_cells.Given as goal

abbrev pub invariant-loop-cell : goal.invariant-loop-cell
invariant-loop-cell l = l.out.items ++ cells_canon (drop l.cell-index l.cells) ≡ l.fn.out.items ++ cells_canon l.cells
