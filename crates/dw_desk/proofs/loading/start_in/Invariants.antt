use Rattle.std.proofs.Common.{◌≡◌, ◌++◌, List, map, length}
use Rattle.dw_outside.specs.declared.cell.Cell.{Cell}
use Rattle.dw_outside.specs.Tables.{cell_pair}
use Rattle.dw_desk.specs.Loading.{IsSaid}
use Rattle.dw_desk.proofs.loading.start_in.Given as goal

-- those behind are the cells that were taken
abbrev pub invariant-loop-cell : goal.invariant-loop-cell
invariant-loop-cell l = (behind : List Cell) × ((l.left ++ behind ≡ l.fn.cells) × IsSaid (map cell_pair behind) l.start)

abbrev pub decreases-loop-cell : goal.decreases-loop-cell
decreases-loop-cell l = length l.left
