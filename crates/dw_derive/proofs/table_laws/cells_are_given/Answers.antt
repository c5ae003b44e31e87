use Rattle.dw_derive.proofs.Stepping.{any_cell}
use Rattle.dw_derive.proofs.table_laws.cells_are_given.Goals as goal

pub returns : goal.returns
returns c = any_cell
