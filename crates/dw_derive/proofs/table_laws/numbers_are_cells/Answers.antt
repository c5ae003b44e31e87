use Rattle.dw_derive.proofs.Stepping.{numbers_are_cells}
use Rattle.dw_derive.proofs.table_laws.numbers_are_cells.Goals as goal

pub returns : goal.returns
returns c = numbers_are_cells
