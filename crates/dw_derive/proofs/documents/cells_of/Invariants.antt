use Rattle.std.proofs.Common.{◌≡◌, ◌++◌, drop, map}
use Rattle.std.specs.Prelude.{filter_map}
use Rattle.dw_outside.specs.declared.cell.Cell.{Cell}
use Rattle.dw_derive.specs.Documents.{cell_from}
use Rattle.dw_derive.proofs.documents.cells_of.Given as goal

abbrev pub invariant-loop-cell : goal.invariant-loop-cell
invariant-loop-cell l =
    let key = λ (c : Cell). c.key in
    l.all.items ++ filter_map cell_from (map key (drop l.cell-index l.cells)) ≡ filter_map cell_from (map key l.cells)
