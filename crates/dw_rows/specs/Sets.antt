-- Sets of cells that are given up when they have too many.
use Rattle.std.specs.Prelude.{nat_le, List, [], ◌∷◌, length, Option, Some, option_and_then}
use Rattle.dw_base.specs.declared.limits.TheConstants.{MAX_CELLS}
use Rattle.dw_event.specs.Cells.{with_cell}
use Rattle.dw_event.specs.declared.cells.EventCell.{EventCell}
use Rattle.dw_rows.specs.Values.{guarded}

-- a set of cells, where it has at most 4,096
abbrev pub few : List EventCell → Option (List EventCell)
few cells = guarded (nat_le (length cells) MAX_CELLS) (Some cells)

-- a set that is given up when it has too many cells, with one cell more
abbrev pub with_few : Option (List EventCell) → EventCell → Option (List EventCell)
with_few cells cell = option_and_then (λ set. few (with_cell set cell)) cells

-- the same with more cells, one after another
abbrev pub with_all_few : Option (List EventCell) → List EventCell → Option (List EventCell)
with_all_few cells [] = cells
with_all_few cells (c ∷ cs) = with_all_few (with_few cells c) cs
