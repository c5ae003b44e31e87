-- On what the cells of table 3 say, one after another.
use Rattle.std.proofs.Common.{◌≡◌, List, [], ◌∷◌, ◌++◌, map, refl, ap}
use Rattle.dw_outside.specs.declared.cell.Cell.{Cell}
use Rattle.dw_outside.specs.Tables.{cell_pair}
use Rattle.dw_audit.specs.Meta.{MetaSum, with_cell, all_said}

-- the last cell is taken first
pub last_said : (front : List Cell) (c : Cell) (m : MetaSum) → all_said (map cell_pair (front ++ c ∷ [])) m ≡ all_said (map cell_pair front) (with_cell (cell_pair c) m)
last_said [] c m = refl
last_said (x ∷ front) c m = ap (with_cell (cell_pair x)) (last_said front c m)
