use Rattle.std.proofs.Common.{◌≡◌, map, length}
use Rattle.dw_outside.specs.Tables.{cell_pair}
use Rattle.dw_audit.specs.Comparing.{first_difference}
use Rattle.dw_audit.proofs.comparing.first_difference.Given as goal

abbrev pub invariant-loop-cell : goal.invariant-loop-cell
invariant-loop-cell l = first_difference l.lists (map cell_pair l.left) (map cell_pair l.right) ≡ first_difference l.lists (map cell_pair l.fn.found) (map cell_pair l.fn.wanted)

abbrev pub decreases-loop-cell : goal.decreases-loop-cell
decreases-loop-cell l = length l.left
