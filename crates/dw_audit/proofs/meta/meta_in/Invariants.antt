use Rattle.std.proofs.Common.{◌≡◌, map, length}
use Rattle.dw_outside.specs.Tables.{cell_pair}
use Rattle.dw_audit.specs.Meta.{sum_of, nothing_said, all_said}
use Rattle.dw_audit.proofs.meta.meta_in.Given as goal

abbrev pub invariant-loop-cell : goal.invariant-loop-cell
invariant-loop-cell l = all_said (map cell_pair l.left) (sum_of l.meta) ≡ all_said (map cell_pair l.fn.cells) nothing_said

abbrev pub decreases-loop-cell : goal.decreases-loop-cell
decreases-loop-cell l = length l.left
