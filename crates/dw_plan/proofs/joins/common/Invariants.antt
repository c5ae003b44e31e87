use Rattle.std.proofs.Common.{◌≡◌, ◌++◌, length}
use Rattle.std.specs.Prelude.{filter}
use Rattle.dw_plan.specs.Joins.{has}
use Rattle.dw_plan.proofs.joins.common.Given as goal

abbrev pub invariant-loop-item : goal.invariant-loop-item
invariant-loop-item l = l.all.items ++ filter (has l.right) l.left.items ≡ filter (has l.right) l.initial.left.items

abbrev pub decreases-loop-item : goal.decreases-loop-item
decreases-loop-item l = length l.left.items
