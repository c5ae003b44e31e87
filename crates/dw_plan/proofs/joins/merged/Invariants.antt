use Rattle.std.proofs.Common.{◌≡◌, ◌+◌, ◌++◌, true, length}
use Rattle.std.specs.Ordering.{nat_cmp}
use Rattle.std.specs.Cmp.Lexicographic.{slice_cmp}
use Rattle.std.specs.Set.{sorted_merge}
use Rattle.dw_plan.proofs.joins.merged.Given as goal

abbrev pub invariant-loop-item : goal.invariant-loop-item
invariant-loop-item l =
    l.all.items ++ sorted_merge (slice_cmp nat_cmp) true l.left.items l.right.items ≡ sorted_merge (slice_cmp nat_cmp) true l.initial.left.items l.initial.right.items

abbrev pub decreases-loop-item : goal.decreases-loop-item
decreases-loop-item l = length l.left.items + length l.right.items
