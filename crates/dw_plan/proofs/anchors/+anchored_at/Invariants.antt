use Rattle.std.proofs.Common.{◌≡◌, map}
use Rattle.dw_plan.specs.Anchored.{anchored_at, and_at, or_at}
use Rattle.dw_plan.proofs.Walking.{from}
use Rattle.dw_plan.proofs.anchors.+anchored_at.Given as goal

abbrev pub decreases-anchored_at : goal.decreases-anchored_at
decreases-anchored_at l = goal.size-anchored_at l

abbrev pub invariant-loop-child : goal.invariant-loop-child
invariant-loop-child l = and_at (from l.child-index l.child-items) l.positive ≡ and_at (map anchored_at l.child-items) l.positive

abbrev pub invariant-loop-child-2 : goal.invariant-loop-child-2
invariant-loop-child-2 l = or_at (from l.child-index l.child-items) l.positive ≡ or_at (map anchored_at l.child-items) l.positive
