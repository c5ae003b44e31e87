use Rattle.std.proofs.Common.{◌≡◌, None, find}
use Rattle.dw_nest.specs.Shapes.{shapes, leaves, joined}
use Rattle.dw_nest.proofs.tree.+missing.Given as goal

abbrev pub invariant-first_missing_of-loop-child : goal.invariant-first_missing_of-loop-child
invariant-first_missing_of-loop-child g l = find g.L.DocIter.stuck (joined l.child-index (λ i. leaves (shapes l.children i))) ≡ None
