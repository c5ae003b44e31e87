use Rattle.std.proofs.Common.{◌≡◌, ◌+◌, ◌≤◌, drop, map}
use Rattle.std.specs.Prelude.{min, sum}
use Rattle.dw_jexl.specs.Grammar.{leaves}
use Rattle.dw_jexl.proofs.query.Query.+leaves.Given as goal

abbrev pub decreases-leaves : goal.decreases-leaves
decreases-leaves l = goal.size-leaves l

abbrev pub invariant-loop-child : goal.invariant-loop-child
invariant-loop-child l = record {
  small : l.sum ≤ 257;
  so_far : min (l.sum + sum (map leaves (drop l.child-index l.child-items))) 257 ≡ min (sum (map leaves l.child-items)) 257;
}

abbrev pub invariant-loop-child-2 : goal.invariant-loop-child-2
invariant-loop-child-2 l = record {
  small : l.sum ≤ 257;
  so_far : min (l.sum + sum (map leaves (drop l.child-index l.child-items))) 257 ≡ min (sum (map leaves l.child-items)) 257;
}
