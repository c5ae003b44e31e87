use Rattle.std.proofs.Common.{◌≡◌, drop, map}
use Rattle.dw_eval.specs.Bound.{all_bound, bound}
use Rattle.dw_eval.proofs.Befores.{before}
use Rattle.dw_eval.proofs.binding.+bound.Given as goal

abbrev pub decreases-bound : goal.decreases-bound
decreases-bound l = goal.size-bound l

abbrev pub invariant-loop-child : goal.invariant-loop-child
invariant-loop-child l = before l.out (all_bound (map (bound l.dict) (drop l.child-index l.child-items))) ≡ all_bound (map (bound l.dict) l.child-items)

abbrev pub invariant-loop-child-2 : goal.invariant-loop-child-2
invariant-loop-child-2 l = before l.out (all_bound (map (bound l.dict) (drop l.child-index l.child-items))) ≡ all_bound (map (bound l.dict) l.child-items)
