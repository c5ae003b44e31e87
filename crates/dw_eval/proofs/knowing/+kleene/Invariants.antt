use Rattle.std.proofs.Common.{◌≡◌, drop, map}
use Rattle.dw_nest.specs.Kleene.{least_of_two, most_of_two}
use Rattle.dw_eval.specs.Kleene.{kleene, least, greatest}
use Rattle.dw_eval.proofs.knowing.+kleene.Given as goal

abbrev pub decreases-kleene : goal.decreases-kleene
decreases-kleene l = goal.size-kleene l

abbrev pub invariant-loop-child : goal.invariant-loop-child
invariant-loop-child l = least_of_two l.value (least (map (kleene l.view) (drop l.child-index l.child-items))) ≡ least (map (kleene l.view) l.child-items)

abbrev pub invariant-loop-child-2 : goal.invariant-loop-child-2
invariant-loop-child-2 l = most_of_two l.value (greatest (map (kleene l.view) (drop l.child-index l.child-items))) ≡ greatest (map (kleene l.view) l.child-items)
