use Rattle.std.proofs.Common.{◌≡◌, drop, map}
use Rattle.std.specs.List.{list_all, list_any}
use Rattle.dw_eval.specs.Sat.{sat}
use Rattle.dw_eval.proofs.satisfying.+satisfies.Given as goal

abbrev pub decreases-satisfies : goal.decreases-satisfies
decreases-satisfies l = goal.size-satisfies l

abbrev pub invariant-loop-child : goal.invariant-loop-child
invariant-loop-child l = list_all (λ b. b) (map (sat l.view) (drop l.child-index l.child-items)) ≡ list_all (λ b. b) (map (sat l.view) l.child-items)

abbrev pub invariant-loop-child-2 : goal.invariant-loop-child-2
invariant-loop-child-2 l = list_any (λ b. b) (map (sat l.view) (drop l.child-index l.child-items)) ≡ list_any (λ b. b) (map (sat l.view) l.child-items)
