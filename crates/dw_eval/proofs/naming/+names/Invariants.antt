use Rattle.std.proofs.Common.{◌≡◌, drop, map}
use Rattle.std.specs.List.{list_any}
use Rattle.dw_eval.specs.Named.{names}
use Rattle.dw_eval.proofs.naming.+names.Given as goal

abbrev pub decreases-names : goal.decreases-names
decreases-names l = goal.size-names l

abbrev pub invariant-loop-child : goal.invariant-loop-child
invariant-loop-child l = list_any (λ b. b) (map (names l.name) (drop l.child-index l.child-items)) ≡ list_any (λ b. b) (map (names l.name) l.child-items)

abbrev pub invariant-loop-child-2 : goal.invariant-loop-child-2
invariant-loop-child-2 l = list_any (λ b. b) (map (names l.name) (drop l.child-index l.child-items)) ≡ list_any (λ b. b) (map (names l.name) l.child-items)
