use Rattle.std.proofs.Common.{◌≡◌, take}
use Rattle.dw_eval.proofs.nquery.NQuery.+copy.Given as goal

abbrev pub invariant-loop-child : goal.invariant-loop-child
invariant-loop-child l = l.out ≡ take l.child-index l.child-items

abbrev pub invariant-loop-child-2 : goal.invariant-loop-child-2
invariant-loop-child-2 l = l.out ≡ take l.child-index l.child-items
