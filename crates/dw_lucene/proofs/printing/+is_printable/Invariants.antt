use Rattle.std.proofs.Common.{◌≡◌, drop, map}
use Rattle.dw_jexl.specs.WellMade.{are_all}
use Rattle.dw_lucene.specs.Printed.{is_printable}
use Rattle.dw_lucene.proofs.printing.+is_printable.Given as goal

abbrev pub decreases-is_printable : goal.decreases-is_printable
decreases-is_printable l = goal.size-is_printable l

abbrev pub invariant-loop-child : goal.invariant-loop-child
invariant-loop-child l = are_all (map is_printable (drop l.child-index l.child-items)) ≡ are_all (map is_printable l.child-items)

abbrev pub invariant-loop-child-2 : goal.invariant-loop-child-2
invariant-loop-child-2 l = are_all (map is_printable (drop l.child-index l.child-items)) ≡ are_all (map is_printable l.child-items)
