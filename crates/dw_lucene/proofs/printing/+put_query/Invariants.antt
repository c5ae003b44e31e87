use Rattle.std.proofs.Common.{◌≡◌, ◌++◌, drop, map}
use Rattle.std.specs.Prelude.{codes}
use Rattle.dw_lucene.specs.Printed.{children_text, printed}
use Rattle.dw_lucene.proofs.Texts.{text_from}
use Rattle.dw_lucene.proofs.printing.+put_query.Given as goal

abbrev pub decreases-put_query : goal.decreases-put_query
decreases-put_query l = goal.size-put_query l

abbrev pub invariant-loop-i : goal.invariant-loop-i
invariant-loop-i l = l.out ++ text_from (codes " AND ") l.i (map printed (drop l.i l.child-items)) ≡ l.initial.out ++ children_text (codes " AND ") (map printed l.child-items)

abbrev pub invariant-loop-i-2 : goal.invariant-loop-i-2
invariant-loop-i-2 l = l.out ++ text_from (codes " OR ") l.i (map printed (drop l.i l.child-items)) ≡ l.initial.out ++ children_text (codes " OR ") (map printed l.child-items)
