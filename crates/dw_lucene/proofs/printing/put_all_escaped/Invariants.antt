use Rattle.std.proofs.Common.{◌≡◌, ◌++◌, drop}
use Rattle.dw_lucene.specs.Printed.{all_escaped}
use Rattle.dw_lucene.proofs.printing.put_all_escaped.Given as goal

abbrev pub invariant-loop-c : goal.invariant-loop-c
invariant-loop-c l = l.out ++ all_escaped (drop l.c-index l.text) ≡ l.initial.out ++ all_escaped l.text
