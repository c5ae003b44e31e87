use Rattle.std.proofs.Common.{◌≡◌, ◌++◌, drop}
use Rattle.dw_lucene.specs.Printed.{all_literal}
use Rattle.dw_lucene.proofs.printing.put_all_literal.Given as goal

abbrev pub invariant-loop-c : goal.invariant-loop-c
invariant-loop-c l = l.out ++ all_literal (drop l.c-index l.text) ≡ l.initial.out ++ all_literal l.text
