use Rattle.std.proofs.Common.{◌≡◌, drop}
use Rattle.dw_lucene.specs.Patterns.{are_right}
use Rattle.dw_lucene.proofs.pattern.are_right.Given as goal

abbrev pub invariant-loop-i : goal.invariant-loop-i
invariant-loop-i l = are_right (drop l.i l.tokens) ≡ are_right l.tokens
