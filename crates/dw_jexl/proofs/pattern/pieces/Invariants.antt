use Rattle.std.proofs.Common.{◌≡◌, ◌++◌, drop}
use Rattle.dw_jexl.specs.Patterns.{pieces_from, pieces}
use Rattle.dw_jexl.proofs.pattern.pieces.Given as goal

abbrev pub invariant-loop-c : goal.invariant-loop-c
invariant-loop-c l = l.out.items ++ pieces_from l.pending (drop l.c-index l.raw) ≡ pieces l.raw
