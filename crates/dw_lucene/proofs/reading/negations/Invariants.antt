use Rattle.std.proofs.Common.{◌≡◌, ◌+◌, drop}
use Rattle.std.specs.List.{prefix_len}
use Rattle.dw_lucene.specs.Tokens.{is_negate}
use Rattle.dw_lucene.proofs.reading.negations.Given as goal

abbrev pub invariant-loop-i : goal.invariant-loop-i
invariant-loop-i l = l.i + prefix_len is_negate (drop l.i l.tokens) ≡ prefix_len is_negate l.tokens
