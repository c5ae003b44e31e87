use Rattle.std.proofs.Common.{◌-◌, ◌≤◌, length, drop}
use Rattle.dw_lucene.proofs.Cutting.{Cuts}
use Rattle.dw_lucene.proofs.lex.tokens.Given as goal

abbrev pub invariant-loop-tokens : goal.invariant-loop-tokens
invariant-loop-tokens l = record {
  within : l.at ≤ length l.chars;
  cuts : Cuts l.chars l.tokens.items (drop l.at l.chars);
}

abbrev pub decreases-loop-tokens : goal.decreases-loop-tokens
decreases-loop-tokens l = length l.chars - l.at
