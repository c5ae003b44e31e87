use Rattle.std.proofs.Common.{◌≡◌, ◌+◌, ◌≤◌, length, drop}
use Rattle.dw_jexl.specs.Patterns.{text_of}
use Rattle.dw_jexl.proofs.pattern.literals.Given as goal

abbrev pub invariant-loop-piece : goal.invariant-loop-piece
invariant-loop-piece l = record {
  few : l.n ≤ l.piece-index;
  so_far : l.n + length (text_of (drop l.piece-index l.pieces)) ≡ length (text_of l.pieces);
}
