use Rattle.std.proofs.Common.{◌≡◌, drop, false}
use Rattle.dw_lucene.specs.Tokens.{term}
use Rattle.dw_lucene.proofs.Terms.{so_far}
use Rattle.dw_lucene.proofs.lex.term.Given as goal

abbrev pub invariant-loop-i : goal.invariant-loop-i
invariant-loop-i l = so_far l.pieces l.i (term l.escaped (drop l.i l.chars)) ≡ term false l.chars
