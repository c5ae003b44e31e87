use Rattle.std.proofs.Common.{◌≡◌, ◌+◌, drop}
use Rattle.std.specs.List.{prefix_len}
use Rattle.dw_jexl.specs.Tokens.{in_word}
use Rattle.dw_jexl.proofs.lex.word_len.Given as goal

abbrev pub invariant-loop-i : goal.invariant-loop-i
invariant-loop-i l = l.i + prefix_len in_word (drop l.i l.chars) ≡ prefix_len in_word l.chars
