use Rattle.std.proofs.Common.{◌≡◌, drop}
use Rattle.dw_jexl.specs.Tokens.{all_in_word}
use Rattle.dw_jexl.proofs.lex.all_in_word.Given as goal

abbrev pub invariant-loop-c : goal.invariant-loop-c
invariant-loop-c l = all_in_word (drop l.c-index l.word) ≡ all_in_word l.word
