use Rattle.std.proofs.Common.{◌≡◌, take}
use Rattle.dw_jexl.proofs.word.Word.from_chars.Given as goal

abbrev pub invariant-loop-character : goal.invariant-loop-character
invariant-loop-character l = l.word ≡ take l.character-index l.characters
