use Rattle.std.proofs.lemmas.Str.{IsUtf8-string_bytes}
use Rattle.dw_jexl.proofs.Words.{pushed, not_pushed}
use Rattle.dw_jexl.proofs.word.Word.push.Goals as goal

pub returns-clause-ok : goal.returns-clause-ok
returns-clause-ok c = pushed c.push.result _ _ _ _ c.push.ensures.bytes (IsUtf8-string_bytes c.self.inside.inner) c.ranges.character.0 c.self.view_is

pub returns-clause-err : goal.returns-clause-err
returns-clause-err c = not_pushed c.push.result _ _ _ _ c.push.ensures.bytes c.self.view_is
