use Rattle.std.proofs.Common.{ap, ◌∙◌}
use Rattle.std.specs.Prelude.{bytes_eq, chars, string_bytes}
use Rattle.std.proofs.lemmas.Str.{IsUtf8-string_bytes}
use Rattle.dw_jexl.proofs.Words.{same_texts}
use Rattle.dw_jexl.proofs.word.WordPartialEq.eq.Goals as goal

pub returns : goal.returns
returns c =
    let a = c.self.inside.inner in
    let b = c.other.inside.inner in
    c.eq.ensures
    ∙ same_texts (string_bytes a) (string_bytes b) (IsUtf8-string_bytes a) (IsUtf8-string_bytes b)
    ∙ ap (λ cs. bytes_eq cs (chars (string_bytes b))) c.self.view_is
    ∙ ap (bytes_eq c.args.self.now) c.other.view_is
