use Rattle.std.proofs.Common.{◌≡◌, ap, sym, ◌∙◌, chars, encode_utf8_all}
use Rattle.std.proofs.lemmas.Str.{chars-encodes, encodes_same}
use Rattle.std.proofs.lemmas.Result.{IfOk-weaker}
use Rattle.caseless.specs.Caseless.{default_case_fold}
use Rattle.dw_norm.proofs.folding.fold_chars.Goals as goal

pub returns : goal.returns
returns c =
    let u = c.as_str.utf8 in
    let text = c.as_str.ensures.value ∙ c.in_ok-text.ensures in
    let same : u.0 ≡ c.args.cs.now = encodes_same _ _ (u.1.1 ∙ text) in
    let spelt : chars c.as_str.result.now ≡ c.args.cs.now = ap chars (sym u.1.1) ∙ (chars-encodes u.0 u.1.0 ∙ same) in
    IfOk-weaker c.default_case_fold_str.result _ _ (λ t h. h ∙ ap (λ cs. encode_utf8_all (default_case_fold cs)) spelt) c.default_case_fold_str.ensures
