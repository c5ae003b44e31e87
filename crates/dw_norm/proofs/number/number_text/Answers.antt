use Rattle.std.proofs.Common.{◌∙◌}
use Rattle.std.proofs.lemmas.Result.{IfOk-weaker}
use Rattle.dw_norm.proofs.Numbers.{signed_is}
use Rattle.dw_norm.proofs.number.number_text.Goals as goal

pub returns : goal.returns
returns c =
    IfOk-weaker c.signed_text.result _ _
    (λ t h. h ∙ signed_is c.args.raw.now c.as_slice-digits.result.now c.is_negative.result c.requires (c.as_slice-digits.ensures.value ∙ c.in_ok-digits.ensures.value) c.is_negative.ensures)
    c.signed_text.ensures
