use Rattle.std.proofs.Common.{true, ap, ◌∙◌}
use Rattle.std.specs.Prelude.{None}
use Rattle.std.proofs.lemmas.Result.{IfOk-weaker}
use Rattle.dw_http.specs.Texts.{response_text, status_of}
use Rattle.dw_http.proofs.response.write_last.Goals as goal

pub returns : goal.returns
returns c =
    IfOk-weaker c.write_response.result _ _
    (λ bytes h. h ∙ ap (λ s. response_text s None true c.as_bytes.result.now) c.status.ensures ∙ ap (λ text. response_text (status_of c.args.why) None true text) (c.as_bytes.ensures.value ∙ c.in_ok-text.ensures))
    c.write_response.ensures
