use Rattle.std.proofs.Common.{◌≡◌, true, drop, arith, sym, ap, ◌∙◌}
use Rattle.std.specs.Prelude.{slice_index}
use Rattle.std.proofs.lemmas.List.{take_rest}
use Rattle.std.proofs.lemmas.Result.{IfOk-weaker}
use Rattle.dw_lucene.specs.Tokens.{is_special, special_token}
use Rattle.dw_lucene.proofs.First.{first_special}
use Rattle.dw_lucene.proofs.lex.first_token.Goals as goal

pub returns-then-is_special-clause-value : goal.returns-then-is_special-clause-value
returns-then-is_special-clause-value c =
    let cs = c.args.chars.now in
    let first = c.char_at-c.ensures in
    let special : is_special (slice_index cs 0) ≡ true = ap is_special (sym first) ∙ sym c.if-is_special.ensures in
    IfOk-weaker c.special_token.result _ _ (λ r h. h ∙ ap (special_token c.char_at-c.result) (take_rest cs 1) ∙ ap (λ q. special_token q (drop 1 cs)) first ∙ sym (first_special cs (omega arith) special)) c.special_token.ensures.value
