use Rattle.std.proofs.Common.{◌≡◌, true, false, drop, arith, sym, ap, ◌∙◌}
use Rattle.std.specs.Prelude.{slice_index}
use Rattle.std.proofs.lemmas.List.{take_rest}
use Rattle.std.proofs.lemmas.Result.{IfOk-weaker}
use Rattle.dw_jexl.specs.Tokens.{starts_word, starts_number, is_quote, string_token}
use Rattle.dw_jexl.proofs.First.{first_string}
use Rattle.dw_jexl.proofs.lex.first_token.Goals as goal

pub returns-then-is_quote-clause-value : goal.returns-then-is_quote-clause-value
returns-then-is_quote-clause-value c =
    let cs = c.args.chars.now in
    let first = c.char_at-c.ensures in
    let word : starts_word (slice_index cs 0) ≡ false = ap starts_word (sym first) ∙ sym c.if-starts_word.ensures in
    let number : starts_number (slice_index cs 0) ≡ false = ap starts_number (sym first) ∙ sym c.if-starts_number.ensures in
    let quote : is_quote (slice_index cs 0) ≡ true = ap is_quote (sym first) ∙ sym c.if-is_quote.ensures in
    IfOk-weaker c.string_token.result _ _ (λ r h. h ∙ ap (string_token c.char_at-c.result) (take_rest cs 1) ∙ ap (λ q. string_token q (drop 1 cs)) first ∙ sym (first_string cs (omega arith) word number quote)) c.string_token.ensures.value
