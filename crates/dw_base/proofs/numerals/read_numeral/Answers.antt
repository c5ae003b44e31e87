use Rattle.std.proofs.Common.{◌≡◌, ◌+◌, ◌*◌, ◌<◌, ◌≤◌, get_or, drop, sym, ap, ◌∙◌, subst, arith}
use Rattle.std.specs.Char.{digit_value}
use Rattle.std.specs.Str.Parse.{digits_value, digits_value_after}
use Rattle.std.proofs.lemmas.List.{drop_more}
use Rattle.dw_base.proofs.NumeralLemmas.{le_digits_value_after, none_above}
use Rattle.dw_base.proofs.numerals.read_numeral.Goals as goal

pub returns-in_err-value : goal.returns-in_err-value
returns-in_err-value c =
    let xs = c.args.text.now in
    let i = c.loop-byte.byte-index in
    let v = c.loop-byte.value * 10 + digit_value (get_or xs i 0) in
    let whole : digits_value_after 10 v (drop (i + 1) xs) ≡ digits_value 10 xs =
    ap (λ rest. digits_value_after 10 c.loop-byte.value rest) (sym (drop_more xs i 0 (omega arith))) ∙ c.loop-byte.invariant.spelled in
    let high : v ≤ digits_value 10 xs = subst (λ n. v ≤ n) whole (le_digits_value_after v (drop (i + 1) xs)) in
    let above : c.args.most < v = omega (arith, c.in_err-value.ensures) in
    c.from_residual.ensures ∙ sym (none_above c.args.most xs (omega (arith, above, high)))
