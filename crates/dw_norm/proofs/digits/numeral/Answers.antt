use Rattle.std.proofs.Common.{◌≡◌, ◌+◌, ◌*◌, ◌^◌, ap, ◌∙◌, add-one, arith}
use Rattle.std.proofs.Math.Nat as nat
use Rattle.dw_norm.proofs.Runs.{numeral_more}
use Rattle.dw_norm.proofs.digits.numeral.Goals as goal

pub loop-digit-preserved : goal.loop-digit-preserved
loop-digit-preserved c =
    let more = numeral_more c.args.digits.now c.loop-digit.digit-index c.loop-digit-test.true in
    let spelt = c.loop-digit.invariant.0 in
    let bound = c.loop-digit.invariant.1 in
    let power : 10 ^ (c.loop-digit.digit-index + 1) ≡ 10 ^ c.loop-digit.digit-index * 10 = ap (λ k. 10 ^ k) (add-one c.loop-digit.digit-index) ∙ nat.pow-suc 10 c.loop-digit.digit-index in
    (omega (arith, c.digit_value.ensures.value), omega (arith, c.digit_value.ensures.bound))
