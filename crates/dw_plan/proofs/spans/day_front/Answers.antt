use Rattle.std.proofs.Common.{◌≡◌, ◌-◌, ◌++◌, length, ◌∙◌, arith}
use Rattle.dw_key.specs.KeyCode.{part_code, stamp_code}
use Rattle.dw_plan.proofs.Fronts.{front_cut}
use Rattle.dw_plan.proofs.spans.day_front.Goals as goal

pub returns : goal.returns
returns c =
    let all = c.into_vec-front.result.items in
    let size : c.saturating_sub-len.result ≡ length all - 12 = omega (arith, c.into_vec-front.result.ok.0, c.saturating_sub-len.ensures, c.len.ensures) in
    c.truncate.ensures.items
    ∙ front_cut c.args.row.now c.args.field.now c.args.day.now all c.saturating_sub-len.result
    (c.into_vec-front.ensures ∙ c.in_ok-encode.ensures
    ∙ (λ i. part_code (c.in_ok-of.ensures i) ++ (part_code (c.in_ok-of-2.ensures i) ++ (part_code (c.in_ok-of-3.ensures i) ++ (part_code (c.new.ensures i) ++ stamp_code 0)))))
    size
