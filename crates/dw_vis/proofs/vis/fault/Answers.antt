use Rattle.std.proofs.Common.{◌≡◌, true, sym, ap, ◌∙◌, arith}
use Rattle.std.proofs.lemmas.Grind.{common_steps}
use Rattle.dw_vis.specs.Sight.{seen_by}
use Rattle.dw_vis.specs.States.{outcome_of}
use Rattle.dw_vis.specs.Verdict.{IsShallow}
use Rattle.dw_vis.proofs.Standing.{not_refused}
use Rattle.dw_vis.proofs.Verdicts.{broken_mixed, kept}
use Rattle.dw_vis.proofs.vis.fault.Goals as goal

pub returns-in-Refused-clause-broken : goal.returns-in-Refused-clause-broken
returns-in-Refused-clause-broken c =
    let shallow : IsShallow c.args.text.now = record { short = omega arith; shallow = sym c.is_deep.ensures ∙ c.if-is_deep.false } in
    (shallow, not_refused (seen_by c.new-nobody.result) c.args.text.now (sym c.of_text.ensures ∙ ap outcome_of c.in-Refused.is))

pub returns-in-Mixes-clause-broken : goal.returns-in-Mixes-clause-broken
returns-in-Mixes-clause-broken c =
    let shallow : IsShallow c.args.text.now = record { short = omega arith; shallow = sym c.is_deep.ensures ∙ c.if-is_deep.false } in
    let is : c.is_utf8.result ≡ true = grind (arith, common_steps, c.if-not-is_utf8.false) in
    broken_mixed c.args.text.now c.new-nobody.result shallow (c.is_utf8.ensures.0 is) (sym c.of_text.ensures ∙ ap outcome_of c.in-Mixes.is)

pub returns-clause-kept : goal.returns-clause-kept
returns-clause-kept c = λ none.
    let shallow : IsShallow c.args.text.now = record { short = omega arith; shallow = sym c.is_deep.ensures ∙ c.if-is_deep.false } in
    let is : c.is_utf8.result ≡ true = grind (arith, common_steps, c.if-not-is_utf8.false) in
    kept c.args.text.now c.new-nobody.result c.in-Reads.field-0 shallow (c.is_utf8.ensures.0 is) (sym c.of_text.ensures ∙ ap outcome_of c.in-Reads.is)
