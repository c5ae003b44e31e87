use Rattle.std.proofs.Common.{sym, ap, ◌∙◌, subst}
use Rattle.dw_vis.specs.Grammar.{VisIn}
use Rattle.dw_vis.specs.Reading.{read}
use Rattle.dw_vis.specs.Sight.{seen_by}
use Rattle.dw_vis.specs.States.{outcome_of}
use Rattle.dw_vis.proofs.Standing.{sees_is, sees_read}
use Rattle.dw_vis.proofs.vis.Vis.sees.Goals as goal

pub returns-clause-value : goal.returns-clause-value
returns-clause-value c =
    let names = c.args.auths.now in
    let tree = c.self.invariant.tree in
    let spelt = subst (λ t. VisIn t tree) c.self.view_is c.self.invariant.spelt in
    c.is_seen.ensures
    ∙ sees_read c.args.self.now names (outcome_of c.of_text.result) tree spelt (c.of_text.ensures ∙ ap (read (seen_by names)) (c.as_slice.ensures.value ∙ c.self.view_is))

pub returns-clause-grammar : goal.returns-clause-grammar
returns-clause-grammar c =
    let e = returns-clause-value c in
    let s = sees_is c.args.self.now c.args.auths.now in
    (λ h. s.0 (sym e ∙ h), λ g. e ∙ s.1 g)
