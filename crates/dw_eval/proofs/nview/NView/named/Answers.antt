use Rattle.std.proofs.Common.{ap, sym, subst, ◌∙◌}
use Rattle.dw_eval.specs.Named.{named_pairs}
use Rattle.dw_eval.specs.Sat.{sat}
use Rattle.dw_eval.specs.Values.{normal_view, FieldsAscend}
use Rattle.dw_eval.proofs.Searches.{forms_ascend}
use Rattle.dw_eval.proofs.NamedFields.{named_ascend, named_decide}
use Rattle.dw_eval.proofs.nview.NView.named.Goals as goal

pub invariant_of-result : goal.invariant_of-result
invariant_of-result c =
    let q = c.args.query.now in
    subst FieldsAscend (sym (c.in_ok-inner.ensures ∙ ap (λ ps. normal_view c.args.dict.now (named_pairs q ps)) c.as_slice.ensures.same))
    (forms_ascend c.args.dict.now (named_pairs q c.args.view.now) (named_ascend q c.args.view.now c.as_slice.ensures.ascending))

pub returns-clause-decides : goal.returns-clause-decides
returns-clause-decides c =
    let q = c.args.query.now in
    ap (λ v. sat v q) (c.in_ok-inner.ensures ∙ ap (λ ps. normal_view c.args.dict.now (named_pairs q ps)) c.as_slice.ensures.same)
    ∙ named_decide c.args.dict.now c.args.view.now q
