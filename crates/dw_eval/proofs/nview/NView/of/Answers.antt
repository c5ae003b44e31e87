use Rattle.std.proofs.Common.{ap, sym, subst, ◌∙◌}
use Rattle.dw_eval.specs.Values.{normal_view, FieldsAscend}
use Rattle.dw_eval.proofs.Searches.{forms_ascend}
use Rattle.dw_eval.proofs.nview.NView.of.Goals as goal

pub invariant_of-result : goal.invariant_of-result
invariant_of-result c =
    subst FieldsAscend (sym (c.in_ok-inner.ensures ∙ ap (normal_view c.args.dict.now) c.as_slice.ensures.same))
    (forms_ascend c.args.dict.now c.args.view.now c.as_slice.ensures.ascending)
