use Rattle.std.proofs.Common.{ap, sym, ◌∙◌}
use Rattle.std.specs.Prelude.{encode_utf8_all}
use Rattle.std.proofs.lemmas.Result.{IfOk-weaker}
use Rattle.dw_jexl.specs.declared.query.Query.TheVariants as query
use Rattle.dw_eval.specs.Bound.{bound, bound_comparison}
use Rattle.dw_eval.proofs.Befores.{comparison_bound, and_done, or_done}
use Rattle.dw_eval.proofs.binding.+bound.Goals as goal

pub returns-in-Cmp : goal.returns-in-Cmp
returns-in-Cmp t c =
    let dict = c.args.dict.now in
    let op = c.in-Cmp.op in
    IfOk-weaker c.bind_comparison.result _ _
    (λ o e. e
    ∙ ap (λ f. bound_comparison dict f op c.as_str-in-Cmp.result.now) c.as_str.ensures.bytes
    ∙ ap (λ l. bound_comparison dict (encode_utf8_all c.in-Cmp.field) op l) c.as_str-in-Cmp.ensures.bytes
    ∙ sym (ap (bound dict) c.in-Cmp.is ∙ comparison_bound dict c.in-Cmp.field op c.in-Cmp.literal))
    c.bind_comparison.ensures

pub returns-after-loop-child : goal.returns-after-loop-child
returns-after-loop-child t c =
    and_done c.args.dict.now c.as_slice-child-items.result.now c.loop-child.out c.loop-child.child-index c.loop-child-test.false c.loop-child.invariant
    ∙ ap (bound c.args.dict.now) (ap query.And c.as_slice-child-items.ensures ∙ sym c.in-And.is)

pub returns-after-loop-child-2 : goal.returns-after-loop-child-2
returns-after-loop-child-2 t c =
    or_done c.args.dict.now c.as_slice-child-items-in-Or.result.now c.loop-child-2.out c.loop-child-2.child-index c.loop-child-2-test.false c.loop-child-2.invariant
    ∙ ap (bound c.args.dict.now) (ap query.Or c.as_slice-child-items-in-Or.ensures ∙ sym c.in-Or.is)
