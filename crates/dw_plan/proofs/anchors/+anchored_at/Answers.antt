use Rattle.std.proofs.Common.{ap, sym, ◌∙◌}
use Rattle.dw_eval.specs.declared.nquery.NQuery.TheVariants as nquery
use Rattle.dw_plan.specs.Anchored.{anchored_at}
use Rattle.dw_plan.proofs.Walking.{and_over, or_over, or_ends, and_of, or_of, differs}
use Rattle.dw_plan.proofs.anchors.+anchored_at.Goals as goal

pub returns-then-anchored_at-positive-2 : goal.returns-then-anchored_at-positive-2
returns-then-anchored_at-positive-2 t c =
    let p = c.args.positive in
    let qs = c.as_slice-child-items-in-Or.result.now in
    let call = c.anchored_at-in-loop-child-2 in
    sym (or_ends qs c.loop-child-2.child-index c.child-item-in-loop-child-2.result p c.loop-child-2-test.true c.child-item-in-loop-child-2.is
    (sym call.ensures ∙ differs call.result p c.if-anchored_at-positive-2.true))
    ∙ c.loop-child-2.invariant ∙ or_of qs p ∙ ap (λ q. anchored_at q p) (ap nquery.Or c.as_slice-child-items-in-Or.ensures ∙ sym c.in-Or.is)

pub returns-after-loop-child : goal.returns-after-loop-child
returns-after-loop-child t c =
    let p = c.args.positive in
    let qs = c.as_slice-child-items.result.now in
    sym (and_over qs c.loop-child.child-index p c.loop-child-test.false)
    ∙ c.loop-child.invariant ∙ and_of qs p ∙ ap (λ q. anchored_at q p) (ap nquery.And c.as_slice-child-items.ensures ∙ sym c.in-And.is)

pub returns-after-loop-child-2 : goal.returns-after-loop-child-2
returns-after-loop-child-2 t c =
    let p = c.args.positive in
    let qs = c.as_slice-child-items-in-Or.result.now in
    sym (or_over qs c.loop-child-2.child-index p c.loop-child-2-test.false)
    ∙ c.loop-child-2.invariant ∙ or_of qs p ∙ ap (λ q. anchored_at q p) (ap nquery.Or c.as_slice-child-items-in-Or.ensures ∙ sym c.in-Or.is)
