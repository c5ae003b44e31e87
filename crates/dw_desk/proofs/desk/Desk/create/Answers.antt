use Rattle.std.proofs.Common.{◌≤◌, Option, sym, ap, ◌∙◌, subst, true, false, le_refl}
use Rattle.dw_eval.specs.Answer.{answer_of}
use Rattle.dw_page.specs.Marks.{IsMarked}
use Rattle.dw_page.specs.declared.mark.Mark.{Mark}
use Rattle.dw_desk.specs.Accounts.{query_kept}
use Rattle.dw_dict.specs.Dictionary.{Dictionary}
use Rattle.dw_eval.specs.Bound.{bound}
use Rattle.dw_eval.specs.declared.open_query.OpenQuery.{OpenQuery}
use Rattle.std.specs.Option.{option_copied}
use Rattle.dw_desk.specs.Stands.{state_of}
use Rattle.dw_desk.specs.Step.{created}
use Rattle.dw_desk.specs.Desk.{Meets}
use Rattle.dw_desk.proofs.DeskLemmas.{asked_anchored, asked_unanchored, asked_unbound}
use Rattle.dw_desk.proofs.desk.Desk.create.Goals as goal

pub query_now-requires-clause-ruled : goal.query_now-requires-clause-ruled
query_now-requires-clause-ruled c = c.bound_are_ruled.ensures c.args.self.now.dict c.args.query.now c.in-Ok.bound c.in-Ok.ensures.ok

pub returns-in-Err-Literal-clause-does : goal.returns-in-Err-Literal-clause-does
returns-in-Err-Literal-clause-does c = λ w rules.
    asked_unbound (state_of w c.args.self.now) c.args.caller.now c.args.days.now c.args.types.now c.args.size (option_copied c.args.asked) (bound w.dict c.args.query.now)
    (sym (c.in-Err-Literal.ensures.refused c.in-Err-Literal.field-0-is) ∙ ap (λ (dict : Dictionary). bound dict c.args.query.now) rules.dict)

pub returns-then-not-anchored-clause-does : goal.returns-then-not-anchored-clause-does
returns-then-not-anchored-clause-does c = λ w rules.
    asked_unanchored (state_of w c.args.self.now) c.args.caller.now c.args.days.now c.args.types.now c.args.size (option_copied c.args.asked) c.in-Ok.bound (bound w.dict c.args.query.now)
    (sym c.in-Ok.ensures.ok ∙ ap (λ (dict : Dictionary). bound dict c.args.query.now) rules.dict)
    (sym c.anchored.ensures ∙ c.if-not-anchored.true)

pub returns-in-Ok-query_now-clause-does : goal.returns-in-Ok-query_now-clause-does
returns-in-Ok-query_now-clause-does c = λ w rules.
    let s = state_of w c.args.self.now in
    let next = state_of w c.open.new.self in
    let P : OpenQuery → Type 0 = λ q. Meets true false (created s c.args.caller.now q) s c.open.result next in
    asked_anchored s next c.args.caller.now c.args.days.now c.args.types.now c.args.size (option_copied c.args.asked) c.in-Ok.bound (bound w.dict c.args.query.now) c.open.result
    (sym c.in-Ok.ensures.ok ∙ ap (λ (dict : Dictionary). bound dict c.args.query.now) rules.dict)
    (sym c.anchored.ensures ∙ c.if-not-anchored.false)
    (subst P (c.in-Ok-query_now.ensures.query w rules) (c.open.ensures.does w))

pub returns-in-Ok-query_now-clause-marks : goal.returns-in-Ok-query_now-clause-marks
returns-in-Ok-query_now-clause-marks c = λ w rules marks.
    let k = c.in-Ok-query_now.query in
    c.open.ensures.marks w (record {
      snapshot = subst (λ (q : OpenQuery). q.snapshot ≤ w.last) (sym (c.in-Ok-query_now.ensures.query w rules)) (le_refl w.last);
      mark = subst (λ (m : Option Mark). IsMarked (answer_of (query_kept k) w.events) k.size m) (sym c.in-Ok-query_now.ensures.unmarked) tt;
    }) marks
