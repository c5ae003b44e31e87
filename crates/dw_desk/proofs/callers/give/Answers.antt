use Rattle.std.proofs.Common.{sym}
use Rattle.std.proofs.lemmas.Result.{IfOk-weaker, on_err_weaker}
use Rattle.dw_desk.proofs.CallerLemmas.{same_written, same_then, gives_from}
use Rattle.dw_desk.proofs.callers.give.Goals as goal

pub returns-clause-gives : goal.returns-clause-gives
returns-clause-gives c =
    IfOk-weaker c.give.result _ _
    (λ o h. gives_from c.args.callers.now c.enter.new.callers (c.get_mut.follows.lender c.give.new.self) c.args.name.now c.in-Some.caller.now c.give.new.self c.args.query
    c.enter.ensures.same (sym c.in-Some.ensures.value) (c.get_mut.follows.holds c.give.new.self).0 o h)
    c.give.ensures.given

pub returns-clause-err : goal.returns-clause-err
returns-clause-err c =
    on_err_weaker c.give.result
    (λ h. same_then c.args.callers.now c.enter.new.callers (c.get_mut.follows.lender c.give.new.self) c.enter.ensures.same
    (same_written c.enter.new.callers (c.get_mut.follows.lender c.give.new.self) c.args.name.now c.in-Some.caller.now c.give.new.self
    (sym c.in-Some.ensures.value) (c.get_mut.follows.holds c.give.new.self).0 h))
    c.give.ensures.err
