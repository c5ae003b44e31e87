use Rattle.std.proofs.Common.{sym, subst, List, ℕ}
use Rattle.std.proofs.lemmas.Result.{IfOk-weaker}
use Rattle.dw_wire.specs.ReplyText.{reply_text}
use Rattle.datawave.specs.Exchange.{RequestAnswered}
use Rattle.datawave.proofs.Results.{on_err_always}
use Rattle.datawave.proofs.exchange.answer_read.Goals as goal

pub returns-clause-text : goal.returns-clause-text
returns-clause-text g c =
    IfOk-weaker c.text_for.result _ _
    (λ text is w stands formed.
    subst (λ (t : List ℕ). RequestAnswered g.U.UidMaker.digest w c.args.desk.now (g.K.Keeper.faults c.args.keeper.now) c.args.request.now t c.answer_request-reply.new.desk (g.K.Keeper.told c.answer_request-reply.new.keeper) (g.K.Keeper.faults c.answer_request-reply.new.keeper))
    (sym is) (c.answer_request-reply.ensures w stands formed))
    c.text_for.ensures

pub returns-clause-err : goal.returns-clause-err
returns-clause-err g c = on_err_always c.text_for.result (λ w stands formed. (reply_text c.answer_request-reply.result, c.answer_request-reply.ensures w stands formed))
