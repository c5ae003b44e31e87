use Rattle.datawave.proofs.Requests.{answered_by}
use Rattle.datawave.proofs.exchange.answer_request.Goals as goal

pub returns : goal.returns
returns g c w stands formed =
    answered_by g.U.UidMaker.digest w c.args.desk.now c.answer.new.self (g.K.Keeper.faults c.args.keeper.now) (g.K.Keeper.faults c.answer.new.keeper) c.args.request.now c.answer.result (g.K.Keeper.told c.answer.new.keeper)
    (c.answer.ensures.answered w stands formed) c.answer.ensures.counted c.answer.ensures.failed
