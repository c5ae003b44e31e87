use Rattle.datawave.specs.Outside.{seen}
use Rattle.datawave.proofs.Sessions.{next_none, next_put, next_lacks}
use Rattle.datawave.proofs.Results.{on_ok_then, on_err_then}
use Rattle.datawave.proofs.exchange.exchange_next.Goals as goal

pub returns-in-None-clause-put : goal.returns-in-None-clause-put
returns-in-None-clause-put g c w before rs more asks puts = next_none g.U.UidMaker.digest w before (seen (g.K.Keeper.told c.args.keeper.now) (g.K.Keeper.faults c.args.keeper.now) (g.O.Sink.taken c.args.output.now)) c.args.desk.now c.args.request.now rs more c.in-None.is asks puts

pub returns-in-Some-clause-put : goal.returns-in-Some-clause-put
returns-in-Some-clause-put g c =
    on_ok_then c.exchange.result (λ put w before rs more asks puts.
    next_put g.U.UidMaker.digest w before (seen (g.K.Keeper.told c.args.keeper.now) (g.K.Keeper.faults c.args.keeper.now) (g.O.Sink.taken c.args.output.now)) (seen (g.K.Keeper.told c.exchange.new.keeper) (g.K.Keeper.faults c.exchange.new.keeper) (g.O.Sink.taken c.exchange.new.output)) c.args.desk.now c.exchange.new.desk c.args.request.now c.in-Some.request rs more c.in-Some.is asks puts
    (λ asked read formed. put puts.last asked puts.stands read formed)) c.exchange.ensures.put

pub returns-in-Some-clause-lacks : goal.returns-in-Some-clause-lacks
returns-in-Some-clause-lacks g c =
    on_err_then c.exchange.result (λ lacks w before rs more asks puts.
    next_lacks g.U.UidMaker.digest w before (seen (g.K.Keeper.told c.args.keeper.now) (g.K.Keeper.faults c.args.keeper.now) (g.O.Sink.taken c.args.output.now)) (seen (g.K.Keeper.told c.exchange.new.keeper) (g.K.Keeper.faults c.exchange.new.keeper) (g.O.Sink.taken c.exchange.new.output)) c.args.desk.now c.exchange.new.desk c.args.request.now c.in-Some.request rs more c.in-Some.is asks puts
    (λ asked read formed. lacks puts.last asked puts.stands read formed)) c.exchange.ensures.lacks
