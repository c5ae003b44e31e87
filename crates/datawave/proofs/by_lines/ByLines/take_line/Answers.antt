use Rattle.std.proofs.Common.{◌++◌, ◌∷◌, []}
use Rattle.datawave.specs.Outside.{seen}
use Rattle.datawave.proofs.Pieces.{stopped}
use Rattle.datawave.proofs.Results.{on_err_always, on_ok_then, on_err_then}
use Rattle.datawave.proofs.by_lines.ByLines.take_line.Goals as goal

pub returns-in_err-request-clause-lacks : goal.returns-in_err-request-clause-lacks
returns-in_err-request-clause-lacks g c =
    on_err_always c.from_residual.result (λ w before ls bytes keeps held puts.
    stopped g.T.LineWork.whole g.met.T.LineWork.grows g.U.UidMaker.digest w before (seen (g.K.Keeper.told c.args.keeper.now) (g.K.Keeper.faults c.args.keeper.now) (g.O.Sink.taken c.args.output.now)) c.args.desk.now ls (bytes ∷ []) puts)

pub returns-clause-put : goal.returns-clause-put
returns-clause-put g c =
    on_ok_then c.exchange_next.result (λ put w before ls bytes keeps held puts.
    let asks = c.in_ok-request.ensures ls bytes keeps held in
    (asks.0, put w before (g.T.LineWork.whole ls) (g.T.LineWork.whole (ls ++ bytes ∷ [])) asks.1 puts)) c.exchange_next.ensures.put

pub returns-clause-lacks : goal.returns-clause-lacks
returns-clause-lacks g c =
    on_err_then c.exchange_next.result (λ lacks w before ls bytes keeps held puts.
    let asks = c.in_ok-request.ensures ls bytes keeps held in
    lacks w before (g.T.LineWork.whole ls) (g.T.LineWork.whole (ls ++ bytes ∷ [])) asks.1 puts) c.exchange_next.ensures.lacks
