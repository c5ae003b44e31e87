use Rattle.datawave.specs.Lines.{lines}
use Rattle.datawave.specs.Outside.{seen}
use Rattle.datawave.proofs.Pieces.{ended}
use Rattle.datawave.proofs.Results.{on_err_always, on_ok_then, on_err_then}
use Rattle.datawave.proofs.by_lines.ByLines.finish.Goals as goal

pub returns-in_err-last_line-clause-lacks : goal.returns-in_err-last_line-clause-lacks
returns-in_err-last_line-clause-lacks g c =
    on_err_always c.from_residual.result (λ w before front h puts.
    ended g.T.LineWork.whole g.T.LineWork.all g.met.T.LineWork.ends g.U.UidMaker.digest w before (seen (g.K.Keeper.told c.last_line.new.keeper) (g.K.Keeper.faults c.last_line.new.keeper) (g.O.Sink.taken c.last_line.new.output)) c.last_line.new.desk (lines front)
    (c.in_err-last_line.ensures.lacks w before front h.0 h.1 puts))

pub returns-clause-put : goal.returns-clause-put
returns-clause-put g c =
    on_ok_then c.exchange_next.result (λ put w before front h puts.
    let r = c.in_ok-last_line.ensures.put w before front h.0 h.1 puts in
    put w before (g.T.LineWork.whole (lines front)) (g.T.LineWork.all (lines front)) (c.end-request.ensures (lines front) r.0) r.1) c.exchange_next.ensures.put

pub returns-clause-lacks : goal.returns-clause-lacks
returns-clause-lacks g c =
    on_err_then c.exchange_next.result (λ lacks w before front h puts.
    let r = c.in_ok-last_line.ensures.put w before front h.0 h.1 puts in
    lacks w before (g.T.LineWork.whole (lines front)) (g.T.LineWork.all (lines front)) (c.end-request.ensures (lines front) r.0) r.1) c.exchange_next.ensures.lacks
