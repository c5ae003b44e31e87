use Rattle.std.proofs.Common.{◌++◌, List, ℕ, [], sym, subst}
use Rattle.datawave.specs.declared.work.Work.{Work}
use Rattle.datawave.specs.Outside.{seen}
use Rattle.datawave.specs.Session.{Reading}
use Rattle.datawave.specs.Exchange.{RequestsPut, RequestsLack}
use Rattle.datawave.specs.Working.{Held}
use Rattle.datawave.proofs.Sessions.{lack_all}
use Rattle.datawave.proofs.Results.{on_err_always, on_ok_then}
use Rattle.datawave.proofs.work.Work.take.Goals as goal

pub returns-in_err-take-in-Table-clause-lacks : goal.returns-in_err-take-in-Table-clause-lacks
returns-in_err-take-in-Table-clause-lacks g c =
    on_err_always c.from_residual.result (λ reading w before front h puts.
    let held = subst (λ (work : Work). Held reading work front) c.in-Table.is h in
    let now = seen (g.K.Keeper.told c.args.keeper.now) (g.K.Keeper.faults c.args.keeper.now) (g.O.Sink.taken c.args.output.now) in
    subst (λ (r : Reading). RequestsLack g.U.UidMaker.digest w before (r.whole (front ++ c.args.piece.now)) c.args.desk.now now) (sym held.0)
    (lack_all g.U.UidMaker.digest w before now c.args.desk.now []
    (subst (λ (r : Reading). RequestsPut g.U.UidMaker.digest w before (r.whole front) c.args.desk.now now) held.0 puts)))

pub returns-in-Requests-clause-put : goal.returns-in-Requests-clause-put
returns-in-Requests-clause-put g c =
    on_ok_then c.take.result (λ put reading w before front h puts.
    let held = subst (λ (work : Work). Held reading work front) c.in-Requests.is h in
    let r = put w before front (held.1, tt)
    (subst (λ (r : Reading). RequestsPut g.U.UidMaker.digest w before (r.whole front) c.args.desk.now (seen (g.K.Keeper.told c.args.keeper.now) (g.K.Keeper.faults c.args.keeper.now) (g.O.Sink.taken c.args.output.now))) held.0 puts) in (
      (held.0, r.0.0),
      subst (λ (r : Reading). RequestsPut g.U.UidMaker.digest w before (r.whole (front ++ c.args.piece.now)) c.take.new.desk (seen (g.K.Keeper.told c.take.new.keeper) (g.K.Keeper.faults c.take.new.keeper) (g.O.Sink.taken c.take.new.output))) (sym held.0) r.1,
    ))
    c.take.ensures.put

pub returns-in-Records-clause-put : goal.returns-in-Records-clause-put
returns-in-Records-clause-put g c =
    on_ok_then c.take-in-Records.result (λ put reading w before front h puts.
    let held = subst (λ (work : Work). Held reading work front) c.in-Records.is h in
    let r = put w before front (held.1, held.2)
    (subst (λ (r : Reading). RequestsPut g.U.UidMaker.digest w before (r.whole front) c.args.desk.now (seen (g.K.Keeper.told c.args.keeper.now) (g.K.Keeper.faults c.args.keeper.now) (g.O.Sink.taken c.args.output.now))) held.0 puts) in (
      (held.0, r.0.0, r.0.1),
      subst (λ (r : Reading). RequestsPut g.U.UidMaker.digest w before (r.whole (front ++ c.args.piece.now)) c.take-in-Records.new.desk (seen (g.K.Keeper.told c.take-in-Records.new.keeper) (g.K.Keeper.faults c.take-in-Records.new.keeper) (g.O.Sink.taken c.take-in-Records.new.output))) (sym held.0) r.1,
    ))
    c.take-in-Records.ensures.put
