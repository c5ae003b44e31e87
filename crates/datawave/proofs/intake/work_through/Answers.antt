use Rattle.std.proofs.Common.{◌∙◌, sym}
use Rattle.datawave.specs.Outside.{seen}
use Rattle.datawave.specs.Working.{Held}
use Rattle.datawave.proofs.Running.{ends_begun, progress_start}
use Rattle.datawave.proofs.intake.work_through.Goals as goal

pub returns-in_default-clause-runs : goal.returns-in_default-clause-runs
returns-in_default-clause-runs g c reading w before fresh begun = ends_begun g.U.UidMaker.digest reading w (g.S.Source.left c.args.input.now) before (seen (g.K.Keeper.told c.args.keeper.now) (g.K.Keeper.faults c.args.keeper.now) (g.O.Sink.taken c.args.output.now)) c.args.desk begun fresh.begins

pub returns-clause-runs : goal.returns-clause-runs
returns-clause-runs g c reading w before fresh begun =
    let left = g.S.Source.left c.args.input.now in
    c.exchange_all.ensures.runs reading w left before (fresh.most ∙ sym c.most-most.ensures.is)
    (progress_start g.U.UidMaker.digest reading (Held reading c.args.work) w left before (seen (g.K.Keeper.told c.args.keeper.now) (g.K.Keeper.faults c.args.keeper.now) (g.O.Sink.taken c.args.output.now)) c.args.desk begun fresh.begins fresh.held)
