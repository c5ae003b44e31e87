use Rattle.std.proofs.Common.{sym, subst, arith}
use Rattle.datawave.specs.declared.status.Status.{Status}
use Rattle.datawave.specs.Outside.{seen}
use Rattle.datawave.specs.Session.{Runs}
use Rattle.datawave.specs.Working.{Held}
use Rattle.datawave.proofs.Running.{ends_done, ends_last_broken}
use Rattle.datawave.proofs.intake.finish.Goals as goal

pub returns-in-Ok-clause-runs : goal.returns-in-Ok-clause-runs
returns-in-Ok-clause-runs g c reading w start left before end is p =
    let talk = c.args.talk.now in
    ends_done g.U.UidMaker.digest reading (Held reading talk.work) w start left before (seen (g.K.Keeper.told c.args.keeper.now) (g.K.Keeper.faults c.args.keeper.now) (g.O.Sink.taken c.args.output.now)) (seen (g.K.Keeper.told c.finish.new.keeper) (g.K.Keeper.faults c.finish.new.keeper) (g.O.Sink.taken c.finish.new.output)) talk.desk c.finish.new.desk talk.total p end (omega (arith, is, talk.within))
    (c.in-Ok.ensures.put reading w before p.taken p.held p.puts)

pub returns-in-Err-clause-runs : goal.returns-in-Err-clause-runs
returns-in-Err-clause-runs g c reading w start left before end is p =
    let talk = c.args.talk.now in
    subst (λ (s : Status). Runs g.U.UidMaker.digest reading s w start left before (seen (g.K.Keeper.told c.finish.new.keeper) (g.K.Keeper.faults c.finish.new.keeper) (g.O.Sink.taken c.finish.new.output))) (sym c.end_of.ensures)
    (ends_last_broken g.U.UidMaker.digest reading (Held reading talk.work) c.in-Err.broken w start left before (seen (g.K.Keeper.told c.args.keeper.now) (g.K.Keeper.faults c.args.keeper.now) (g.O.Sink.taken c.args.output.now)) (seen (g.K.Keeper.told c.finish.new.keeper) (g.K.Keeper.faults c.finish.new.keeper) (g.O.Sink.taken c.finish.new.output)) talk.desk c.finish.new.desk talk.total p end (omega (arith, is, talk.within))
    (c.in-Err.ensures.lacks reading w before p.taken p.held p.puts))
