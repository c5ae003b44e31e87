use Rattle.std.proofs.Common.{◌∙◌, sym, refl, subst}
use Rattle.datawave.specs.declared.status.Status.{Status}
use Rattle.datawave.specs.Outside.{seen}
use Rattle.datawave.specs.Readings.{reading_of}
use Rattle.datawave.specs.Session.{Runs}
use Rattle.datawave.proofs.Running.{command_at_start}
use Rattle.datawave.proofs.begin.Goals as goal

pub returns-in-Ok-clause-runs : goal.returns-in-Ok-clause-runs
returns-in-Ok-clause-runs g c w lawful told =
    let loaded = c.in-Ok.ensures.stands w lawful told in
    c.carry_out.ensures.runs w (seen (g.K.Keeper.told c.args.keeper.now) (g.K.Keeper.faults c.args.keeper.now) (g.O.Sink.taken c.args.output.now)) (record { stands = loaded.0; first = loaded.1; counted = c.load.ensures.counted; output = refl })

pub returns-in-Err-clause-runs : goal.returns-in-Err-clause-runs
returns-in-Err-clause-runs g c w lawful told =
    subst (λ (s : Status). Runs g.U.UidMaker.digest (reading_of c.args.command) s w (g.S.Source.left c.args.input.now) (g.S.Source.left c.args.input.now) (seen (g.K.Keeper.told c.args.keeper.now) (g.K.Keeper.faults c.args.keeper.now) (g.O.Sink.taken c.args.output.now)) (seen (g.K.Keeper.told c.load.new.keeper) (g.K.Keeper.faults c.load.new.keeper) (g.O.Sink.taken c.args.output.now))) (sym c.end_at_start.ensures)
    (command_at_start g.U.UidMaker.digest c.args.command c.in-Err.error w (g.S.Source.left c.args.input.now) (seen (g.K.Keeper.told c.args.keeper.now) (g.K.Keeper.faults c.args.keeper.now) (g.O.Sink.taken c.args.output.now)) (seen (g.K.Keeper.told c.load.new.keeper) (g.K.Keeper.faults c.load.new.keeper) (g.O.Sink.taken c.args.output.now)) lawful (c.load.ensures.told ∙ told) c.load.ensures.counted refl)
