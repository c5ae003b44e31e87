use Rattle.std.proofs.Common.{le_refl, refl}
use Rattle.dw_outside.specs.declared.keeper_error.KeeperError.TheVariants as keeper
use Rattle.datawave.specs.Outside.{seen}
use Rattle.datawave.proofs.Running.{command_at_start}
use Rattle.datawave.proofs.run.Goals as goal

pub returns-in_default-clause-runs : goal.returns-in_default-clause-runs
returns-in_default-clause-runs g c x w e lawful told =
    command_at_start g.U.UidMaker.digest x keeper.OutOfMemory w (g.S.Source.left c.args.input.now) (seen (g.K.Keeper.told c.args.keeper.now) (g.K.Keeper.faults c.args.keeper.now) (g.O.Sink.taken c.args.output.now)) (seen (g.K.Keeper.told c.args.keeper.now) (g.K.Keeper.faults c.args.keeper.now) (g.O.Sink.taken c.args.output.now)) lawful told (le_refl _) refl

pub returns-in-Err-clause-runs : goal.returns-in-Err-clause-runs
returns-in-Err-clause-runs g c x w e lawful told =
    command_at_start g.U.UidMaker.digest x keeper.OutOfMemory w (g.S.Source.left c.args.input.now) (seen (g.K.Keeper.told c.args.keeper.now) (g.K.Keeper.faults c.args.keeper.now) (g.O.Sink.taken c.args.output.now)) (seen (g.K.Keeper.told c.args.keeper.now) (g.K.Keeper.faults c.args.keeper.now) (g.O.Sink.taken c.args.output.now)) lawful told (le_refl _) refl
