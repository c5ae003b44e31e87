use Rattle.dw_audit.proofs.StoodFor.{world_is}
use Rattle.dw_audit.proofs.laws.tables_stand_for_worlds.Goals as goal

pub returns : goal.returns
returns c = world_is
