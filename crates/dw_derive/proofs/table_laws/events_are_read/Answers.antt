use Rattle.dw_derive.proofs.WholeWorlds.{events_are_read}
use Rattle.dw_derive.proofs.table_laws.events_are_read.Goals as goal

pub returns : goal.returns
returns c = events_are_read
