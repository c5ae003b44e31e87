use Rattle.dw_derive.proofs.WholeWorlds.{tables_tell_events}
use Rattle.dw_derive.proofs.table_laws.tables_tell_events.Goals as goal

pub returns : goal.returns
returns c = tables_tell_events
