use Rattle.dw_derive.proofs.GatherLemmas.{events_are_gathered}
use Rattle.dw_derive.proofs.table_laws.events_are_gathered.Goals as goal

pub returns : goal.returns
returns c = events_are_gathered
