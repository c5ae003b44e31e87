use Rattle.dw_outside.proofs.Batches.{batches}
use Rattle.dw_outside.proofs.table_laws.batches_are_tables.Goals as goal

pub returns : goal.returns
returns c = batches
