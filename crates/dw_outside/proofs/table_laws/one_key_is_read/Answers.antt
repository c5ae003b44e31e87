use Rattle.dw_outside.proofs.Spanning.{one_key_span}
use Rattle.dw_outside.proofs.table_laws.one_key_is_read.Goals as goal

pub returns : goal.returns
returns c = one_key_span
