use Rattle.dw_derive.proofs.MetaTableLemmas.{meta_read}
use Rattle.dw_derive.proofs.meta_laws.meta_is_read.Goals as goal

pub returns : goal.returns
returns c = meta_read
