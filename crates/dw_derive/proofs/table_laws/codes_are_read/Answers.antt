use Rattle.dw_derive.proofs.Decoding.{codes_are_read}
use Rattle.dw_derive.proofs.table_laws.codes_are_read.Goals as goal

pub returns : goal.returns
returns c = codes_are_read
