use Rattle.dw_derive.proofs.Rereading.{global_keys}
use Rattle.dw_derive.proofs.reader_laws.global_keys_are_read.Goals as goal

pub returns : goal.returns
returns c = global_keys
