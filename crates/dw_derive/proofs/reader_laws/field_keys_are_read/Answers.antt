use Rattle.dw_derive.proofs.Rereading.{field_keys}
use Rattle.dw_derive.proofs.reader_laws.field_keys_are_read.Goals as goal

pub returns : goal.returns
returns c = field_keys
