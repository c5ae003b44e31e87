use Rattle.dw_derive.proofs.Rereading.{event_keys}
use Rattle.dw_derive.proofs.reader_laws.event_keys_are_read.Goals as goal

pub returns : goal.returns
returns c = event_keys
