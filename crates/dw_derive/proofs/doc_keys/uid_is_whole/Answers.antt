use Rattle.std.proofs.Common.{subst}
use Rattle.dw_key.specs.KeyCode.{AreBytes}
use Rattle.dw_derive.proofs.doc_keys.uid_is_whole.Goals as goal

pub returns : goal.returns
returns c = record { size = c.told-uid; are_bytes = subst AreBytes c.as_slice.ensures c.are_bytes.ensures }
