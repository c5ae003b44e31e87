use Rattle.std.proofs.Common.{arith}
use Rattle.dw_key.proofs.Places.{AreBytes-from}
use Rattle.dw_ingest.proofs.pending.are_bytes.Goals as goal

pub returns : goal.returns
returns c = AreBytes-from c.args.bytes.now (λ i. omega (arith, c.type_inv.bytes i))
