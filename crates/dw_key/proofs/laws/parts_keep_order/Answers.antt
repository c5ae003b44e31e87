use Rattle.dw_key.proofs.Prefixes.{parts_keep_order}
use Rattle.dw_key.proofs.laws.parts_keep_order.Goals as goal

pub returns : goal.returns
returns c = parts_keep_order
