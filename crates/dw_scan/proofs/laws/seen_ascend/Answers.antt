use Rattle.dw_scan.proofs.ShardOrder.{seen_ascend}
use Rattle.dw_scan.proofs.laws.seen_ascend.Goals as goal

pub returns : goal.returns
returns c = seen_ascend
