use Rattle.std.proofs.Common.{rules}
use Rattle.dw_tablet.proofs.Kept.{nothing_agrees}
use Rattle.dw_tablet.proofs.tablet.Tablet.empty.Goals as goal

pub returns-clause-agrees : goal.returns-clause-agrees
returns-clause-agrees c = nothing_agrees _ c.args.shard.now (search rules) (search rules) (search rules)
