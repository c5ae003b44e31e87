use Rattle.dw_plan.proofs.Neighbours.{neighbours_join}
use Rattle.dw_plan.proofs.laws.neighbours_join.Goals as goal

pub returns : goal.returns
returns c = neighbours_join
