use Rattle.dw_plan.proofs.Ruled.{bound_are_ruled}
use Rattle.dw_plan.proofs.laws.bound_are_ruled.Goals as goal

pub returns : goal.returns
returns c = bound_are_ruled
