use Rattle.dw_eval.proofs.Again.{bound_alike}
use Rattle.dw_eval.proofs.laws.readings_are_bound_alike.Goals as goal

pub returns : goal.returns
returns c = bound_alike
