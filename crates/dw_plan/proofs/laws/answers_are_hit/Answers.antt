use Rattle.dw_plan.proofs.Answering.{answers_are_hit}
use Rattle.dw_plan.proofs.laws.answers_are_hit.Goals as goal

pub returns : goal.returns
returns c = answers_are_hit
