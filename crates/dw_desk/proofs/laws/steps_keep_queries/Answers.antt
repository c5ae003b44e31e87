use Rattle.dw_desk.proofs.Staying.{steps_keep_queries}
use Rattle.dw_desk.proofs.laws.steps_keep_queries.Goals as goal

pub returns : goal.returns
returns c = steps_keep_queries
