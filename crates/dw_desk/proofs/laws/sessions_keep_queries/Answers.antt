use Rattle.dw_desk.proofs.Staying.{sessions_keep_queries}
use Rattle.dw_desk.proofs.laws.sessions_keep_queries.Goals as goal

pub returns : goal.returns
returns c = sessions_keep_queries
