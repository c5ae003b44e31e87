use Rattle.dw_eval.proofs.Lawful.{indexed_known}
use Rattle.dw_eval.proofs.laws.indexes_know.Goals as goal

pub returns : goal.returns
returns c = indexed_known
