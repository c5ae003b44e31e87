use Rattle.dw_jexl.proofs.Again.{made_again}
use Rattle.dw_jexl.proofs.laws.well_made_queries_are_read.Goals as goal

pub returns : goal.returns
returns c = made_again
