use Rattle.dw_plan.proofs.Others.{other_table_adds_nothing}
use Rattle.dw_plan.proofs.laws.other_table_adds_nothing.Goals as goal

pub returns : goal.returns
returns c = other_table_adds_nothing
