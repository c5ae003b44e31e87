use Rattle.dw_derive.proofs.MetaTableLemmas.{rule_set}
use Rattle.dw_derive.proofs.meta_laws.rules_are_cells.Goals as goal

pub returns : goal.returns
returns c = rule_set
