use Rattle.dw_derive.proofs.MetaTableLemmas.{grant_set}
use Rattle.dw_derive.proofs.meta_laws.grants_are_cells.Goals as goal

pub returns : goal.returns
returns c = grant_set
