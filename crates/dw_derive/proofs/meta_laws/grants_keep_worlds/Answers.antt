use Rattle.dw_derive.proofs.MetaTableLemmas.{grant_keeps}
use Rattle.dw_derive.proofs.meta_laws.grants_keep_worlds.Goals as goal

pub returns : goal.returns
returns c = grant_keeps
