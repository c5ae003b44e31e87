use Rattle.dw_derive.proofs.IndexLemmas.{wider_keeps}
use Rattle.dw_derive.proofs.index_laws.wider_rules_keep_worlds.Goals as goal

pub returns : goal.returns
returns c = wider_keeps
