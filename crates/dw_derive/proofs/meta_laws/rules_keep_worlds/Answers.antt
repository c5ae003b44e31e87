use Rattle.dw_derive.proofs.MetaTableLemmas.{rule_keeps}
use Rattle.dw_derive.proofs.meta_laws.rules_keep_worlds.Goals as goal

pub returns : goal.returns
returns c = rule_keeps
