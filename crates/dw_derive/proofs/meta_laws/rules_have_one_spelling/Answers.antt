use Rattle.dw_derive.proofs.MetaSpellings.{rules_one}
use Rattle.dw_derive.proofs.meta_laws.rules_have_one_spelling.Goals as goal

pub returns : goal.returns
returns c = rules_one
