use Rattle.dw_derive.proofs.MetaSpellings.{grants_one}
use Rattle.dw_derive.proofs.meta_laws.grants_have_one_spelling.Goals as goal

pub returns : goal.returns
returns c = grants_one
