use Rattle.dw_derive.proofs.MetaSpellings.{numbers_one}
use Rattle.dw_derive.proofs.meta_laws.numbers_have_one_spelling.Goals as goal

pub returns : goal.returns
returns c = numbers_one
