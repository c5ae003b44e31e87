use Rattle.dw_jexl.proofs.Again.{read_again}
use Rattle.dw_jexl.proofs.laws.canonical_texts_are_read_again.Goals as goal

pub returns : goal.returns
returns c = read_again
