use Rattle.dw_norm.proofs.Wholes.{texts_whole}
use Rattle.dw_norm.proofs.laws.texts_are_read_whole.Goals as goal

pub returns : goal.returns
returns c = texts_whole
