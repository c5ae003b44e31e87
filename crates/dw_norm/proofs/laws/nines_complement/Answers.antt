use Rattle.dw_norm.proofs.Decimals.{nines-decimal}
use Rattle.dw_norm.proofs.laws.nines_complement.Goals as goal

pub returns : goal.returns
returns c = nines-decimal
