use Rattle.dw_norm.proofs.Reversals.{reversed_twice}
use Rattle.dw_norm.proofs.laws.reversal_takes_back.Goals as goal

pub returns : goal.returns
returns c = reversed_twice
