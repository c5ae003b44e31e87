use Rattle.dw_norm.proofs.Zeros.{no_zero_reversed}
use Rattle.dw_norm.proofs.laws.no_zero_is_reversed.Goals as goal

pub returns : goal.returns
returns c = no_zero_reversed
