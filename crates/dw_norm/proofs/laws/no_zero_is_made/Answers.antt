use Rattle.dw_norm.proofs.Zeros.{no_zero_made}
use Rattle.dw_norm.proofs.laws.no_zero_is_made.Goals as goal

pub returns : goal.returns
returns c = no_zero_made
