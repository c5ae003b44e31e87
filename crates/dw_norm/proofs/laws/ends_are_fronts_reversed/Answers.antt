use Rattle.dw_norm.proofs.Reversals.{ends_reversed}
use Rattle.dw_norm.proofs.laws.ends_are_fronts_reversed.Goals as goal

pub returns : goal.returns
returns c = ends_reversed
