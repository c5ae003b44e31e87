use Rattle.dw_norm.proofs.DayNumbers.{moments_told}
use Rattle.dw_norm.proofs.laws.instants_have_moments.Goals as goal

pub returns : goal.returns
returns c = moments_told
