use Rattle.dw_tablet.proofs.Begun.{stand_in_fronts}
use Rattle.dw_tablet.proofs.laws.values_stand_in_fronts.Goals as goal

pub returns : goal.returns
returns c = stand_in_fronts
