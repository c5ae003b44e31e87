use Rattle.dw_tablet.proofs.Equals.{equal_walks}
use Rattle.dw_tablet.proofs.laws.equal_walks_are_ordered.Goals as goal

pub returns : goal.returns
returns c = equal_walks
