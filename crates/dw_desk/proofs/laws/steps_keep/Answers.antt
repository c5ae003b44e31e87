use Rattle.dw_desk.proofs.Keeping.{steps_keep}
use Rattle.dw_desk.proofs.laws.steps_keep.Goals as goal

pub returns : goal.returns
returns c = steps_keep
