use Rattle.dw_desk.proofs.Telling.{steps_tell}
use Rattle.dw_desk.proofs.laws.steps_tell.Goals as goal

pub returns : goal.returns
returns c = steps_tell
