use Rattle.dw_desk.proofs.Telling.{sessions_tell}
use Rattle.dw_desk.proofs.laws.sessions_tell.Goals as goal

pub returns : goal.returns
returns c = sessions_tell
