use Rattle.dw_desk.proofs.Keeping.{sessions_keep}
use Rattle.dw_desk.proofs.laws.sessions_keep.Goals as goal

pub returns : goal.returns
returns c = sessions_keep
