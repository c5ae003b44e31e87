use Rattle.dw_desk.proofs.Isolating.{replies_are_isolated}
use Rattle.dw_desk.proofs.laws.replies_are_isolated.Goals as goal

pub returns : goal.returns
returns c = replies_are_isolated
