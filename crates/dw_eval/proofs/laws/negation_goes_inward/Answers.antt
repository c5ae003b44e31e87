use Rattle.dw_eval.proofs.Lawful.{de_morgan}
use Rattle.dw_eval.proofs.laws.negation_goes_inward.Goals as goal

pub returns : goal.returns
returns c = de_morgan
