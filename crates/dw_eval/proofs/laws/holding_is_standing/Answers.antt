use Rattle.dw_eval.proofs.Texts.{holds_found, found_holds}
use Rattle.dw_eval.proofs.laws.holding_is_standing.Goals as goal

pub returns : goal.returns
returns c = λ form text. (holds_found form text, found_holds form text)
