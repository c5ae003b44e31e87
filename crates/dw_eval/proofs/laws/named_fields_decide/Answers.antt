use Rattle.dw_eval.proofs.NamedFields.{named_decide}
use Rattle.dw_eval.proofs.laws.named_fields_decide.Goals as goal

pub returns : goal.returns
returns c = named_decide
