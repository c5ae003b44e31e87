use Rattle.dw_eval.proofs.Forms.{forms_of_values}
use Rattle.dw_eval.proofs.laws.forms_are_of_values.Goals as goal

pub returns : goal.returns
returns c = forms_of_values
