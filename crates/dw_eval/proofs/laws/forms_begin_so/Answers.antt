use Rattle.dw_eval.proofs.Begun.{forms_begin_so}
use Rattle.dw_eval.proofs.laws.forms_begin_so.Goals as goal

pub returns : goal.returns
returns c = forms_begin_so
