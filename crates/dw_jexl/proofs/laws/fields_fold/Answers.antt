use Rattle.dw_jexl.proofs.Made.{fields_fold}
use Rattle.dw_jexl.proofs.laws.fields_fold.Goals as goal

pub returns : goal.returns
returns c = fields_fold
