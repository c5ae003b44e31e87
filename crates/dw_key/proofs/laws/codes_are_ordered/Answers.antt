use Rattle.dw_key.proofs.Codes.{slice_cmp-codes}
use Rattle.dw_key.proofs.laws.codes_are_ordered.Goals as goal

pub returns : goal.returns
returns c = slice_cmp-codes
