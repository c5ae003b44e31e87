use Rattle.dw_norm.proofs.Numbers.{slice_cmp-numbers}
use Rattle.dw_norm.proofs.laws.numbers_keep_order.Goals as goal

pub returns : goal.returns
returns c = slice_cmp-numbers
