use Rattle.dw_norm.proofs.Dates.{slice_cmp-dates}
use Rattle.dw_norm.proofs.laws.instants_keep_order.Goals as goal

pub returns : goal.returns
returns c = slice_cmp-dates
