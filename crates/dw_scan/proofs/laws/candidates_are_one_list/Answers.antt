use Rattle.dw_scan.proofs.OneList.{one_list}
use Rattle.dw_scan.proofs.laws.candidates_are_one_list.Goals as goal

pub returns : goal.returns
returns c = one_list
