use Rattle.dw_scan.proofs.Found.{trees_find}
use Rattle.dw_scan.proofs.laws.trees_find_candidates.Goals as goal

pub returns : goal.returns
returns c = trees_find
