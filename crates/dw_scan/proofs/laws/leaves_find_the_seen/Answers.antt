use Rattle.dw_scan.proofs.WorldLeaves.{leaves_find_the_seen}
use Rattle.dw_scan.proofs.laws.leaves_find_the_seen.Goals as goal

pub returns : goal.returns
returns c = leaves_find_the_seen
