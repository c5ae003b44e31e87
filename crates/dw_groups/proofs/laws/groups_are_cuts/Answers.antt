use Rattle.dw_groups.proofs.Cuts as cuts
use Rattle.dw_groups.proofs.laws.groups_are_cuts.Goals as goal

pub returns : goal.returns
returns c = cuts.groups_are_cuts
