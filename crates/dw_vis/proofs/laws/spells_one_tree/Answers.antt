use Rattle.dw_vis.proofs.Standing.{spells_one}
use Rattle.dw_vis.proofs.laws.spells_one_tree.Goals as goal

pub returns : goal.returns
returns c = spells_one
