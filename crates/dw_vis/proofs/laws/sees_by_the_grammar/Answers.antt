use Rattle.dw_vis.proofs.Standing.{sees_is}
use Rattle.dw_vis.proofs.laws.sees_by_the_grammar.Goals as goal

pub returns : goal.returns
returns c = sees_is
