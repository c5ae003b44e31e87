use Rattle.std.proofs.Common.{◌≡◌, take}
use Rattle.dw_vis.specs.Names.{common_names}
use Rattle.dw_vis.proofs.auths.common.Given as goal

abbrev pub invariant-loop-name : goal.invariant-loop-name
invariant-loop-name l = l.all.items ≡ common_names (take l.name-index l.names) l.others
