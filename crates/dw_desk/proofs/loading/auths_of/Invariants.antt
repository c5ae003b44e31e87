use Rattle.std.proofs.Common.{◌≡◌, [], drop}
use Rattle.dw_base.specs.Ascending.{with_items}
use Rattle.dw_vis.specs.Names.{name_cmp}
use Rattle.dw_desk.proofs.loading.auths_of.Given as goal

abbrev pub invariant-loop-name : goal.invariant-loop-name
invariant-loop-name l = with_items name_cmp l.auths (drop l.name-index l.names) ≡ with_items name_cmp [] l.names
