use Rattle.std.proofs.Common.{◌≡◌, take}
use Rattle.dw_event.specs.Views.{seen_pairs}
use Rattle.dw_event.proofs.viewing.pairs_seen.Given as goal

abbrev pub invariant-loop-cell : goal.invariant-loop-cell
invariant-loop-cell l = l.pairs.items ≡ seen_pairs l.auths (take l.cell-index l.cells)
