use Rattle.std.proofs.Common.{◌≡◌, ◌++◌, drop}
use Rattle.dw_event.specs.Views.{seen_pairs}
use Rattle.dw_tablet.specs.Documents.{cells_of}
use Rattle.dw_tablet.proofs.document.pairs_of.Given as goal

abbrev pub invariant-loop-key : goal.invariant-loop-key
invariant-loop-key l = l.pairs.items ++ seen_pairs l.auths (cells_of l.doc l.snapshot (drop l.key-index l.keys)) ≡ seen_pairs l.auths (cells_of l.doc l.snapshot l.keys)
