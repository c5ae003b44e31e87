use Rattle.std.proofs.Common.{◌≡◌, ◌++◌}
use Rattle.std.specs.Prelude.{map as list_map}
use Rattle.std.specs.Vec.Iter.{into_iter_items}
use Rattle.dw_tablet.proofs.run.keys_of.Given as goal

abbrev pub invariant-loop-cell : goal.invariant-loop-cell
invariant-loop-cell l = l.keys.items ++ list_map (λ x. x.key) (into_iter_items l.cell-iterator) ≡ list_map (λ x. x.key) l.fn.cells.items
