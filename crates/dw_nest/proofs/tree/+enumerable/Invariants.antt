use Rattle.std.proofs.Common.{◌≡◌, true, false}
use Rattle.dw_nest.specs.Shapes.{shapes, is_enumerable, any_of, all_of}
use Rattle.dw_nest.proofs.tree.+enumerable.Given as goal

abbrev pub invariant-all_enumerable-loop-child : goal.invariant-all_enumerable-loop-child
invariant-all_enumerable-loop-child g l = all_of l.child-index (λ i. is_enumerable l.place (shapes l.children i)) ≡ true

abbrev pub invariant-any_enumerable-loop-child : goal.invariant-any_enumerable-loop-child
invariant-any_enumerable-loop-child g l = any_of l.child-index (λ i. is_enumerable l.place (shapes l.children i)) ≡ false
