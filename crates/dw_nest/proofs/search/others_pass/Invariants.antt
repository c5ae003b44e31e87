use Rattle.std.proofs.Common.{◌≡◌, ◌<◌, ℕ, true, false, List, length}
use Rattle.dw_key.specs.declared.doc_key.DocKey.{DocKey}
use Rattle.dw_nest.specs.Places.{passes}
use Rattle.dw_nest.specs.Search.{ChildrenStand}
use Rattle.dw_nest.specs.Shapes.{Shape, and, shapes, value, Alike, Stays, is_enumerable}
use Rattle.dw_nest.proofs.Alike.{Waiting}
use Rattle.dw_nest.proofs.search.others_pass.Given as goal

abbrev pub invariant-loop-child : goal.invariant-loop-child
invariant-loop-child g l = record {
  unvisited : Waiting l.initial.children l.children l.child-index;
  stays : Alike (Stays g.L.DocIter.stands g.L.DocIter.keys g.L.DocIter.made) (and (length l.initial.children) (shapes l.initial.children)) (and (length l.children) (shapes l.children));
  so_far : (lists : ℕ → Shape (List DocKey)) → ChildrenStand g.L.DocIter.stands l.initial.children lists → (i : ℕ) → i < l.child-index → is_enumerable l.place (shapes l.initial.children i) ≡ false → passes l.place (value (lists i) l.key) ≡ true;
}
