use Rattle.std.proofs.Common.{◌≡◌, ℕ, ◌<◌, List, length}
use Rattle.dw_key.specs.declared.doc_key.DocKey.{DocKey}
use Rattle.dw_nest.specs.Kleene.{least_of, most_of}
use Rattle.dw_nest.specs.Shapes.{Shape, and, shapes, value, Alike, Stays}
use Rattle.dw_nest.proofs.tree.+truth.Given as goal

abbrev pub invariant-least_truth-loop-child : goal.invariant-least_truth-loop-child
invariant-least_truth-loop-child g l = record {
  unvisited : goal.unvisited-least_truth-loop-child g l;
  stays : Alike (Stays g.L.DocIter.stands g.L.DocIter.keys g.L.DocIter.made) (and (length l.initial.children) (shapes l.initial.children)) (and (length l.children) (shapes l.children));
  so_far : (lists : ℕ → Shape (List DocKey)) → ((i : ℕ) → i < l.child-index → Alike g.L.DocIter.stands (shapes l.initial.children i) (lists i)) → l.least ≡ least_of l.child-index (λ i. value (lists i) l.key);
}

abbrev pub invariant-most_truth-loop-child : goal.invariant-most_truth-loop-child
invariant-most_truth-loop-child g l = record {
  unvisited : goal.unvisited-most_truth-loop-child g l;
  stays : Alike (Stays g.L.DocIter.stands g.L.DocIter.keys g.L.DocIter.made) (and (length l.initial.children) (shapes l.initial.children)) (and (length l.children) (shapes l.children));
  so_far : (lists : ℕ → Shape (List DocKey)) → ((i : ℕ) → i < l.child-index → Alike g.L.DocIter.stands (shapes l.initial.children i) (lists i)) → l.most ≡ most_of l.child-index (λ i. value (lists i) l.key);
}
