use Rattle.std.proofs.Common.{◌≡◌, ◌≢◌, ◌+◌, ℕ, true, false, List, length}
use Rattle.dw_key.specs.declared.doc_key.DocKey.{DocKey}
use Rattle.dw_nest.specs.declared.bound.Found.TheVariants.{Missing}
use Rattle.dw_nest.specs.declared.place.Need.TheVariants.{All}
use Rattle.dw_nest.specs.Bounds.{meets}
use Rattle.dw_nest.specs.Places.{passes}
use Rattle.dw_nest.specs.Search.{ChildrenStand, children_pass, IsLeast, IsLeap, Held, is_over}
use Rattle.dw_nest.specs.Shapes.{Shape, and, shape, shapes, value, Alike, Stays, any_of}
use Rattle.dw_nest.proofs.Alike.{Waiting}
use Rattle.dw_nest.proofs.Left.{left}
use Rattle.dw_nest.proofs.Weights.{weight, sum_of}
use Rattle.dw_nest.proofs.+least.Given as goal

abbrev pub decreases-tree::Tree::least_at : goal.decreases-tree::Tree::least_at
decreases-tree::Tree::least_at g l = weight (shape l.self.now)

abbrev pub decreases-search::least_among : goal.decreases-search::least_among
decreases-search::least_among g l = sum_of (length l.children.now) (λ i. weight (shapes l.children.now i)) + 4

abbrev pub decreases-search::least_of_any : goal.decreases-search::least_of_any
decreases-search::least_of_any g l = sum_of (length l.children.now) (λ i. weight (shapes l.children.now i)) + 3

abbrev pub decreases-search::least_of_all : goal.decreases-search::least_of_all
decreases-search::least_of_all g l = sum_of (length l.children.now) (λ i. weight (shapes l.children.now i)) + 3

abbrev pub decreases-search::leap : goal.decreases-search::leap
decreases-search::leap g l = sum_of (length l.children.now) (λ i. weight (shapes l.children.now i)) + 2

abbrev pub decreases-search::reach : goal.decreases-search::reach
decreases-search::reach g l = weight (shape l.child.now) + 1

abbrev pub invariant-search::leap-loop-child : goal.invariant-search::leap-loop-child
invariant-search::leap-loop-child g l = record {
  unvisited : Waiting l.initial.children l.children l.child-index;
  stays : Alike (Stays g.L.DocIter.stands g.L.DocIter.keys g.L.DocIter.made) (and (length l.initial.children) (shapes l.initial.children)) (and (length l.children) (shapes l.children));
  round : IsLeap g.L.DocIter.stands g.L.DocIter.keys l.place l.initial.children l.child-index l.bound l.leap;
  goes_on : is_over l.leap ≡ false;
}

abbrev pub invariant-search::least_of_any-loop-child : goal.invariant-search::least_of_any-loop-child
invariant-search::least_of_any-loop-child g l = record {
  unvisited : Waiting l.initial.children l.children l.child-index;
  stays : Alike (Stays g.L.DocIter.stands g.L.DocIter.keys g.L.DocIter.made) (and (length l.initial.children) (shapes l.initial.children)) (and (length l.children) (shapes l.children));
  so_far : IsLeast (ChildrenStand g.L.DocIter.stands l.initial.children) (λ lists key. any_of l.child-index (λ i. passes l.place (value (lists i) key))) (Held g.L.DocIter.keys (and (length l.initial.children) (shapes l.initial.children))) l.bound l.least;
  known : l.least ≢ Missing;
}

abbrev pub invariant-search::least_of_all-loop-key : goal.invariant-search::least_of_all-loop-key
invariant-search::least_of_all-loop-key g l = record {
  stays : Alike (Stays g.L.DocIter.stands g.L.DocIter.keys g.L.DocIter.made) (and (length l.initial.children) (shapes l.initial.children)) (and (length l.children) (shapes l.children));
  later : (key : DocKey) → meets l.at key ≡ true → meets l.bound key ≡ true;
  none : (lists : ℕ → Shape (List DocKey)) → ChildrenStand g.L.DocIter.stands l.initial.children lists → (other : DocKey) → meets l.bound other ≡ true → meets l.at other ≡ false → children_pass All l.place (length l.initial.children) lists other ≡ false;
}

abbrev pub decreases-search::least_of_all-loop-key : goal.decreases-search::least_of_all-loop-key
decreases-search::least_of_all-loop-key g l = left g.L.DocIter.keys l.at (and (length l.initial.children) (shapes l.initial.children))
