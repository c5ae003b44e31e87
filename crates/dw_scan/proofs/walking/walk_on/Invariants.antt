use Rattle.std.proofs.Common.{◌≡◌, ◌≤◌, ◌+◌, ℕ, true, List, length, map}
use Rattle.dw_key.specs.declared.doc_key.DocKey.{DocKey}
use Rattle.dw_nest.specs.declared.place.Place.TheVariants.{Positive}
use Rattle.dw_nest.specs.Shapes.{shape, leaves, is_enumerable}
use Rattle.dw_scan.specs.Answers.{left, IsShard, IsSearched}
use Rattle.dw_scan.proofs.walking.walk_on.Given as goal

abbrev pub invariant-candidates : goal.invariant-candidates
invariant-candidates g l = record {
  still : (content : List (List ℕ)) (all : List DocKey) → IsShard g.I.DocIter.stands l.tablet (shape l.fn.tree) content all → IsShard g.I.DocIter.stands l.tablet (shape l.tree) content all;
  searched : (content : List (List ℕ)) (all : List DocKey) → IsShard g.I.DocIter.stands l.tablet (shape l.fn.tree) content all → IsSearched l.ask l.tablet.shard content all l.fn.from l.after l.found;
  counted : (content : List (List ℕ)) (all : List DocKey) → IsShard g.I.DocIter.stands l.tablet (shape l.fn.tree) content all → l.steps + length (left all l.after) ≡ l.fn.steps + length (left all l.fn.from);
  enumerable : is_enumerable Positive (shape l.tree) ≡ true;
  made : map g.I.DocIter.made (leaves (shape l.tree)) ≡ map g.I.DocIter.made (leaves (shape l.fn.tree));
  read : l.steps + l.unread ≡ l.fn.steps + l.budget;
  few : length l.found ≤ l.want;
}

abbrev pub decreases-candidates : goal.decreases-candidates
decreases-candidates g l = l.unread
