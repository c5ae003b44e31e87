use Rattle.std.proofs.Common.{◌≡◌, ◌++◌, drop, List}
use Rattle.dw_nest.specs.declared.tree.Tree.{Tree}
use Rattle.dw_iter.specs.declared.leaf.Leaf.{Leaf}
use Rattle.dw_scan.specs.Parts.{AreTreesOf}
use Rattle.dw_scan.proofs.building.+build.Given as goal

abbrev pub invariant-trees_of-loop-query : goal.invariant-trees_of-loop-query
invariant-trees_of-loop-query l = (more : List (Tree Leaf)) → AreTreesOf l.tablet l.ask more (drop l.query-index l.queries) → AreTreesOf l.tablet l.ask (l.trees.items ++ more) l.queries
