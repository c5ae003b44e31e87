use Rattle.std.proofs.Common.{◌≡◌, ◌++◌, ◌∷◌, [], List, drop, sym, subst, ◌∙◌, add-one}
use Rattle.dw_nest.specs.declared.tree.Tree.{Tree}
use Rattle.dw_iter.specs.declared.leaf.Leaf.{Leaf}
use Rattle.dw_scan.specs.Parts.{AreTreesOf}
use Rattle.dw_scan.proofs.QueryParts.{equal_built, and_built, or_built, one_more, all_built}
use Rattle.dw_scan.proofs.TreeErrors.{and_failed, or_failed}
use Rattle.dw_scan.proofs.building.+build.Goals as goal

pub tree_of-returns-in-Equal-clause-ok : goal.tree_of-returns-in-Equal-clause-ok
tree_of-returns-in-Equal-clause-ok t c =
    equal_built c.args.tablet.now c.args.ask.now c.known_equal.result c.args.query.now c.in-Equal.field c.in-Equal.rule c.in-Equal.value c.as_str.result.now c.as_str-in-Equal.result.now c.in-Equal.is
    c.as_str.ensures.same c.as_str-in-Equal.ensures.same c.known_equal.ensures

pub tree_of-returns-in-Ok-clause-ok : goal.tree_of-returns-in-Ok-clause-ok
tree_of-returns-in-Ok-clause-ok t c = and_built c.args.tablet.now c.args.ask.now c.in-Ok.children c.args.query.now c.in-And.children c.as_slice.result.now c.in-And.is c.as_slice.ensures c.in-Ok.ensures.ok

pub tree_of-returns-in-Err-clause-err : goal.tree_of-returns-in-Err-clause-err
tree_of-returns-in-Err-clause-err t c = and_failed c.args.tablet.now c.args.query.now c.in-And.children c.as_slice.result.now c.in-Err.why c.in-And.is c.as_slice.ensures c.in-Err.ensures.err

pub tree_of-returns-in-Ok-trees_of-clause-ok : goal.tree_of-returns-in-Ok-trees_of-clause-ok
tree_of-returns-in-Ok-trees_of-clause-ok t c =
    or_built c.args.tablet.now c.args.ask.now c.in-Ok-trees_of.children c.args.query.now c.in-Or.children c.as_slice-in-Or.result.now c.in-Or.is c.as_slice-in-Or.ensures c.in-Ok-trees_of.ensures.ok

pub tree_of-returns-in-Err-trees_of-clause-err : goal.tree_of-returns-in-Err-trees_of-clause-err
tree_of-returns-in-Err-trees_of-clause-err t c = or_failed c.args.tablet.now c.args.query.now c.in-Or.children c.as_slice-in-Or.result.now c.in-Err-trees_of.why c.in-Or.is c.as_slice-in-Or.ensures c.in-Err-trees_of.ensures.err

pub trees_of-loop-query-preserved : goal.trees_of-loop-query-preserved
trees_of-loop-query-preserved t c =
    let tablet = c.args.tablet.now in
    let ask = c.args.ask.now in
    let queries = c.args.queries.now in
    let i = c.loop-query.query-index in
    let q = c.query-item.result in
    λ more h.
    subst (λ (l : List (Tree Leaf)). AreTreesOf tablet ask (l ++ more) queries) (sym c.in_ok-put_tree-in-Ok.ensures)
    (one_more tablet ask c.loop-query.trees.items more c.in-Ok.tree queries i q c.loop-query-test.true c.query-item.is c.in-Ok.ensures.ok c.loop-query.invariant
    (subst (λ k. AreTreesOf tablet ask more (drop k queries)) (add-one i) h))

pub trees_of-returns-clause-ok : goal.trees_of-returns-clause-ok
trees_of-returns-clause-ok t c = all_built c.args.tablet.now c.args.ask.now c.loop-query.trees.items c.args.queries.now c.loop-query.query-index c.loop-query-test.false c.loop-query.invariant
