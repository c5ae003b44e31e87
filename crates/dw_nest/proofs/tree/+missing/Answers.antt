use Rattle.std.proofs.Common.{◌≡◌, ◌<◌, ap, sym, ◌∙◌, arith, length, find}
use Rattle.dw_nest.specs.Shapes.{shape, shapes, leaves}
use Rattle.dw_nest.proofs.Trees.{shapes_at, whole_and}
use Rattle.dw_nest.proofs.Choices.{find_first, find_more}
use Rattle.dw_nest.proofs.tree.+missing.Goals as goal

pub Tree::first_missing-returns-in-And : goal.Tree::first_missing-returns-in-And
Tree::first_missing-returns-in-And g t c =
    c.first_missing_of.ensures ∙ ap (λ s. find g.L.DocIter.stuck (leaves s)) (sym (whole_and c.args.self.now c.in-And.children c.deref-in-And.result.now (sym c.in-And.is) c.deref-in-And.ensures.value))

pub first_missing_of-returns-in-Some : goal.first_missing_of-returns-in-Some
first_missing_of-returns-in-Some g t c =
    let at : c.loop-child.child-index < length c.args.children.now = omega (arith, c.loop-child-test.true) in
    let is : shape c.child-item.result ≡ shapes c.args.children.now c.loop-child.child-index = ap shape c.child-item.is ∙ sym (shapes_at c.args.children.now c.loop-child.child-index c.child-item.result at) in
    sym (find_first g.L.DocIter.stuck (length c.args.children.now) c.loop-child.child-index (λ i. leaves (shapes c.args.children.now i)) c.in-Some.leaf.now at c.loop-child.invariant (ap (λ s. find g.L.DocIter.stuck (leaves s)) (sym is) ∙ sym c.in-Some.ensures))

pub first_missing_of-loop-child-preserved : goal.first_missing_of-loop-child-preserved
first_missing_of-loop-child-preserved g t c =
    let at : c.loop-child.child-index < length c.args.children.now = omega (arith, c.loop-child-test.true) in
    let is : shape c.child-item.result ≡ shapes c.args.children.now c.loop-child.child-index = ap shape c.child-item.is ∙ sym (shapes_at c.args.children.now c.loop-child.child-index c.child-item.result at) in
    find_more g.L.DocIter.stuck c.loop-child.child-index (λ i. leaves (shapes c.args.children.now i)) c.loop-child.invariant (ap (λ s. find g.L.DocIter.stuck (leaves s)) (sym is) ∙ sym c.in_default.ensures)
