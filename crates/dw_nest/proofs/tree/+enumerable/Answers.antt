use Rattle.std.proofs.Common.{ℕ, ◌≡◌, ◌<◌, ap, sym, ◌∙◌, arith, length, ◌||◌, ◌&&◌}
use Rattle.dw_nest.specs.Shapes.{shape, shapes, is_enumerable}
use Rattle.dw_nest.proofs.Trees.{shapes_at}
use Rattle.dw_nest.proofs.Choices.{any_by, all_not, any_more, all_more}
use Rattle.dw_nest.proofs.tree.+enumerable.Goals as goal

pub any_enumerable-returns-then-enumerable_at : goal.any_enumerable-returns-then-enumerable_at
any_enumerable-returns-then-enumerable_at g t c =
    let at : c.loop-child.child-index < length c.args.children.now = omega (arith, c.loop-child-test.true) in
    let is : shape c.child-item.result ≡ shapes c.args.children.now c.loop-child.child-index = ap shape c.child-item.is ∙ sym (shapes_at c.args.children.now c.loop-child.child-index c.child-item.result at) in
    sym (any_by (length c.args.children.now) c.loop-child.child-index (λ i. is_enumerable c.args.place (shapes c.args.children.now i)) at (ap (is_enumerable c.args.place) (sym is) ∙ sym (c.if-enumerable_at.ensures)))

pub all_enumerable-returns-then-not-enumerable_at : goal.all_enumerable-returns-then-not-enumerable_at
all_enumerable-returns-then-not-enumerable_at g t c =
    let at : c.loop-child.child-index < length c.args.children.now = omega (arith, c.loop-child-test.true) in
    let is : shape c.child-item.result ≡ shapes c.args.children.now c.loop-child.child-index = ap shape c.child-item.is ∙ sym (shapes_at c.args.children.now c.loop-child.child-index c.child-item.result at) in
    sym (all_not (length c.args.children.now) c.loop-child.child-index (λ i. is_enumerable c.args.place (shapes c.args.children.now i)) at (ap (is_enumerable c.args.place) (sym is) ∙ sym (c.if-not-enumerable_at.ensures)))

pub any_enumerable-loop-child-preserved : goal.any_enumerable-loop-child-preserved
any_enumerable-loop-child-preserved g t c =
    let at : c.loop-child.child-index < length c.args.children.now = omega (arith, c.loop-child-test.true) in
    let is : shape c.child-item.result ≡ shapes c.args.children.now c.loop-child.child-index = ap shape c.child-item.is ∙ sym (shapes_at c.args.children.now c.loop-child.child-index c.child-item.result at) in
    let f = λ (i : ℕ). is_enumerable c.args.place (shapes c.args.children.now i) in
    any_more c.loop-child.child-index f ∙ ap (λ b. b || f c.loop-child.child-index) c.loop-child.invariant ∙ ap (is_enumerable c.args.place) (sym is) ∙ sym c.if-enumerable_at.ensures

pub all_enumerable-loop-child-preserved : goal.all_enumerable-loop-child-preserved
all_enumerable-loop-child-preserved g t c =
    let at : c.loop-child.child-index < length c.args.children.now = omega (arith, c.loop-child-test.true) in
    let is : shape c.child-item.result ≡ shapes c.args.children.now c.loop-child.child-index = ap shape c.child-item.is ∙ sym (shapes_at c.args.children.now c.loop-child.child-index c.child-item.result at) in
    let f = λ (i : ℕ). is_enumerable c.args.place (shapes c.args.children.now i) in
    all_more c.loop-child.child-index f ∙ ap (λ b. b && f c.loop-child.child-index) c.loop-child.invariant ∙ ap (is_enumerable c.args.place) (sym is) ∙ sym c.if-not-enumerable_at.ensures
