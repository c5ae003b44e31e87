-- The shape of a tree by its parts.
use Rattle.std.specs.Prelude.{◌≡◌, length}
use Rattle.std.proofs.Common.{ap, sym, ◌∙◌, Vec, Global}
use Rattle.std.proofs.lemmas.List.{length-map}
use Rattle.std.specs.declared.boxed.Box.{Box}
use Rattle.dw_nest.specs.declared.tree.Tree.{Tree}
use Rattle.dw_nest.specs.declared.tree.Tree.TheVariants.{rolls-Not, rolls-And, rolls-Or}
use Rattle.dw_nest.specs.declared.tree.Tree.TheViews.{Not, And, Or}
use Rattle.dw_nest.specs.declared.tree.Tree.TheFolds.{fold-roll-Tree}
use Rattle.dw_nest.specs.Shapes.{Shape, opposite, and, or, shape, shape_step, shapes}

module _ {L : Type 0} where
  pub shape_not : (child : Box (Tree L) Global) → shape (Not child) ≡ opposite (shape child.value)
  shape_not child = ap shape (sym (rolls-Not child)) ∙ fold-roll-Tree L (Shape L) shape_step _

  pub shape_and : (children : Vec (Tree L) Global) → shape (And children) ≡ and (length children.items) (shapes children.items)
  shape_and children = ap shape (sym (rolls-And children)) ∙ fold-roll-Tree L (Shape L) shape_step _ ∙ ap (λ n. and n (shapes children.items)) (length-map children.items shape)

  pub shape_or : (children : Vec (Tree L) Global) → shape (Or children) ≡ or (length children.items) (shapes children.items)
  shape_or children = ap shape (sym (rolls-Or children)) ∙ fold-roll-Tree L (Shape L) shape_step _ ∙ ap (λ n. or n (shapes children.items)) (length-map children.items shape)
