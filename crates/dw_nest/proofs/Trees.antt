-- The shape of a tree by its parts, and the shape of a list of trees at each place.
use Rattle.std.proofs.Common.{ℕ, ◌≡◌, ◌≢◌, ◌<◌, List, length, refl, ap, sym, ◌∙◌, arith, slice_index_or, slice_set}
use Rattle.std.proofs.Common.{Vec, Global}
use Rattle.std.proofs.lemmas.List.{get_or-map, length-map, length-set, get_or-set_other, get_or-set_same, with_items_is}
use Rattle.std.specs.Vec.{with_items}
use Rattle.std.specs.declared.boxed.Box.{Box}
use Rattle.dw_nest.specs.declared.tree.Tree.{Tree}
use Rattle.dw_nest.specs.declared.tree.Tree.TheViews.{Not, And, Or}
use Rattle.dw_nest.specs.Shapes.{unknown, opposite, and, or, shape, shapes}
use Rattle.dw_nest.specs.Parts.{shape_not, shape_and, shape_or}

module _ {L : Type 0} where
  pub shapes_at : (children : List (Tree L)) (i : ℕ) (x : Tree L) → i < length children → shapes children i ≡ shape (slice_index_or children i x)
  shapes_at children i x h = get_or-map shape children i x unknown h

  -- a list of trees with another at one place
  pub shapes_set : (children : List (Tree L)) (i : ℕ) (new : Tree L) → i < length children → shapes (slice_set children i new) i ≡ shape new
  shapes_set children i new h =
      let long : i < length (slice_set children i new) = omega (arith, length-set children i new) in
      shapes_at (slice_set children i new) i new long ∙ ap shape (get_or-set_same children i new new h)

  pub shapes_other : (children : List (Tree L)) (i j : ℕ) (new : Tree L) → j < length children → j ≢ i → shapes (slice_set children i new) j ≡ shapes children j
  shapes_other children i j new h n =
      let long : j < length (slice_set children i new) = omega (arith, length-set children i new) in
      shapes_at (slice_set children i new) j new long ∙ ap shape (get_or-set_other children i j new new n) ∙ sym (shapes_at children j new h)

  -- the shape of a tree that is taken apart
  pub whole_not : (self : Tree L) (child : Box (Tree L) Global) (part : Tree L) → Not child ≡ self → part ≡ child.value → shape self ≡ opposite (shape part)
  whole_not self child part e p = ap shape (sym e) ∙ shape_not child ∙ ap (λ c. opposite (shape c)) (sym p)

  pub whole_and : (self : Tree L) (children : Vec (Tree L) Global) (parts : List (Tree L)) → And children ≡ self → parts ≡ children.items → shape self ≡ and (length parts) (shapes parts)
  whole_and self children parts e p = ap shape (sym e) ∙ shape_and children ∙ ap (λ c. and (length c) (shapes c)) (sym p)

  pub whole_or : (self : Tree L) (children : Vec (Tree L) Global) (parts : List (Tree L)) → Or children ≡ self → parts ≡ children.items → shape self ≡ or (length parts) (shapes parts)
  whole_or self children parts e p = ap shape (sym e) ∙ shape_or children ∙ ap (λ c. or (length c) (shapes c)) (sym p)

  -- and of one that is put together again
  pub back_and : (children : Vec (Tree L) Global) (parts : List (Tree L)) → length parts ≡ children.len → shape (And (with_items children parts)) ≡ and (length parts) (shapes parts)
  back_and children parts long = whole_and _ (with_items children parts) parts refl (sym (with_items_is children parts long))

  pub back_or : (children : Vec (Tree L) Global) (parts : List (Tree L)) → length parts ≡ children.len → shape (Or (with_items children parts)) ≡ or (length parts) (shapes parts)
  back_or children parts long = whole_or _ (with_items children parts) parts refl (sym (with_items_is children parts long))
