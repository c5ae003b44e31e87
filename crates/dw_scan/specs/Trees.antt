-- The tree of a bound query.
use Rattle.std.specs.Prelude.{ℕ, Bool, ◌&&◌, cond, List, length, slice_index_or, nat_eq}
use Rattle.std.specs.List.{starts_with, ends_with}
use Rattle.dw_dict.specs.declared.rule.FieldRule.{FieldRule}
use Rattle.dw_event.specs.Texts.{is_same}
use Rattle.dw_nest.specs.Shapes.{Shape, leaf, unknown, opposite, and, or}
use Rattle.dw_eval.specs.declared.nquery.NQuery.{NQuery}
use Rattle.dw_eval.specs.declared.nquery.NQuery.TheOpen.{NQuery-F, Equal, Below, Above, Between, Starts, Ends, Holds, Not, And, Or}
use Rattle.dw_eval.specs.declared.nquery.NQuery.TheFolds.{fold-NQuery}
use Rattle.dw_eval.specs.Leaves.{is_below, is_above, holds}

-- with what is made of the field and the test of each leaf
module _ {X : Type 0} (make : List ℕ → (List ℕ → Bool) → X) where
  -- a leaf where the field is indexed; else nothing is known
  abbrev pub leaf_of : FieldRule → List ℕ → (List ℕ → Bool) → Shape X
  leaf_of rule field test = cond rule.indexed (leaf (make field test)) unknown

  abbrev pub tree_step : NQuery-F (Shape X) → Shape X
  tree_step (Equal field rule value) = leaf_of rule field (λ form. is_same form value)
  tree_step (Below field rule value edge) = leaf_of rule field (λ form. is_below form value edge)
  tree_step (Above field rule value edge) = leaf_of rule field (λ form. is_above form value edge)
  tree_step (Between field rule low low_edge high high_edge) = leaf_of rule field (λ form. is_above form low low_edge && is_below form high high_edge)
  tree_step (Starts field rule text) = leaf_of rule field (λ form. starts_with nat_eq form text)
  tree_step (Ends field rule text) = leaf_of rule field (λ form. ends_with nat_eq form text)
  tree_step (Holds field rule text) = leaf_of rule field (λ form. holds form text)
  tree_step (Not child) = opposite child
  tree_step (And children) = and (length children) (λ i. slice_index_or children i unknown)
  tree_step (Or children) = or (length children) (λ i. slice_index_or children i unknown)

  -- the tree of a query, leaf by leaf
  abbrev pub tree_of : NQuery → Shape X
  tree_of = fold-NQuery (Shape X) tree_step
