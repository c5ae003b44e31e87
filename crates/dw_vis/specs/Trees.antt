-- What a visibility asks for, and whom it is seen by.
use Rattle.std.specs.Prelude.{ℕ, Bool, true, false, ◌&&◌, ◌||◌, List}
use Rattle.dw_vis.specs.Names.{has}

mutual
  pub data Tree : Type 0 where
    -- what everyone sees
    Everyone : Tree
    -- what those see who have the name
    Term : List ℕ → Tree
    And : Trees → Tree
    Or : Trees → Tree

  pub data Trees : Type 0 where
    no_tree : Trees
    tree_and : Tree → Trees → Trees

-- whether one who has these names sees it
abbrev mutual
  pub value : Tree → List (List ℕ) → Bool
  value Everyone names = true
  value (Term name) names = has names name
  value (And ts) names = all_hold ts names
  value (Or ts) names = some_holds ts names

  pub all_hold : Trees → List (List ℕ) → Bool
  all_hold no_tree names = true
  all_hold (tree_and t ts) names = value t names && all_hold ts names

  pub some_holds : Trees → List (List ℕ) → Bool
  some_holds no_tree names = false
  some_holds (tree_and t ts) names = value t names || some_holds ts names

-- trees with one more behind them
abbrev pub with_last : Trees → Tree → Trees
with_last no_tree u = tree_and u no_tree
with_last (tree_and t ts) u = tree_and t (with_last ts u)
