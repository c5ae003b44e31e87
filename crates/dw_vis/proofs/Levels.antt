-- What the sentences with mixed signs are read as, by their structure.
use Rattle.std.proofs.Common.{◌≡◌, ℕ, Bool, true, false, cond, List, Option, Some, None, refl, sym, ap, ◌∙◌}
use Rattle.std.specs.Prelude.{option_map, ◌&&◌, ◌||◌}
use Rattle.dw_vis.specs.declared.reading.Sign.{Sign}
use Rattle.dw_vis.specs.declared.reading.Sign.TheVariants.{All, Any}
use Rattle.dw_vis.specs.Trees.{Tree, Everyone, Term, And, Or, value, Trees, no_tree, tree_and, all_hold, some_holds, with_last}
use Rattle.dw_vis.specs.Grammar.{name_of, node}
use Rattle.dw_vis.specs.Mixing.{Mix, mix_alone, mix_joined, MixOne, mix_term, mix_group}
use Rattle.dw_vis.specs.Reading.{Meaning, is_same_sign, Level, start, joined, both, joined_worth, level_with}
use Rattle.dw_vis.specs.Sight.{seen_both, seen_by}

abbrev mutual
  pub mix_level : {V : Type 0} → Meaning V → Mix → Level V
  mix_level m (mix_alone o) = level_with m start (mix_one_worth m o)
  mix_level m (mix_joined x s o) = level_with m (joined (mix_level m x) s) (mix_one_worth m o)

  pub mix_one_worth : {V : Type 0} → Meaning V → MixOne → Option V
  mix_one_worth m (mix_term t) = Some (m.term (name_of t))
  mix_one_worth m (mix_group x) = (mix_level m x).worth

-- a tree with one more child behind a sign
abbrev pub further_tree : Sign → Tree → Tree → Tree
further_tree All Everyone u = And (tree_and Everyone (tree_and u no_tree))
further_tree All (Term n) u = And (tree_and (Term n) (tree_and u no_tree))
further_tree All (And ts) u = And (with_last ts u)
further_tree All (Or ts) u = And (tree_and (Or ts) (tree_and u no_tree))
further_tree Any Everyone u = Or (tree_and Everyone (tree_and u no_tree))
further_tree Any (Term n) u = Or (tree_and (Term n) (tree_and u no_tree))
further_tree Any (And ts) u = Or (tree_and (And ts) (tree_and u no_tree))
further_tree Any (Or ts) u = Or (with_last ts u)

abbrev pub two_tree : Sign → Tree → Tree → Tree
two_tree s t u = node s (tree_and t (tree_and u no_tree))

-- texts read as their trees
abbrev pub trees : Meaning Tree
trees = record { nothing = Everyone; term = Term; two = two_tree; further = further_tree }

-- trees hold as they are read
and_true : (a b : Bool) → (a && (b && true)) ≡ (a && b)
and_true true true = refl
and_true true false = refl
and_true false b = refl

or_false : (a b : Bool) → (a || (b || false)) ≡ (a || b)
or_false true b = refl
or_false false true = refl
or_false false false = refl

and_grouped : (a b c : Bool) → (a && (b && c)) ≡ ((a && b) && c)
and_grouped true b c = refl
and_grouped false b c = refl

or_grouped : (a b c : Bool) → (a || (b || c)) ≡ ((a || b) || c)
or_grouped true b c = refl
or_grouped false b c = refl

all_with : (ts : Trees) (u : Tree) (names : List (List ℕ)) → all_hold (with_last ts u) names ≡ (all_hold ts names && value u names)
all_with no_tree u names = and_one (value u names)
  where
    and_one : (b : Bool) → (b && true) ≡ b
    and_one true = refl
    and_one false = refl
all_with (tree_and t ts) u names = ap (λ b. value t names && b) (all_with ts u names) ∙ and_grouped (value t names) (all_hold ts names) (value u names)

some_with : (ts : Trees) (u : Tree) (names : List (List ℕ)) → some_holds (with_last ts u) names ≡ (some_holds ts names || value u names)
some_with no_tree u names = or_one (value u names)
  where
    or_one : (b : Bool) → (b || false) ≡ b
    or_one true = refl
    or_one false = refl
some_with (tree_and t ts) u names = ap (λ b. value t names || b) (some_with ts u names) ∙ or_grouped (value t names) (some_holds ts names) (value u names)

value-two : (s : Sign) (t u : Tree) (names : List (List ℕ)) → value (two_tree s t u) names ≡ seen_both s (value t names) (value u names)
value-two All t u names = and_true (value t names) (value u names)
value-two Any t u names = or_false (value t names) (value u names)

value-further : (s : Sign) (t u : Tree) (names : List (List ℕ)) → value (further_tree s t u) names ≡ seen_both s (value t names) (value u names)
value-further All Everyone u names = value-two All Everyone u names
value-further All (Term n) u names = value-two All (Term n) u names
value-further All (And ts) u names = all_with ts u names
value-further All (Or ts) u names = value-two All (Or ts) u names
value-further Any Everyone u names = value-two Any Everyone u names
value-further Any (Term n) u names = value-two Any (Term n) u names
value-further Any (And ts) u names = value-two Any (And ts) u names
value-further Any (Or ts) u names = some_with ts u names

abbrev pub seen_of : List (List ℕ) → Option Tree → Option Bool
seen_of names w = option_map (λ t. value t names) w

seen-both : (f : Tree → Tree → Tree) (g : Bool → Bool → Bool) (names : List (List ℕ)) (x y : Option Tree) → ((t u : Tree) → value (f t u) names ≡ g (value t names) (value u names)) → both g (seen_of names x) (seen_of names y) ≡ seen_of names (both f x y)
seen-both f g names None y h = refl
seen-both f g names (Some t) None h = refl
seen-both f g names (Some t) (Some u) h = ap Some (sym (h t u))

seen-joined : (r : Option Sign) (s : Sign) (names : List (List ℕ)) (x y : Option Tree) → joined_worth (seen_by names) r s (seen_of names x) (seen_of names y) ≡ seen_of names (joined_worth trees r s x y)
seen-joined None s names x y = seen-both (two_tree s) (seen_both s) names x y (λ t u. value-two s t u names)
seen-joined (Some r) s names x y = by_sign (is_same_sign r s)
  where
    by_sign : (p : Bool) → cond p (both (seen_both s) (seen_of names x) (seen_of names y)) None ≡ seen_of names (cond p (both (further_tree s) x y) None)
    by_sign true = seen-both (further_tree s) (seen_both s) names x y (λ t u. value-further s t u names)
    by_sign false = refl

-- a sentence is seen as its tree is
mutual
  seen-level : (x : Mix) (names : List (List ℕ)) → ((mix_level (seen_by names) x).sign ≡ (mix_level trees x).sign) × ((mix_level (seen_by names) x).worth ≡ seen_of names (mix_level trees x).worth)
  seen-level (mix_alone o) names = (refl, seen-one o names)
  seen-level (mix_joined x s o) names =
      let h = seen-level x names in (
        refl,
        ap (λ r. joined_worth (seen_by names) r s (mix_level (seen_by names) x).worth (mix_one_worth (seen_by names) o)) h.0
            ∙ ap (λ w. joined_worth (seen_by names) (mix_level trees x).sign s w (mix_one_worth (seen_by names) o)) h.1
            ∙ ap (λ w. joined_worth (seen_by names) (mix_level trees x).sign s (seen_of names (mix_level trees x).worth) w) (seen-one o names)
            ∙ seen-joined (mix_level trees x).sign s names (mix_level trees x).worth (mix_one_worth trees o),
      )

  seen-one : (o : MixOne) (names : List (List ℕ)) → mix_one_worth (seen_by names) o ≡ seen_of names (mix_one_worth trees o)
  seen-one (mix_term t) names = refl
  seen-one (mix_group x) names = (seen-level x names).1

pub seen-worth : (x : Mix) (names : List (List ℕ)) → (mix_level (seen_by names) x).worth ≡ seen_of names (mix_level trees x).worth
seen-worth x names = (seen-level x names).1
