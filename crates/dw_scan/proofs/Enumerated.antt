-- The tree of an anchored query can be enumerated.
use Rattle.std.proofs.Common.{◌≡◌, ℕ, Bool, true, false, cond, ◌&&◌, ◌||◌, List, [], ◌∷◌, map, refl, ap, sym, subst, ◌∙◌, inl, inr}
use Rattle.std.specs.Prelude.{nat_eq}
use Rattle.std.specs.List.{list_all, list_any, starts_with, ends_with}
use Rattle.std.proofs.lemmas.Bool.{and_parts, and_from, or_cases}
use Rattle.dw_dict.specs.declared.rule.FieldRule.{FieldRule}
use Rattle.dw_event.specs.Texts.{is_same}
use Rattle.dw_nest.specs.declared.place.Place.{Place}
use Rattle.dw_nest.specs.declared.place.Place.TheVariants.{Positive, Negative}
use Rattle.dw_nest.specs.Shapes.{Shape, leaf, unknown, is_enumerable}
use Rattle.dw_eval.specs.declared.nquery.NQuery.{NQuery, map-NQuery}
use Rattle.dw_eval.specs.declared.nquery.NQuery.TheOpen.{NQuery-F}
use Rattle.dw_eval.specs.declared.nquery.NQuery.TheOpen as layer
use Rattle.dw_eval.specs.declared.nquery.NQuery.TheViews.{roll-NQuery}
use Rattle.dw_eval.specs.declared.nquery.NQuery.TheFolds.{fold-roll-NQuery, ind-NQuery}
use Rattle.dw_eval.specs.Leaves.{is_below, is_above}
use Rattle.dw_plan.specs.Anchored.{anchored_at, anchored_step}
use Rattle.dw_scan.specs.Trees.{leaf_of, tree_step, tree_of}
use Rattle.dw_scan.proofs.Rows.{any_at, all_at}

-- a place as a tree has it
abbrev place_at : Bool → Place
place_at true = Positive
place_at false = Negative

or_left : (a b : Bool) → a ≡ true → (a || b) ≡ true
or_left true b e = refl
or_left false b e = absurd (cc)

or_right : (a b : Bool) → b ≡ true → (a || b) ≡ true
or_right true b e = refl
or_right false b e = e

pub anchored_of : (y : NQuery-F NQuery) (place : Bool) → anchored_at (roll-NQuery y) place ≡ anchored_step (map-NQuery NQuery (Bool → Bool) anchored_at y) place
anchored_of y place = ap (λ f. f place) (fold-roll-NQuery (Bool → Bool) anchored_step y)

module _ {X : Type 0} (make : List ℕ → (List ℕ → Bool) → X) where
  pub tree_is : (y : NQuery-F NQuery) → tree_of make (roll-NQuery y) ≡ tree_step make (map-NQuery NQuery (Shape X) (tree_of make) y)
  tree_is y = fold-roll-NQuery (Shape X) (tree_step make) y

  abbrev IsListed : NQuery → Type 0
  IsListed q = (place : Bool) → anchored_at q place ≡ true → is_enumerable (place_at place) (tree_of make q) ≡ true

  abbrev Child : Type 0
  Child = (q : NQuery) × IsListed q

  abbrev those : List Child → List NQuery
  those es = map (λ e. e.0) es

  any_listed : (place : Bool) (es : List Child) → list_any (λ c. c place) (map anchored_at (those es)) ≡ true → list_any (λ s. is_enumerable (place_at place) s) (map (tree_of make) (those es)) ≡ true
  any_listed place [] h = absurd (cc)
  any_listed place (e ∷ es) h = elim (or_cases (anchored_at e.0 place) (list_any (λ c. c place) (map anchored_at (those es))) h) [
    | inl a ↦ or_left (is_enumerable (place_at place) (tree_of make e.0)) (list_any (λ s. is_enumerable (place_at place) s) (map (tree_of make) (those es))) (e.1 place a)
    | inr b ↦ or_right (is_enumerable (place_at place) (tree_of make e.0)) (list_any (λ s. is_enumerable (place_at place) s) (map (tree_of make) (those es))) (any_listed place es b)
  ]

  all_listed : (place : Bool) (es : List Child) → list_all (λ c. c place) (map anchored_at (those es)) ≡ true → list_all (λ s. is_enumerable (place_at place) s) (map (tree_of make) (those es)) ≡ true
  all_listed place [] h = refl
  all_listed place (e ∷ es) h =
      let p = and_parts (anchored_at e.0 place) (list_all (λ c. c place) (map anchored_at (those es))) h in
      and_from (is_enumerable (place_at place) (tree_of make e.0)) (list_all (λ s. is_enumerable (place_at place) s) (map (tree_of make) (those es))) (e.1 place p.0) (all_listed place es p.1)

  -- a leaf that is anchored where a flag says so, which says that its field is indexed
  at_leaf : (y : NQuery-F NQuery) (rule : FieldRule) (field : List ℕ) (test : List ℕ → Bool) (flag : Bool)
      → tree_step make (map-NQuery NQuery (Shape X) (tree_of make) y) ≡ leaf_of make rule field test
      → ((place : Bool) → anchored_step (map-NQuery NQuery (Bool → Bool) anchored_at y) place ≡ (place && flag)) → (flag ≡ true → rule.indexed ≡ true) → IsListed (roll-NQuery y)
  at_leaf y rule field test flag t a i true h =
      ap (is_enumerable Positive) (tree_is y ∙ t)
      ∙ ap (λ b. is_enumerable Positive (cond b (leaf (make field test)) unknown)) (i (sym (a true) ∙ sym (anchored_of y true) ∙ h))
  at_leaf y rule field test flag t a i false h = let f : false ≡ true = sym (a false) ∙ sym (anchored_of y false) ∙ h in absurd (cc)

  no_leaf : (y : NQuery-F NQuery) → ((place : Bool) → anchored_step (map-NQuery NQuery (Bool → Bool) anchored_at y) place ≡ false) → IsListed (roll-NQuery y)
  no_leaf y a place h = let f : false ≡ true = sym (a place) ∙ sym (anchored_of y place) ∙ h in absurd (cc)

  layer_listed : (y : NQuery-F Child) → IsListed (roll-NQuery (map-NQuery Child NQuery (λ e. e.0) y))
  layer_listed (layer.Equal f r v) = at_leaf (layer.Equal f r v) r f (λ form. is_same form v) r.indexed refl (λ p. refl) (λ e. e)
  layer_listed (layer.Below f r v e) = no_leaf (layer.Below f r v e) (λ p. refl)
  layer_listed (layer.Above f r v e) = no_leaf (layer.Above f r v e) (λ p. refl)
  layer_listed (layer.Between f r l e h g) = at_leaf (layer.Between f r l e h g) r f (λ form. is_above form l e && is_below form h g) r.indexed refl (λ p. refl) (λ e. e)
  layer_listed (layer.Starts f r t) = at_leaf (layer.Starts f r t) r f (λ form. starts_with nat_eq form t) r.indexed refl (λ p. refl) (λ e. e)
  layer_listed (layer.Ends f r t) = at_leaf (layer.Ends f r t) r f (λ form. ends_with nat_eq form t) r.reversed refl (λ p. refl) r.ruled
  layer_listed (layer.Holds f r t) = no_leaf (layer.Holds f r t) (λ p. refl)
  layer_listed (layer.Not e) = at
    where
      at : IsListed (roll-NQuery (layer.Not e.0))
      at true h = ap (is_enumerable Positive) (tree_is (layer.Not e.0)) ∙ e.1 false (sym (anchored_of (layer.Not e.0) true) ∙ h)
      at false h = ap (is_enumerable Negative) (tree_is (layer.Not e.0)) ∙ e.1 true (sym (anchored_of (layer.Not e.0) false) ∙ h)
  layer_listed (layer.And es) = at
    where
      at : IsListed (roll-NQuery (layer.And (those es)))
      at true h =
          ap (is_enumerable Positive) (tree_is (layer.And (those es))) ∙ any_at (λ s. is_enumerable Positive s) (map (tree_of make) (those es))
          ∙ any_listed true es (sym (anchored_of (layer.And (those es)) true) ∙ h)
      at false h =
          ap (is_enumerable Negative) (tree_is (layer.And (those es))) ∙ all_at (λ s. is_enumerable Negative s) (map (tree_of make) (those es))
          ∙ all_listed false es (sym (anchored_of (layer.And (those es)) false) ∙ h)
  layer_listed (layer.Or es) = at
    where
      at : IsListed (roll-NQuery (layer.Or (those es)))
      at true h =
          ap (is_enumerable Positive) (tree_is (layer.Or (those es))) ∙ all_at (λ s. is_enumerable Positive s) (map (tree_of make) (those es))
          ∙ all_listed true es (sym (anchored_of (layer.Or (those es)) true) ∙ h)
      at false h =
          ap (is_enumerable Negative) (tree_is (layer.Or (those es))) ∙ any_at (λ s. is_enumerable Negative s) (map (tree_of make) (those es))
          ∙ any_listed false es (sym (anchored_of (layer.Or (those es)) false) ∙ h)

  query_listed : (q : NQuery) → IsListed q
  query_listed = ind-NQuery IsListed (λ x y is. subst (λ z. IsListed (roll-NQuery z)) is (layer_listed y))

  pub anchored_listed : (q : NQuery) → anchored_at q true ≡ true → is_enumerable Positive (tree_of make q) ≡ true
  anchored_listed q h = query_listed q true h
