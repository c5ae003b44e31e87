-- The value of a query's tree at a key: what the indexes know of an event's values, or nothing where no leaf has the key.
use Rattle.std.proofs.Common.{◌≡◌, ℕ, Bool, true, false, not, cond, ◌&&◌, List, [], ◌∷◌, map, refl, ap, sym, subst, ◌∙◌, inl, inr}
use Rattle.std.specs.Prelude.{nat_eq}
use Rattle.std.specs.List.{list_all, list_any, starts_with, ends_with}
use Rattle.std.proofs.lemmas.Bool.{and_parts, or_cases}
use Rattle.dw_key.specs.declared.doc_key.DocKey.{DocKey}
use Rattle.dw_dict.specs.declared.rule.FieldRule.{FieldRule}
use Rattle.dw_event.specs.Texts.{is_same}
use Rattle.dw_nest.specs.Bounds.{has}
use Rattle.dw_nest.specs.Kleene.{swapped, least_of_two, most_of_two}
use Rattle.dw_nest.specs.declared.truth.Truth.{Truth}
use Rattle.dw_nest.specs.declared.truth.Truth.TheVariants.{No, Unknown, Yes}
use Rattle.dw_nest.specs.Shapes.{Shape, leaf, unknown, value}
use Rattle.dw_eval.specs.declared.nview.Formed.{Formed}
use Rattle.dw_eval.specs.declared.nquery.NQuery.{NQuery, map-NQuery}
use Rattle.dw_eval.specs.declared.nquery.NQuery.TheOpen.{NQuery-F}
use Rattle.dw_eval.specs.declared.nquery.NQuery.TheOpen as layer
use Rattle.dw_eval.specs.declared.nquery.NQuery.TheViews.{roll-NQuery}
use Rattle.dw_eval.specs.declared.nquery.NQuery.TheFolds.{fold-roll-NQuery, ind-NQuery}
use Rattle.dw_eval.specs.Kleene.{kleene, kleene_step, known, known_where, truth_of, least, greatest}
use Rattle.dw_eval.specs.Leaves.{is_below, is_above, holds, some_value}
use Rattle.dw_plan.specs.Anchored.{anchored_at, anchored_step}
use Rattle.dw_scan.specs.Trees.{leaf_of, tree_step, tree_of}
use Rattle.dw_scan.proofs.Rows.{least_at, most_at}
use Rattle.dw_scan.proofs.Enumerated.{anchored_of, tree_is}

yes_or_no : (b : Bool) → cond b Yes No ≡ truth_of b
yes_or_no true = refl
yes_or_no false = refl

module _ (lists : List ℕ → (List ℕ → Bool) → List DocKey) (key : DocKey) where
  abbrev at_key : Shape (List DocKey) → Truth
  at_key s = value s key

  -- ---- each leaf has the key where the values meet it

  module _ (view : List Formed) (met : (field : List ℕ) (test : List ℕ → Bool) → has (lists field test) key ≡ some_value view field test) where
    abbrev IsKleene : NQuery → Type 0
    IsKleene q = value (tree_of lists q) key ≡ kleene view q

    abbrev Child : Type 0
    Child = (q : NQuery) × IsKleene q

    abbrev those : List Child → List NQuery
    those es = map (λ e. e.0) es

    kleene_of : (y : NQuery-F NQuery) → kleene view (roll-NQuery y) ≡ kleene_step view (map-NQuery NQuery Truth (kleene view) y)
    kleene_of y = fold-roll-NQuery Truth (kleene_step view) y

    leaf_value : (field : List ℕ) (test : List ℕ → Bool) (indexed : Bool) → value (cond indexed (leaf (lists field test)) unknown) key ≡ known_where indexed (some_value view field test)
    leaf_value field test true = ap (λ b. cond b Yes No) (met field test) ∙ yes_or_no (some_value view field test)
    leaf_value field test false = refl

    at_leaf : (y : NQuery-F NQuery) (rule : FieldRule) (field : List ℕ) (test : List ℕ → Bool)
        → tree_step lists (map-NQuery NQuery (Shape (List DocKey)) (tree_of lists) y) ≡ leaf_of lists rule field test
        → kleene_step view (map-NQuery NQuery Truth (kleene view) y) ≡ known rule (some_value view field test) → IsKleene (roll-NQuery y)
    at_leaf y rule field test t k = ap at_key (tree_is lists y ∙ t) ∙ leaf_value field test rule.indexed ∙ sym (kleene_of y ∙ k)

    children_same : (es : List Child) → map at_key (map (tree_of lists) (those es)) ≡ map (kleene view) (those es)
    children_same [] = refl
    children_same (e ∷ es) = ap (λ t. t ∷ map at_key (map (tree_of lists) (those es))) e.1 ∙ ap (λ ts. kleene view e.0 ∷ ts) (children_same es)

    layer_kleene : (y : NQuery-F Child) → IsKleene (roll-NQuery (map-NQuery Child NQuery (λ e. e.0) y))
    layer_kleene (layer.Equal f r v) = at_leaf (layer.Equal f r v) r f (λ form. is_same form v) refl refl
    layer_kleene (layer.Below f r v e) = at_leaf (layer.Below f r v e) r f (λ form. is_below form v e) refl refl
    layer_kleene (layer.Above f r v e) = at_leaf (layer.Above f r v e) r f (λ form. is_above form v e) refl refl
    layer_kleene (layer.Between f r l e h g) = at_leaf (layer.Between f r l e h g) r f (λ form. is_above form l e && is_below form h g) refl refl
    layer_kleene (layer.Starts f r t) = at_leaf (layer.Starts f r t) r f (λ form. starts_with nat_eq form t) refl refl
    layer_kleene (layer.Ends f r t) = at_leaf (layer.Ends f r t) r f (λ form. ends_with nat_eq form t) refl refl
    layer_kleene (layer.Holds f r t) = at_leaf (layer.Holds f r t) r f (λ form. holds form t) refl refl
    layer_kleene (layer.Not e) = ap at_key (tree_is lists (layer.Not e.0)) ∙ ap swapped e.1 ∙ sym (kleene_of (layer.Not e.0))
    layer_kleene (layer.And es) =
        ap at_key (tree_is lists (layer.And (those es))) ∙ least_at at_key (map (tree_of lists) (those es)) ∙ ap least (children_same es) ∙ sym (kleene_of (layer.And (those es)))
    layer_kleene (layer.Or es) =
        ap at_key (tree_is lists (layer.Or (those es))) ∙ most_at at_key (map (tree_of lists) (those es)) ∙ ap greatest (children_same es) ∙ sym (kleene_of (layer.Or (those es)))

    pub value_is_kleene : (q : NQuery) → value (tree_of lists q) key ≡ kleene view q
    value_is_kleene = ind-NQuery IsKleene (λ x y is. subst (λ z. IsKleene (roll-NQuery z)) is (layer_kleene y))

  -- ---- no leaf has the key

  module _ (off : (field : List ℕ) (test : List ℕ → Bool) → has (lists field test) key ≡ false) where
    abbrev IsOff : NQuery → Type 0
    IsOff q = (place : Bool) → anchored_at q place ≡ true → value (tree_of lists q) key ≡ truth_of (not place)

    abbrev Part : Type 0
    Part = (q : NQuery) × IsOff q

    abbrev parts : List Part → List NQuery
    parts es = map (λ e. e.0) es

    abbrev values : List Part → List Truth
    values es = map at_key (map (tree_of lists) (parts es))

    least_no : (a : Truth) → least_of_two a No ≡ No
    least_no No = refl
    least_no Unknown = refl
    least_no Yes = refl

    most_yes : (a : Truth) → most_of_two a Yes ≡ Yes
    most_yes No = refl
    most_yes Unknown = refl
    most_yes Yes = refl

    some_no : (es : List Part) → list_any (λ c. c true) (map anchored_at (parts es)) ≡ true → least (values es) ≡ No
    some_no [] h = absurd (cc)
    some_no (e ∷ es) h = elim (or_cases (anchored_at e.0 true) (list_any (λ c. c true) (map anchored_at (parts es))) h) [
      | inl a ↦ ap (λ t. least_of_two t (least (values es))) (e.1 true a)
      | inr b ↦ ap (λ t. least_of_two (value (tree_of lists e.0) key) t) (some_no es b) ∙ least_no (value (tree_of lists e.0) key)
    ]

    all_yes : (es : List Part) → list_all (λ c. c false) (map anchored_at (parts es)) ≡ true → least (values es) ≡ Yes
    all_yes [] h = refl
    all_yes (e ∷ es) h =
        let p = and_parts (anchored_at e.0 false) (list_all (λ c. c false) (map anchored_at (parts es))) h in
        ap (λ t. least_of_two t (least (values es))) (e.1 false p.0) ∙ all_yes es p.1

    all_no : (es : List Part) → list_all (λ c. c true) (map anchored_at (parts es)) ≡ true → greatest (values es) ≡ No
    all_no [] h = refl
    all_no (e ∷ es) h =
        let p = and_parts (anchored_at e.0 true) (list_all (λ c. c true) (map anchored_at (parts es))) h in
        ap (λ t. most_of_two t (greatest (values es))) (e.1 true p.0) ∙ all_no es p.1

    some_yes : (es : List Part) → list_any (λ c. c false) (map anchored_at (parts es)) ≡ true → greatest (values es) ≡ Yes
    some_yes [] h = absurd (cc)
    some_yes (e ∷ es) h = elim (or_cases (anchored_at e.0 false) (list_any (λ c. c false) (map anchored_at (parts es))) h) [
      | inl a ↦ ap (λ t. most_of_two t (greatest (values es))) (e.1 false a)
      | inr b ↦ ap (λ t. most_of_two (value (tree_of lists e.0) key) t) (some_yes es b) ∙ most_yes (value (tree_of lists e.0) key)
    ]

    off_leaf : (y : NQuery-F NQuery) (rule : FieldRule) (field : List ℕ) (test : List ℕ → Bool) (flag : Bool)
        → tree_step lists (map-NQuery NQuery (Shape (List DocKey)) (tree_of lists) y) ≡ leaf_of lists rule field test
        → ((place : Bool) → anchored_step (map-NQuery NQuery (Bool → Bool) anchored_at y) place ≡ (place && flag)) → (flag ≡ true → rule.indexed ≡ true) → IsOff (roll-NQuery y)
    off_leaf y rule field test flag t a i true h =
        ap at_key (tree_is lists y ∙ t)
        ∙ ap (λ b. value (cond b (leaf (lists field test)) unknown) key) (i (sym (a true) ∙ sym (anchored_of y true) ∙ h))
        ∙ ap (λ b. cond b Yes No) (off field test)
    off_leaf y rule field test flag t a i false h = let f : false ≡ true = sym (a false) ∙ sym (anchored_of y false) ∙ h in absurd (cc)

    no_anchor : (y : NQuery-F NQuery) → ((place : Bool) → anchored_step (map-NQuery NQuery (Bool → Bool) anchored_at y) place ≡ false) → IsOff (roll-NQuery y)
    no_anchor y a place h = let f : false ≡ true = sym (a place) ∙ sym (anchored_of y place) ∙ h in absurd (cc)

    layer_off : (y : NQuery-F Part) → IsOff (roll-NQuery (map-NQuery Part NQuery (λ e. e.0) y))
    layer_off (layer.Equal f r v) = off_leaf (layer.Equal f r v) r f (λ form. is_same form v) r.indexed refl (λ p. refl) (λ e. e)
    layer_off (layer.Below f r v e) = no_anchor (layer.Below f r v e) (λ p. refl)
    layer_off (layer.Above f r v e) = no_anchor (layer.Above f r v e) (λ p. refl)
    layer_off (layer.Between f r l e h g) = off_leaf (layer.Between f r l e h g) r f (λ form. is_above form l e && is_below form h g) r.indexed refl (λ p. refl) (λ e. e)
    layer_off (layer.Starts f r t) = off_leaf (layer.Starts f r t) r f (λ form. starts_with nat_eq form t) r.indexed refl (λ p. refl) (λ e. e)
    layer_off (layer.Ends f r t) = off_leaf (layer.Ends f r t) r f (λ form. ends_with nat_eq form t) r.reversed refl (λ p. refl) r.ruled
    layer_off (layer.Holds f r t) = no_anchor (layer.Holds f r t) (λ p. refl)
    layer_off (layer.Not e) = at
      where
        at : IsOff (roll-NQuery (layer.Not e.0))
        at true h = ap at_key (tree_is lists (layer.Not e.0)) ∙ ap swapped (e.1 false (sym (anchored_of (layer.Not e.0) true) ∙ h))
        at false h = ap at_key (tree_is lists (layer.Not e.0)) ∙ ap swapped (e.1 true (sym (anchored_of (layer.Not e.0) false) ∙ h))
    layer_off (layer.And es) = at
      where
        at : IsOff (roll-NQuery (layer.And (parts es)))
        at true h = ap at_key (tree_is lists (layer.And (parts es))) ∙ least_at at_key (map (tree_of lists) (parts es)) ∙ some_no es (sym (anchored_of (layer.And (parts es)) true) ∙ h)
        at false h = ap at_key (tree_is lists (layer.And (parts es))) ∙ least_at at_key (map (tree_of lists) (parts es)) ∙ all_yes es (sym (anchored_of (layer.And (parts es)) false) ∙ h)
    layer_off (layer.Or es) = at
      where
        at : IsOff (roll-NQuery (layer.Or (parts es)))
        at true h = ap at_key (tree_is lists (layer.Or (parts es))) ∙ most_at at_key (map (tree_of lists) (parts es)) ∙ all_no es (sym (anchored_of (layer.Or (parts es)) true) ∙ h)
        at false h = ap at_key (tree_is lists (layer.Or (parts es))) ∙ most_at at_key (map (tree_of lists) (parts es)) ∙ some_yes es (sym (anchored_of (layer.Or (parts es)) false) ∙ h)

    query_off : (q : NQuery) → IsOff q
    query_off = ind-NQuery IsOff (λ x y is. subst (λ z. IsOff (roll-NQuery z)) is (layer_off y))

    pub value_is_no : (q : NQuery) → anchored_at q true ≡ true → value (tree_of lists q) key ≡ No
    value_is_no q h = query_off q true h
