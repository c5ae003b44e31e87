-- The laws of bound queries.
use Rattle.std.proofs.Common.{◌≡◌, Bool, true, false, not, ◌&&◌, ◌||◌, List, [], ◌∷◌, map, refl, ap, sym, subst, ◌∙◌}
use denote.Hole.Carrier.{roll}
use Rattle.std.specs.List.{list_all, list_any}
use Rattle.std.proofs.lemmas.Bool.{and_parts}
use Rattle.dw_dict.specs.declared.rule.FieldRule.{FieldRule}
use Rattle.dw_nest.specs.Kleene.{swapped, least_of_two, most_of_two}
use Rattle.dw_nest.specs.declared.truth.Truth.{Truth}
use Rattle.dw_eval.specs.declared.nview.Formed.{Formed}
use Rattle.dw_eval.specs.declared.nquery.NQuery.{NQuery, map-NQuery}
use Rattle.dw_eval.specs.declared.nquery.NQuery.TheVariants as nquery
use Rattle.dw_eval.specs.declared.nquery.NQuery.TheOpen.{NQuery-F}
use Rattle.dw_eval.specs.declared.nquery.NQuery.TheOpen as layer
use Rattle.dw_eval.specs.declared.nquery.NQuery.TheViews.{roll-NQuery}
use Rattle.dw_eval.specs.declared.nquery.NQuery.TheFolds.{fold-roll-NQuery, ind-NQuery}
use Rattle.dw_eval.specs.Leaves.{some_equal, some_below, some_above, some_between, some_starts, some_ends, some_holds}
use Rattle.dw_eval.specs.Sat.{sat, sat_step}
use Rattle.dw_eval.specs.Kleene.{kleene, kleene_step, known, known_where, truth_of, least, greatest}
use Rattle.dw_eval.specs.Laws.{is_indexed, indexed_step, DeMorgan, IndexesKnow}

module _ (view : List Formed) where
  not_sat : (q : NQuery) → sat view (nquery.Not q) ≡ not (sat view q)
  unfolding roll-NQuery roll
  not_sat q = fold-roll-NQuery Bool (sat_step view) (layer.Not q)

  and_sat : (qs : List NQuery) → sat view (nquery.And qs) ≡ list_all (λ b. b) (map (sat view) qs)
  unfolding roll-NQuery roll
  and_sat qs = fold-roll-NQuery Bool (sat_step view) (layer.And qs)

  or_sat : (qs : List NQuery) → sat view (nquery.Or qs) ≡ list_any (λ b. b) (map (sat view) qs)
  unfolding roll-NQuery roll
  or_sat qs = fold-roll-NQuery Bool (sat_step view) (layer.Or qs)

  or_inward : (a b : Bool) → not (a && b) ≡ (not a || not b)
  or_inward true b = refl
  or_inward false b = refl

  and_inward : (a b : Bool) → not (a || b) ≡ (not a && not b)
  and_inward true b = refl
  and_inward false b = refl

  any_not : (qs : List NQuery) → not (list_all (λ b. b) (map (sat view) qs)) ≡ list_any (λ b. b) (map (sat view) (map nquery.Not qs))
  any_not [] = refl
  any_not (q ∷ qs) =
      or_inward (sat view q) (list_all (λ b. b) (map (sat view) qs))
      ∙ ap (λ b. not (sat view q) || b) (any_not qs)
      ∙ ap (λ b. b || list_any (λ b. b) (map (sat view) (map nquery.Not qs))) (sym (not_sat q))

  all_not : (qs : List NQuery) → not (list_any (λ b. b) (map (sat view) qs)) ≡ list_all (λ b. b) (map (sat view) (map nquery.Not qs))
  all_not [] = refl
  all_not (q ∷ qs) =
      and_inward (sat view q) (list_any (λ b. b) (map (sat view) qs))
      ∙ ap (λ b. not (sat view q) && b) (all_not qs)
      ∙ ap (λ b. b && list_all (λ b. b) (map (sat view) (map nquery.Not qs))) (sym (not_sat q))

  -- ---- where each leaf is indexed

  abbrev IsKnown : NQuery → Type 0
  IsKnown q = is_indexed q ≡ true → kleene view q ≡ truth_of (sat view q)

  abbrev Child : Type 0
  Child = (q : NQuery) × IsKnown q

  abbrev those : List Child → List NQuery
  those es = map (λ e. e.0) es

  leaf_known : (q : NQuery) (rule : FieldRule) (met : Bool) → kleene view q ≡ known rule met → sat view q ≡ met → is_indexed q ≡ rule.indexed → IsKnown q
  leaf_known q rule met k s i m = k ∙ ap (λ b. known_where b met) (sym i ∙ m) ∙ sym (ap truth_of s)

  swapped_truth : (b : Bool) → swapped (truth_of b) ≡ truth_of (not b)
  swapped_truth true = refl
  swapped_truth false = refl

  least_truth : (a b : Bool) → least_of_two (truth_of a) (truth_of b) ≡ truth_of (a && b)
  least_truth true b = refl
  least_truth false b = refl

  most_truth : (a b : Bool) → most_of_two (truth_of a) (truth_of b) ≡ truth_of (a || b)
  most_truth true b = refl
  most_truth false b = refl

  all_known : (es : List Child) → list_all (λ b. b) (map is_indexed (those es)) ≡ true → least (map (kleene view) (those es)) ≡ truth_of (list_all (λ b. b) (map (sat view) (those es)))
  all_known [] m = refl
  all_known (e ∷ es) m =
      let p = and_parts (is_indexed e.0) (list_all (λ b. b) (map is_indexed (those es))) m in
      ap (λ t. least_of_two t (least (map (kleene view) (those es)))) (e.1 p.0)
      ∙ ap (λ t. least_of_two (truth_of (sat view e.0)) t) (all_known es p.1)
      ∙ least_truth (sat view e.0) (list_all (λ b. b) (map (sat view) (those es)))

  any_known : (es : List Child) → list_all (λ b. b) (map is_indexed (those es)) ≡ true → greatest (map (kleene view) (those es)) ≡ truth_of (list_any (λ b. b) (map (sat view) (those es)))
  any_known [] m = refl
  any_known (e ∷ es) m =
      let p = and_parts (is_indexed e.0) (list_all (λ b. b) (map is_indexed (those es))) m in
      ap (λ t. most_of_two t (greatest (map (kleene view) (those es)))) (e.1 p.0)
      ∙ ap (λ t. most_of_two (truth_of (sat view e.0)) t) (any_known es p.1)
      ∙ most_truth (sat view e.0) (list_any (λ b. b) (map (sat view) (those es)))

  kleene_of : (y : NQuery-F NQuery) → kleene view (roll-NQuery y) ≡ kleene_step view (map-NQuery NQuery Truth (kleene view) y)
  kleene_of y = fold-roll-NQuery Truth (kleene_step view) y

  sat_of : (y : NQuery-F NQuery) → sat view (roll-NQuery y) ≡ sat_step view (map-NQuery NQuery Bool (sat view) y)
  sat_of y = fold-roll-NQuery Bool (sat_step view) y

  indexed_of : (y : NQuery-F NQuery) → is_indexed (roll-NQuery y) ≡ indexed_step (map-NQuery NQuery Bool is_indexed y)
  indexed_of y = fold-roll-NQuery Bool indexed_step y

  at_leaf : (y : NQuery-F NQuery) (rule : FieldRule) (met : Bool) → kleene_step view (map-NQuery NQuery Truth (kleene view) y) ≡ known rule met
      → sat_step view (map-NQuery NQuery Bool (sat view) y) ≡ met → indexed_step (map-NQuery NQuery Bool is_indexed y) ≡ rule.indexed → IsKnown (roll-NQuery y)
  at_leaf y rule met k s i = leaf_known (roll-NQuery y) rule met (kleene_of y ∙ k) (sat_of y ∙ s) (indexed_of y ∙ i)

  layer_known : (y : NQuery-F Child) → IsKnown (roll-NQuery (map-NQuery Child NQuery (λ e. e.0) y))
  layer_known (layer.Equal f r v) = at_leaf (layer.Equal f r v) r (some_equal view f v) refl refl refl
  layer_known (layer.Below f r v e) = at_leaf (layer.Below f r v e) r (some_below view f v e) refl refl refl
  layer_known (layer.Above f r v e) = at_leaf (layer.Above f r v e) r (some_above view f v e) refl refl refl
  layer_known (layer.Between f r l e h g) = at_leaf (layer.Between f r l e h g) r (some_between view f l e h g) refl refl refl
  layer_known (layer.Starts f r t) = at_leaf (layer.Starts f r t) r (some_starts view f t) refl refl refl
  layer_known (layer.Ends f r t) = at_leaf (layer.Ends f r t) r (some_ends view f t) refl refl refl
  layer_known (layer.Holds f r t) = at_leaf (layer.Holds f r t) r (some_holds view f t) refl refl refl
  layer_known (layer.Not e) = λ m.
      kleene_of (layer.Not e.0) ∙ ap swapped (e.1 (sym (indexed_of (layer.Not e.0)) ∙ m)) ∙ swapped_truth (sat view e.0) ∙ ap truth_of (sym (sat_of (layer.Not e.0)))
  layer_known (layer.And es) = λ m.
      kleene_of (layer.And (those es)) ∙ all_known es (sym (indexed_of (layer.And (those es))) ∙ m) ∙ ap truth_of (sym (sat_of (layer.And (those es))))
  layer_known (layer.Or es) = λ m.
      kleene_of (layer.Or (those es)) ∙ any_known es (sym (indexed_of (layer.Or (those es))) ∙ m) ∙ ap truth_of (sym (sat_of (layer.Or (those es))))

  query_known : (q : NQuery) → IsKnown q
  query_known = ind-NQuery IsKnown (λ x y is. subst (λ z. IsKnown (roll-NQuery z)) is (layer_known y))

pub de_morgan : DeMorgan
de_morgan view qs = (
  not_sat view (nquery.And qs) ∙ ap not (and_sat view qs) ∙ any_not view qs ∙ sym (or_sat view (map nquery.Not qs)),
  not_sat view (nquery.Or qs) ∙ ap not (or_sat view qs) ∙ all_not view qs ∙ sym (and_sat view (map nquery.Not qs)),
)

pub indexed_known : IndexesKnow
indexed_known view q m = query_known view q m
