-- What satisfies a query is not ruled out by the indexes.
use Rattle.std.proofs.Common.{◌≡◌, Bool, true, false, not, ◌&&◌, ◌||◌, List, [], ◌∷◌, map, refl, ap, sym, subst, ◌∙◌}
use Rattle.std.specs.List.{list_all, list_any}
use Rattle.std.proofs.lemmas.Bool.{and_parts, and_from}
use Rattle.dw_event.specs.Wanted.{is_type_wanted}
use Rattle.dw_dict.specs.declared.rule.FieldRule.{FieldRule}
use Rattle.dw_nest.specs.Kleene.{swapped, least_of_two, most_of_two}
use Rattle.dw_nest.specs.declared.truth.Truth.{Truth}
use Rattle.dw_nest.specs.declared.truth.Truth.TheVariants.{No, Unknown, Yes}
use Rattle.dw_eval.specs.declared.nview.Formed.{Formed}
use Rattle.dw_eval.specs.declared.nquery.NQuery.{NQuery, map-NQuery}
use Rattle.dw_eval.specs.declared.nquery.NQuery.TheOpen.{NQuery-F}
use Rattle.dw_eval.specs.declared.nquery.NQuery.TheOpen as layer
use Rattle.dw_eval.specs.declared.nquery.NQuery.TheViews.{roll-NQuery}
use Rattle.dw_eval.specs.declared.nquery.NQuery.TheFolds.{fold-roll-NQuery, ind-NQuery}
use Rattle.dw_eval.specs.Kleene.{kleene, kleene_step, known, known_where, least, greatest}
use Rattle.dw_eval.specs.Leaves.{some_equal, some_below, some_above, some_between, some_starts, some_ends, some_holds}
use Rattle.dw_eval.specs.Sat.{sat, sat_step}
use Rattle.dw_eval.specs.Values.{normal_view}
use Rattle.dw_plan.specs.Hit.{is_no}
use Rattle.dw_scan.specs.Candidates.{AnswersAreCandidates}

-- a query with this value may hold or not
abbrev allows : Truth → Bool → Bool
allows No met = not met
allows Unknown met = true
allows Yes met = met

least_allows : (a b : Truth) (x y : Bool) → allows a x ≡ true → allows b y ≡ true → allows (least_of_two a b) (x && y) ≡ true
least_allows No b true y h k = absurd (cc)
least_allows No b false y h k = refl
least_allows Yes b true y h k = k
least_allows Yes b false y h k = absurd (cc)
least_allows Unknown No true true h k = absurd (cc)
least_allows Unknown No true false h k = refl
least_allows Unknown No false y h k = refl
least_allows Unknown Unknown x y h k = refl
least_allows Unknown Yes x y h k = refl

most_allows : (a b : Truth) (x y : Bool) → allows a x ≡ true → allows b y ≡ true → allows (most_of_two a b) (x || y) ≡ true
most_allows Yes b true y h k = refl
most_allows Yes b false y h k = absurd (cc)
most_allows No b true y h k = absurd (cc)
most_allows No b false y h k = k
most_allows Unknown Yes true y h k = refl
most_allows Unknown Yes false true h k = refl
most_allows Unknown Yes false false h k = absurd (cc)
most_allows Unknown Unknown x y h k = refl
most_allows Unknown No x y h k = refl

opposite_allows : (a : Truth) (x : Bool) → allows a x ≡ true → allows (swapped a) (not x) ≡ true
opposite_allows No true h = absurd (cc)
opposite_allows No false h = refl
opposite_allows Unknown x h = refl
opposite_allows Yes true h = refl
opposite_allows Yes false h = absurd (cc)

known_allows : (indexed met : Bool) → allows (known_where indexed met) met ≡ true
known_allows true true = refl
known_allows true false = refl
known_allows false met = refl

module _ (view : List Formed) where
  abbrev IsAllowed : NQuery → Type 0
  IsAllowed q = allows (kleene view q) (sat view q) ≡ true

  abbrev Child : Type 0
  Child = (q : NQuery) × IsAllowed q

  abbrev those : List Child → List NQuery
  those es = map (λ e. e.0) es

  both : (a b : Truth) (x y : Bool) → a ≡ b → x ≡ y → allows b y ≡ true → allows a x ≡ true
  both a b x y p q h = ap (λ t. allows t x) p ∙ ap (λ m. allows b m) q ∙ h

  kleene_of : (y : NQuery-F NQuery) → kleene view (roll-NQuery y) ≡ kleene_step view (map-NQuery NQuery Truth (kleene view) y)
  kleene_of y = fold-roll-NQuery Truth (kleene_step view) y

  sat_of : (y : NQuery-F NQuery) → sat view (roll-NQuery y) ≡ sat_step view (map-NQuery NQuery Bool (sat view) y)
  sat_of y = fold-roll-NQuery Bool (sat_step view) y

  at_leaf : (y : NQuery-F NQuery) (rule : FieldRule) (met : Bool) → kleene_step view (map-NQuery NQuery Truth (kleene view) y) ≡ known rule met
      → sat_step view (map-NQuery NQuery Bool (sat view) y) ≡ met → IsAllowed (roll-NQuery y)
  at_leaf y rule met k s = both (kleene view (roll-NQuery y)) (known rule met) (sat view (roll-NQuery y)) met (kleene_of y ∙ k) (sat_of y ∙ s) (known_allows rule.indexed met)

  all_allow : (es : List Child) → allows (least (map (kleene view) (those es))) (list_all (λ b. b) (map (sat view) (those es))) ≡ true
  all_allow [] = refl
  all_allow (e ∷ es) = least_allows (kleene view e.0) (least (map (kleene view) (those es))) (sat view e.0) (list_all (λ b. b) (map (sat view) (those es))) e.1 (all_allow es)

  any_allow : (es : List Child) → allows (greatest (map (kleene view) (those es))) (list_any (λ b. b) (map (sat view) (those es))) ≡ true
  any_allow [] = refl
  any_allow (e ∷ es) = most_allows (kleene view e.0) (greatest (map (kleene view) (those es))) (sat view e.0) (list_any (λ b. b) (map (sat view) (those es))) e.1 (any_allow es)

  layer_allowed : (y : NQuery-F Child) → IsAllowed (roll-NQuery (map-NQuery Child NQuery (λ e. e.0) y))
  layer_allowed (layer.Equal f r v) = at_leaf (layer.Equal f r v) r (some_equal view f v) refl refl
  layer_allowed (layer.Below f r v e) = at_leaf (layer.Below f r v e) r (some_below view f v e) refl refl
  layer_allowed (layer.Above f r v e) = at_leaf (layer.Above f r v e) r (some_above view f v e) refl refl
  layer_allowed (layer.Between f r l e h g) = at_leaf (layer.Between f r l e h g) r (some_between view f l e h g) refl refl
  layer_allowed (layer.Starts f r t) = at_leaf (layer.Starts f r t) r (some_starts view f t) refl refl
  layer_allowed (layer.Ends f r t) = at_leaf (layer.Ends f r t) r (some_ends view f t) refl refl
  layer_allowed (layer.Holds f r t) = at_leaf (layer.Holds f r t) r (some_holds view f t) refl refl
  layer_allowed (layer.Not e) =
      both (kleene view (roll-NQuery (layer.Not e.0))) (swapped (kleene view e.0)) (sat view (roll-NQuery (layer.Not e.0))) (not (sat view e.0))
      (kleene_of (layer.Not e.0)) (sat_of (layer.Not e.0)) (opposite_allows (kleene view e.0) (sat view e.0) e.1)
  layer_allowed (layer.And es) =
      both (kleene view (roll-NQuery (layer.And (those es)))) (least (map (kleene view) (those es))) (sat view (roll-NQuery (layer.And (those es)))) (list_all (λ b. b) (map (sat view) (those es)))
      (kleene_of (layer.And (those es))) (sat_of (layer.And (those es))) (all_allow es)
  layer_allowed (layer.Or es) =
      both (kleene view (roll-NQuery (layer.Or (those es)))) (greatest (map (kleene view) (those es))) (sat view (roll-NQuery (layer.Or (those es)))) (list_any (λ b. b) (map (sat view) (those es)))
      (kleene_of (layer.Or (those es))) (sat_of (layer.Or (those es))) (any_allow es)

  query_allowed : (q : NQuery) → IsAllowed q
  query_allowed = ind-NQuery IsAllowed (λ x y is. subst (λ z. IsAllowed (roll-NQuery z)) is (layer_allowed y))

not_no : (t : Truth) (met : Bool) → allows t met ≡ true → met ≡ true → not (is_no t) ≡ true
not_no No met h k = absurd (let f : false ≡ true = sym (ap not k) ∙ h in cc)
not_no Unknown met h k = refl
not_no Yes met h k = refl

pub answers_are_candidates : AnswersAreCandidates
answers_are_candidates dict types q s h =
    let view : List Formed = normal_view dict s.view in
    let p = and_parts (is_type_wanted types s.key.dtype) (sat view q) h in
    and_from (is_type_wanted types s.key.dtype) (not (is_no (kleene view q))) p.0 (not_no (kleene view q) (sat view q) (query_allowed view q) p.1)
