-- What the forms begin with that meet a leaf.
use Rattle.std.proofs.Common.{◌≡◌, ℕ, Bool, true, List, [], ◌∷◌, map, refl, ap, sym, subst, ◌∙◌}
use Rattle.std.specs.Prelude.{nat_eq}
use Rattle.std.specs.List.{starts_with}
use Rattle.dw_eval.specs.declared.nquery.NQuery.{NQuery, map-NQuery}
use Rattle.dw_eval.specs.declared.nquery.NQuery.TheOpen.{NQuery-F}
use Rattle.dw_eval.specs.declared.nquery.NQuery.TheOpen as layer
use Rattle.dw_eval.specs.declared.nquery.NQuery.TheViews.{roll-NQuery}
use Rattle.dw_eval.specs.declared.nquery.NQuery.TheFolds.{fold-roll-NQuery, ind-NQuery}
use Rattle.dw_eval.specs.Meeting.{meets, meets_step, front_of, front_step, FormsBeginSo}

abbrev Begins : NQuery → Type 0
Begins q = (form : List ℕ) → meets q form ≡ true → starts_with nat_eq form (front_of q) ≡ true

abbrev Part : Type 0
Part = (q : NQuery) × Begins q

front_is : (y : NQuery-F NQuery) → front_of (roll-NQuery y) ≡ front_step (map-NQuery NQuery (List ℕ) front_of y)
front_is y = fold-roll-NQuery (List ℕ) front_step y

meets_is : (y : NQuery-F NQuery) → meets (roll-NQuery y) ≡ meets_step (map-NQuery NQuery (List ℕ → Bool) meets y)
meets_is y = fold-roll-NQuery (List ℕ → Bool) meets_step y

-- where no beginning is asked for
any : (y : NQuery-F NQuery) → front_step (map-NQuery NQuery (List ℕ) front_of y) ≡ [] → Begins (roll-NQuery y)
any y h = λ form _. ap (starts_with nat_eq form) (front_is y ∙ h)

at_layer : (y : NQuery-F Part) → Begins (roll-NQuery (map-NQuery Part NQuery (λ e. e.0) y))
at_layer (layer.Equal f r v) = any (layer.Equal f r v) refl
at_layer (layer.Below f r v e) = any (layer.Below f r v e) refl
at_layer (layer.Above f r v e) = any (layer.Above f r v e) refl
at_layer (layer.Between f r l e h g) = any (layer.Between f r l e h g) refl
at_layer (layer.Starts f r t) =
    λ form m. ap (starts_with nat_eq form) (front_is (layer.Starts f r t)) ∙ sym (ap (λ (test : List ℕ → Bool). test form) (meets_is (layer.Starts f r t))) ∙ m
at_layer (layer.Ends f r t) = any (layer.Ends f r t) refl
at_layer (layer.Holds f r t) = any (layer.Holds f r t) refl
at_layer (layer.Not e) = any (layer.Not e.0) refl
at_layer (layer.And es) = any (layer.And (map (λ e. e.0) es)) refl
at_layer (layer.Or es) = any (layer.Or (map (λ e. e.0) es)) refl

pub forms_begin_so : FormsBeginSo
forms_begin_so leaf form m = ind-NQuery Begins (λ x y is. subst (λ z. Begins (roll-NQuery z)) is (at_layer y)) leaf form m
