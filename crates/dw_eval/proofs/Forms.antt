-- Some value of a field, by its normal form.
use Rattle.std.proofs.Common.{◌≡◌, ℕ, Bool, true, false, ◌&&◌, ◌||◌, cond, List, [], ◌∷◌, refl, ap, ◌∙◌}
use Rattle.std.specs.Prelude.{Option, Some, None, option_map}
use Rattle.std.specs.List.{list_any, cons_option}
use Rattle.dw_norm.specs.Normal.{norm}
use Rattle.dw_dict.specs.Dictionary.{rule_of}
use Rattle.dw_event.specs.Texts.{is_same}
use Rattle.dw_event.specs.declared.views.Pair.{Pair}
use Rattle.dw_eval.specs.declared.nview.Formed.{Formed}
use Rattle.dw_eval.specs.Values.{normal_view, values_of}
use Rattle.dw_eval.specs.Leaves.{some_value}
use Rattle.dw_eval.specs.Laws.{passes, FormsAreOfValues}

module _ (field : List ℕ) (test : List ℕ → Bool) where
  abbrev any_in : List Formed → Bool
  any_in ps = list_any (λ p. test p.form) ps

  front : (b : Bool) (x : Formed) (rest : List Formed) → any_in (cond b (x ∷ rest) rest) ≡ ((b && test x.form) || any_in rest)
  front true x rest = refl
  front false x rest = refl

  none_passes : (b : Bool) (r : Bool) → r ≡ ((b && false) || r)
  none_passes true r = refl
  none_passes false r = refl

  one_more : (p : Pair) (o : Option (List ℕ)) (rest : List Formed)
      → some_value (cons_option (option_map (λ form. record { field = p.field; form = form }) o) rest) field test ≡ ((is_same p.field field && passes test o) || some_value rest field test)
  one_more p None rest = none_passes (is_same p.field field) (some_value rest field test)
  one_more p (Some form) rest = front (is_same p.field field) (record { field = p.field; form = form }) (values_of field rest)

pub forms_of_values : FormsAreOfValues
forms_of_values dict [] field test = refl
forms_of_values dict (p ∷ ps) field test =
    one_more field test p (norm (rule_of dict p.field).kind p.raw) (normal_view dict ps)
    ∙ ap (λ r. (is_same p.field field && passes test (norm (rule_of dict p.field).kind p.raw)) || r) (forms_of_values dict ps field test)
