-- The values of a view in their normal forms.
use Rattle.std.specs.Prelude.{◌≡◌, ℕ, false, List, [], ◌∷◌, Option, option_map, filter}
use Rattle.std.specs.List.{filter_map, AllByRecursion}
use Rattle.std.specs.Ordering.{nat_cmp, is_gt}
use Rattle.std.specs.Cmp.Lexicographic.{slice_cmp}
use Rattle.dw_norm.specs.Normal.{norm}
use Rattle.dw_dict.specs.Dictionary.{Dictionary, rule_of}
use Rattle.dw_event.specs.Texts.{is_same}
use Rattle.dw_event.specs.declared.views.Pair.{Pair}
use Rattle.dw_eval.specs.declared.nview.Formed.{Formed}

-- a pair with the normal form of its value by its field's kind, where there is one
abbrev pub pair_form : Dictionary → Pair → Option Formed
pair_form dict p = option_map (λ form. record { field = p.field; form = form }) (norm (rule_of dict p.field).kind p.raw)

-- the pairs of a view that have a normal form, in its order
abbrev pub normal_view : Dictionary → List Pair → List Formed
normal_view dict view = filter_map (pair_form dict) view

-- those of one field
abbrev pub values_of : List ℕ → List Formed → List Formed
values_of field view = filter (λ p. is_same p.field field) view

-- no field is below one before it
abbrev pub FieldsAscend : List Formed → Type 0
FieldsAscend [] = Unit {0}
FieldsAscend (p ∷ ps) = AllByRecursion (λ q. is_gt (slice_cmp nat_cmp p.field q.field) ≡ false) ps × FieldsAscend ps
