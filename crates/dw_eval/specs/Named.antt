-- The fields that a bound query names.
use Rattle.std.specs.Prelude.{ℕ, Bool, List, [], filter, option_to_list, if◌then◌else◌}
use Rattle.std.specs.List.{list_any}
use Rattle.dw_dict.specs.Dictionary.{Dictionary}
use Rattle.dw_event.specs.Texts.{is_same}
use Rattle.dw_event.specs.declared.views.Pair.{Pair}
use Rattle.dw_eval.specs.declared.nview.Formed.{Formed}
use Rattle.dw_eval.specs.declared.nquery.NQuery.{NQuery}
use Rattle.dw_eval.specs.declared.nquery.NQuery.TheOpen.{NQuery-F, Equal, Below, Above, Between, Starts, Ends, Holds, Not, And, Or}
use Rattle.dw_eval.specs.declared.nquery.NQuery.TheFolds.{fold-NQuery}
use Rattle.dw_eval.specs.Values.{pair_form}

abbrev pub names_step : List ℕ → NQuery-F Bool → Bool
names_step name (Equal field rule value) = is_same field name
names_step name (Below field rule value edge) = is_same field name
names_step name (Above field rule value edge) = is_same field name
names_step name (Between field rule low low_edge high high_edge) = is_same field name
names_step name (Starts field rule text) = is_same field name
names_step name (Ends field rule text) = is_same field name
names_step name (Holds field rule text) = is_same field name
names_step name (Not child) = child
names_step name (And children) = list_any (λ b. b) children
names_step name (Or children) = list_any (λ b. b) children

-- some leaf is on this field
abbrev pub names : List ℕ → NQuery → Bool
names name = fold-NQuery Bool (names_step name)

-- the pairs of a view whose field the query names
abbrev pub named_pairs : NQuery → List Pair → List Pair
named_pairs q view = filter (λ p. names p.field q) view

-- what a pair adds to the values of the fields that the query names
abbrev pub named_form : Dictionary → NQuery → Pair → List Formed
named_form dict q p = if names p.field q then option_to_list (pair_form dict p) else []
