-- What the indexes alone know of a bound query.
use Rattle.std.specs.Prelude.{Bool, true, false, List, [], ◌∷◌}
use Rattle.dw_dict.specs.declared.rule.FieldRule.{FieldRule}
use Rattle.dw_nest.specs.Kleene.{swapped, least_of_two, most_of_two}
use Rattle.dw_nest.specs.declared.truth.Truth.{Truth}
use Rattle.dw_nest.specs.declared.truth.Truth.TheVariants.{No, Unknown, Yes}
use Rattle.dw_eval.specs.declared.nview.Formed.{Formed}
use Rattle.dw_eval.specs.declared.nquery.NQuery.{NQuery}
use Rattle.dw_eval.specs.declared.nquery.NQuery.TheOpen.{NQuery-F, Equal, Below, Above, Between, Starts, Ends, Holds, Not, And, Or}
use Rattle.dw_eval.specs.declared.nquery.NQuery.TheFolds.{fold-NQuery}
use Rattle.dw_eval.specs.Leaves.{some_equal, some_below, some_above, some_between, some_starts, some_ends, some_holds}

abbrev pub truth_of : Bool → Truth
truth_of true = Yes
truth_of false = No

abbrev pub known_where : Bool → Bool → Truth
known_where true met = truth_of met
known_where false met = Unknown

-- the value of a leaf, Unknown where its field is not indexed
abbrev pub known : FieldRule → Bool → Truth
known rule met = known_where rule.indexed met

abbrev pub least : List Truth → Truth
least [] = Yes
least (t ∷ ts) = least_of_two t (least ts)

abbrev pub greatest : List Truth → Truth
greatest [] = No
greatest (t ∷ ts) = most_of_two t (greatest ts)

abbrev pub kleene_step : List Formed → NQuery-F Truth → Truth
kleene_step view (Equal field rule value) = known rule (some_equal view field value)
kleene_step view (Below field rule value edge) = known rule (some_below view field value edge)
kleene_step view (Above field rule value edge) = known rule (some_above view field value edge)
kleene_step view (Between field rule low low_edge high high_edge) = known rule (some_between view field low low_edge high high_edge)
kleene_step view (Starts field rule text) = known rule (some_starts view field text)
kleene_step view (Ends field rule text) = known rule (some_ends view field text)
kleene_step view (Holds field rule text) = known rule (some_holds view field text)
kleene_step view (Not child) = swapped child
kleene_step view (And children) = least children
kleene_step view (Or children) = greatest children

abbrev pub kleene : List Formed → NQuery → Truth
kleene view = fold-NQuery Truth (kleene_step view)
