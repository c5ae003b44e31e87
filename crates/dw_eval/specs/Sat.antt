-- Whether the values of a view satisfy a bound query.
use Rattle.std.specs.Prelude.{Bool, not, List}
use Rattle.std.specs.List.{list_all, list_any}
use Rattle.dw_eval.specs.declared.nview.Formed.{Formed}
use Rattle.dw_eval.specs.declared.nquery.NQuery.{NQuery}
use Rattle.dw_eval.specs.declared.nquery.NQuery.TheOpen.{NQuery-F, Equal, Below, Above, Between, Starts, Ends, Holds, Not, And, Or}
use Rattle.dw_eval.specs.declared.nquery.NQuery.TheFolds.{fold-NQuery}
use Rattle.dw_eval.specs.Leaves.{some_equal, some_below, some_above, some_between, some_starts, some_ends, some_holds}

-- a leaf holds where some value of its field meets it
abbrev pub sat_step : List Formed → NQuery-F Bool → Bool
sat_step view (Equal field rule value) = some_equal view field value
sat_step view (Below field rule value edge) = some_below view field value edge
sat_step view (Above field rule value edge) = some_above view field value edge
sat_step view (Between field rule low low_edge high high_edge) = some_between view field low low_edge high high_edge
sat_step view (Starts field rule text) = some_starts view field text
sat_step view (Ends field rule text) = some_ends view field text
sat_step view (Holds field rule text) = some_holds view field text
sat_step view (Not child) = not child
sat_step view (And children) = list_all (λ b. b) children
sat_step view (Or children) = list_any (λ b. b) children

abbrev pub sat : List Formed → NQuery → Bool
sat view = fold-NQuery Bool (sat_step view)
