-- Whether an index leads to the answers of a bound query.
use Rattle.std.specs.Prelude.{◌≡◌, Bool, true, false, ◌&&◌, not, List}
use Rattle.std.specs.List.{list_all, list_any}
use Rattle.dw_eval.specs.declared.nquery.NQuery.{NQuery}
use Rattle.dw_eval.specs.declared.nquery.NQuery.TheOpen.{NQuery-F, Equal, Below, Above, Between, Starts, Ends, Holds, Not, And, Or}
use Rattle.dw_eval.specs.declared.nquery.NQuery.TheFolds.{fold-NQuery}
use Rattle.dw_eval.specs.declared.nview.Formed.{Formed}
use Rattle.dw_eval.specs.Leaves.{some_equal, some_between, some_starts, some_ends}
use Rattle.dw_eval.specs.Sat.{sat}

-- a place in a query, by how many Nots stand above it: an even number is positive
abbrev pub Place : Type 0
Place = Bool

-- an And: at a positive place one child that is anchored is enough, at a negative one all have to be
abbrev pub and_at : List (Place → Bool) → Place → Bool
and_at children true = list_any (λ c. c true) children
and_at children false = list_all (λ c. c false) children

-- an Or: the other way round
abbrev pub or_at : List (Place → Bool) → Place → Bool
or_at children true = list_all (λ c. c true) children
or_at children false = list_any (λ c. c false) children

-- At a positive place an equality, a range with two ends or a text at the front is anchored on an indexed field, and a
-- text at the end on a reversed one; at a negative place no leaf is. A Not changes the place.
abbrev pub anchored_step : NQuery-F (Place → Bool) → Place → Bool
anchored_step (Equal field rule value) positive = positive && rule.indexed
anchored_step (Below field rule value edge) positive = false
anchored_step (Above field rule value edge) positive = false
anchored_step (Between field rule low low_edge high high_edge) positive = positive && rule.indexed
anchored_step (Starts field rule text) positive = positive && rule.indexed
anchored_step (Ends field rule text) positive = positive && rule.reversed
anchored_step (Holds field rule text) positive = false
anchored_step (Not child) positive = child (not positive)
anchored_step (And children) positive = and_at children positive
anchored_step (Or children) positive = or_at children positive

-- the query is anchored where it stands at this place
abbrev pub anchored_at : NQuery → Place → Bool
anchored_at = fold-NQuery (Place → Bool) anchored_step

-- the query is anchored: its root stands at a positive place
abbrev pub anchored : NQuery → Bool
anchored q = anchored_at q true

-- ---- what an anchor is for

abbrev pub led_step : List Formed → NQuery-F Bool → Bool
led_step view (Equal field rule value) = rule.indexed && some_equal view field value
led_step view (Below field rule value edge) = false
led_step view (Above field rule value edge) = false
led_step view (Between field rule low low_edge high high_edge) = rule.indexed && some_between view field low low_edge high high_edge
led_step view (Starts field rule text) = rule.indexed && some_starts view field text
led_step view (Ends field rule text) = rule.reversed && some_ends view field text
led_step view (Holds field rule text) = false
led_step view (Not child) = child
led_step view (And children) = list_any (λ c. c) children
led_step view (Or children) = list_any (λ c. c) children

-- some leaf that may be an anchor, wherever it stands, is met by the values
abbrev pub led : List Formed → NQuery → Bool
led view = fold-NQuery Bool (led_step view)

-- values that satisfy an anchored query meet a leaf that an index leads to
abbrev pub AnchorsLead : Type 0
AnchorsLead = (view : List Formed) (q : NQuery) → anchored q ≡ true → sat view q ≡ true → led view q ≡ true
