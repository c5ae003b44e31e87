-- What holds of all hit shards.
use Rattle.std.specs.Prelude.{◌≡◌, ◌≢◌, ◌⊎◌, ◌&&◌, ◌||◌, not, nat_eq, ℕ, Bool, true, List, Some, ◌++◌, take, filter, map as list_map}
use Rattle.std.specs.List.{list_all, starts_with, ends_with, AllByRecursion}
use Rattle.std.specs.Ordering.{nat_cmp, is_le}
use Rattle.std.specs.Cmp.Lexicographic.{slice_cmp}
use Rattle.std.specs.declared.cmp.Ordering.TheVariants.{Less}
use Rattle.dw_dict.specs.declared.rule.FieldRule.{FieldRule}
use Rattle.dw_dict.specs.Dictionary.{Dictionary, rule_of}
use Rattle.dw_dict.specs.Rules.{Widens, widens}
use Rattle.dw_event.specs.declared.days.Days.{Days}
use Rattle.dw_event.specs.declared.types.Types.{Types}
use Rattle.dw_event.specs.Texts.{is_same}
use Rattle.dw_outside.specs.Tables.{Tables}
use Rattle.dw_derive.specs.World.{World}
use Rattle.dw_derive.specs.Tables.{tables}
use Rattle.dw_derive.specs.Lawful.{IsWorld}
use Rattle.dw_nest.specs.Kleene.{swapped}
use Rattle.dw_nest.specs.declared.truth.Truth.{Truth}
use Rattle.dw_nest.specs.declared.truth.Truth.TheVariants.{Unknown}
use Rattle.dw_jexl.specs.declared.query.Query.{Query}
use Rattle.dw_eval.specs.Bound.{bound}
use Rattle.dw_eval.specs.Kleene.{least, greatest}
use Rattle.dw_eval.specs.Leaves.{is_above, is_below}
use Rattle.dw_eval.specs.Answer.{answer_of}
use Rattle.dw_eval.specs.declared.open_query.OpenQuery.{OpenQuery}
use Rattle.dw_eval.specs.declared.nquery.NQuery.{NQuery}
use Rattle.dw_eval.specs.declared.nquery.NQuery.TheOpen.{NQuery-F, Equal, Below, Above, Between, Starts, Ends, Holds, Not, And, Or}
use Rattle.dw_eval.specs.declared.nquery.NQuery.TheFolds.{fold-NQuery}
use Rattle.dw_plan.specs.Anchored.{Place, anchored}
use Rattle.dw_plan.specs.Hit.{is_shard_name, is_in_days, is_no, leaf_truth, forward, backward, named_shards, hit_shards}
use Rattle.dw_plan.specs.Joins.{has}

-- the range of days from one up to the last is cut before a day: the last of the first part is below it, both parts lie
-- in the range, and the tables name no shard of a day between the two
pub record AreNeighbours (t : Tables) (names : List (List ℕ)) (first end next last : List ℕ) : Type 0 where
  pub below : slice_cmp nat_cmp end next ≡ Less
  pub starts : is_le (slice_cmp nat_cmp first next) ≡ true
  pub ends : is_le (slice_cmp nat_cmp end last) ≡ true
  pub none : (s : List ℕ) → has (named_shards names t) s ≡ true → is_shard_name s ≡ true → (is_le (slice_cmp nat_cmp (take 8 s) end) ≡ true) ⊎ (is_le (slice_cmp nat_cmp next (take 8 s)) ≡ true)

-- the hit shards of two neighbouring ranges of days, one after the other, are those of both together
abbrev pub NeighboursJoin : Type 0
NeighboursJoin = (q : NQuery) (names : List (List ℕ)) (types : Types) (t : Tables) (first end next last : List ℕ) → AreNeighbours t names first end next last →
    hit_shards q names (record { first = first; last = end }) types t ++ hit_shards q names (record { first = next; last = last }) types t
    ≡ hit_shards q names (record { first = first; last = last }) types t

-- ---- answers

abbrev pub is_ruled_as : Dictionary → List ℕ → FieldRule → Bool
is_ruled_as dict field rule = widens (rule_of dict field) rule && widens rule (rule_of dict field)

abbrev pub ruled_step : Dictionary → NQuery-F Bool → Bool
ruled_step dict (Equal field rule value) = is_ruled_as dict field rule
ruled_step dict (Below field rule value edge) = is_ruled_as dict field rule
ruled_step dict (Above field rule value edge) = is_ruled_as dict field rule
ruled_step dict (Between field rule low low_edge high high_edge) = is_ruled_as dict field rule
ruled_step dict (Starts field rule text) = is_ruled_as dict field rule
ruled_step dict (Ends field rule text) = is_ruled_as dict field rule
ruled_step dict (Holds field rule text) = is_ruled_as dict field rule
ruled_step dict (Not child) = child
ruled_step dict (And children) = list_all (λ b. b) children
ruled_step dict (Or children) = list_all (λ b. b) children

-- each leaf has the rule that the dictionary gives to its field
abbrev pub is_ruled : Dictionary → NQuery → Bool
is_ruled dict = fold-NQuery Bool (ruled_step dict)

-- a query that is bound by a dictionary has its rules
abbrev pub BoundAreRuled : Type 0
BoundAreRuled = (dict : Dictionary) (query : Query) (q : NQuery) → bound dict query ≡ Some q → is_ruled dict q ≡ true

-- an anchored query with the rules of its own dictionary, each of which the world's rule widens where the query sees a batch
pub record StandsFor (w : World) (q : OpenQuery) : Type 0 where
  pub anchor : anchored q.query ≡ true
  pub ruled : is_ruled q.dict q.query ≡ true
  pub widened : q.snapshot ≢ 0 → (field : List ℕ) → Widens (rule_of w.dict field) (rule_of q.dict field)

-- what answers a query stands in a shard that it reads
abbrev pub AnswersAreHit : Type 0
AnswersAreHit = (w : World) (q : OpenQuery) → IsWorld w → StandsFor w q →
    AllByRecursion (λ s. has (hit_shards q.query q.auths q.days q.types (tables w)) s.shard ≡ true) (answer_of q w.events)

-- ---- the other table

module _ (t : Tables) (names : List (List ℕ)) (types : Types) (shard : List ℕ) where
  -- a cell of table 1 or of table 2 says the shard, the field and a value that passes
  abbrev pub either : List ℕ → (List ℕ → Bool) → Bool
  either field meets = forward t names types shard field meets || backward t names types shard field meets

  abbrev pub either_step : NQuery-F (Place → Truth) → Place → Truth
  either_step (Equal field rule value) place = leaf_truth (place && rule.indexed) (either field (λ form. is_same form value))
  either_step (Below field rule value edge) place = Unknown
  either_step (Above field rule value edge) place = Unknown
  either_step (Between field rule low low_edge high high_edge) place =
      leaf_truth (place && rule.indexed) (either field (λ form. is_above form low low_edge && is_below form high high_edge))
  either_step (Starts field rule text) place = leaf_truth (place && rule.indexed) (either field (λ form. starts_with nat_eq form text))
  either_step (Ends field rule text) place = leaf_truth (place && rule.reversed) (either field (λ form. ends_with nat_eq form text))
  either_step (Holds field rule text) place = Unknown
  either_step (Not child) place = swapped (child (not place))
  either_step (And children) place = least (list_map (λ c. c place) children)
  either_step (Or children) place = greatest (list_map (λ c. c place) children)

  -- the value of a query for the shard, if the cells of both tables counted for each leaf
  abbrev pub either_at : NQuery → Place → Truth
  either_at = fold-NQuery (Place → Truth) either_step

-- the shards that a query would read then
unfoldable pub either_shards : NQuery → List (List ℕ) → Days → Types → Tables → List (List ℕ)
either_shards q names days types t = filter (λ shard. is_in_days days shard && not (is_no (either_at t names types shard q true))) (named_shards names t)

-- for the tables of a world whose rules widen those of the query, the cells of the other table change nothing
abbrev pub OtherTableAddsNothing : Type 0
OtherTableAddsNothing = (w : World) (dict : Dictionary) (q : NQuery) (names : List (List ℕ)) (days : Days) (types : Types) → IsWorld w → is_ruled dict q ≡ true
    → ((field : List ℕ) → Widens (rule_of w.dict field) (rule_of dict field)) →
    either_shards q names days types (tables w) ≡ hit_shards q names days types (tables w)
