-- For which shards a query is looked for where it stands at a place: at a positive one where it is not No, at a negative one where it is not Yes.
use Rattle.std.specs.Prelude.{ℕ, ◌&&◌, ◌||◌, not, nat_eq, Bool, true, false, List, [], ◌∷◌, map as list_map}
use Rattle.std.specs.List.{starts_with, ends_with}
use Rattle.dw_event.specs.Texts.{is_same}
use Rattle.dw_event.specs.declared.types.Types.{Types}
use Rattle.dw_outside.specs.Tables.{Tables}
use Rattle.dw_eval.specs.declared.nquery.NQuery.{NQuery}
use Rattle.dw_eval.specs.declared.nquery.NQuery.TheOpen.{NQuery-F, Equal, Below, Above, Between, Starts, Ends, Holds, Not, And, Or}
use Rattle.dw_eval.specs.declared.nquery.NQuery.TheFolds.{fold-NQuery}
use Rattle.dw_eval.specs.Leaves.{is_above, is_below}
use Rattle.dw_plan.specs.Anchored.{Place}
use Rattle.dw_plan.specs.Hit.{forward, backward}

-- both, or one of them
abbrev pub joined : Bool → Bool → Bool → Bool
joined true a b = a && b
joined false a b = a || b

-- all, or some
abbrev pub all_joined : Bool → List Bool → Bool
all_joined both [] = both
all_joined both (b ∷ bs) = joined both b (all_joined both bs)

-- what is known before the first child, and what a list of shards says of one
abbrev pub holds_leaf : Bool → Bool → Bool
holds_leaf anchor met = not anchor || met

module _ (t : Tables) (names : List (List ℕ)) (types : Types) (shard : List ℕ) where
  abbrev pub stay_step : NQuery-F (Place → Bool) → Place → Bool
  stay_step (Equal field rule value) place = holds_leaf (place && rule.indexed) (forward t names types shard field (λ form. is_same form value))
  stay_step (Below field rule value edge) place = true
  stay_step (Above field rule value edge) place = true
  stay_step (Between field rule low low_edge high high_edge) place =
      holds_leaf (place && rule.indexed) (forward t names types shard field (λ form. is_above form low low_edge && is_below form high high_edge))
  stay_step (Starts field rule text) place = holds_leaf (place && rule.indexed) (forward t names types shard field (λ form. starts_with nat_eq form text))
  stay_step (Ends field rule text) place = holds_leaf (place && rule.reversed) (backward t names types shard field (λ form. ends_with nat_eq form text))
  stay_step (Holds field rule text) place = true
  stay_step (Not child) place = child (not place)
  stay_step (And children) place = all_joined place (list_map (λ c. c place) children)
  stay_step (Or children) place = all_joined (not place) (list_map (λ c. c place) children)

  abbrev pub stays : NQuery → Place → Bool
  stays = fold-NQuery (Place → Bool) stay_step
