-- Which shards a query reads.
use Rattle.std.specs.Prelude.{ℕ, ◌==◌, ◌&&◌, ◌||◌, not, nat_le, nat_eq, Bool, true, false, List, length, take, drop, filter, filter_map, map as list_map, slice_index, Option, None, if◌then◌else◌}
use Rattle.std.specs.Option.{option_map, option_and_then, option_map_or}
use Rattle.std.specs.List.{list_all, list_any, starts_with, ends_with}
use Rattle.std.specs.Char.{is_ascii_digit}
use Rattle.std.specs.Ordering.{nat_cmp}
use Rattle.std.specs.Cmp.Lexicographic.{slice_cmp}
use Rattle.std.specs.FinMap as map
use Rattle.dw_base.specs.Ascending.{set_of}
use Rattle.dw_key.specs.declared.key.Key.{Key}
use Rattle.dw_vis.specs.Sight.{sees}
use Rattle.dw_vis.specs.Test.{is_vis}
use Rattle.dw_norm.specs.Reversal.{rev}
use Rattle.dw_event.specs.Texts.{is_same}
use Rattle.dw_event.specs.Wanted.{is_in_range, is_type_wanted}
use Rattle.dw_event.specs.declared.days.Days.{Days}
use Rattle.dw_event.specs.declared.types.Types.{Types}
use Rattle.dw_outside.specs.declared.slot.Slot.{Slot}
use Rattle.dw_outside.specs.Tables.{Tables}
use Rattle.dw_derive.specs.Readers.{GlobalReading, global_reading}
use Rattle.dw_derive.specs.Decoded.{key_from, has_key}
use Rattle.dw_nest.specs.Kleene.{swapped}
use Rattle.dw_nest.specs.declared.truth.Truth.{Truth}
use Rattle.dw_nest.specs.declared.truth.Truth.TheVariants.{No, Unknown, Yes}
use Rattle.dw_eval.specs.declared.nquery.NQuery.{NQuery}
use Rattle.dw_eval.specs.declared.nquery.NQuery.TheOpen.{NQuery-F, Equal, Below, Above, Between, Starts, Ends, Holds, Not, And, Or}
use Rattle.dw_eval.specs.declared.nquery.NQuery.TheFolds.{fold-NQuery}
use Rattle.dw_eval.specs.Kleene.{least, greatest}
use Rattle.dw_eval.specs.Leaves.{is_above, is_below}
use Rattle.dw_plan.specs.Anchored.{Place}

-- eight digits, `_` and one or two digits
abbrev pub is_shard_name : List ℕ → Bool
is_shard_name s =
    nat_le 10 (length s) && nat_le (length s) 11 && list_all is_ascii_digit (take 8 s) && (slice_index s 8 == 95) && list_all is_ascii_digit (drop 9 s)

-- such a name, of a day in range
abbrev pub is_in_days : Days → List ℕ → Bool
is_in_days days s = is_shard_name s && is_in_range days s

-- what the key of a cell of a global index says to the holder of these names: nothing where its visibility is none, or not for them
abbrev pub told_by : List (List ℕ) → Key → Option GlobalReading
told_by names k = if is_vis k.vis && sees k.vis names then global_reading k else None

-- a cell of the table that they see says what passes
abbrev pub some_cell : Tables → List (List ℕ) → ℕ → (GlobalReading → Bool) → Bool
some_cell t names table test = list_any (has_key table (λ k. option_map_or test (told_by names k) false)) (map.keys t)

-- it says the shard, a type that is asked for, the field, and a value that passes
abbrev pub says_value : Types → List ℕ → List ℕ → (List ℕ → Bool) → GlobalReading → Bool
says_value types shard field meets r = is_same shard r.shard && is_type_wanted types r.dtype && is_same field r.field && meets r.value

-- a leaf that is an anchor where it stands is No where no cell meets it; any other is Unknown
abbrev pub leaf_truth : Bool → Bool → Truth
leaf_truth anchor met = if anchor && not met then No else Unknown

module _ (t : Tables) (names : List (List ℕ)) (types : Types) (shard : List ℕ) where
  -- a cell of table 1 says the shard, the field and a value that passes
  abbrev pub forward : List ℕ → (List ℕ → Bool) → Bool
  forward field meets = some_cell t names 1 (says_value types shard field meets)

  -- a cell of table 2 does, whose value stands back to front
  abbrev pub backward : List ℕ → (List ℕ → Bool) → Bool
  backward field meets = some_cell t names 2 (says_value types shard field (λ value. meets (rev value)))

  -- each leaf by the cells of its own table
  abbrev pub truth_step : NQuery-F (Place → Truth) → Place → Truth
  truth_step (Equal field rule value) place = leaf_truth (place && rule.indexed) (forward field (λ form. is_same form value))
  truth_step (Below field rule value edge) place = Unknown
  truth_step (Above field rule value edge) place = Unknown
  truth_step (Between field rule low low_edge high high_edge) place =
      leaf_truth (place && rule.indexed) (forward field (λ form. is_above form low low_edge && is_below form high high_edge))
  truth_step (Starts field rule text) place = leaf_truth (place && rule.indexed) (forward field (λ form. starts_with nat_eq form text))
  truth_step (Ends field rule text) place = leaf_truth (place && rule.reversed) (backward field (λ form. ends_with nat_eq form text))
  truth_step (Holds field rule text) place = Unknown
  truth_step (Not child) place = swapped (child (not place))
  truth_step (And children) place = least (list_map (λ c. c place) children)
  truth_step (Or children) place = greatest (list_map (λ c. c place) children)

  -- the value of a query for the shard, where it stands at this place
  abbrev pub truth_at : NQuery → Place → Truth
  truth_at = fold-NQuery (Place → Truth) truth_step

abbrev pub is_no : Truth → Bool
is_no No = true
is_no Unknown = false
is_no Yes = false

-- the shard that a slot of table 1 or 2 names
abbrev pub shard_named : List (List ℕ) → Slot → Option (List ℕ)
shard_named names s =
    if (s.table == 1) || (s.table == 2) then option_map (λ r. r.shard) (option_and_then (told_by names) (key_from s.key)) else None

-- the shards that some cell of table 1 or 2 names to the holder of these names, ascending
abbrev pub named_shards : List (List ℕ) → Tables → List (List ℕ)
named_shards names t = set_of (slice_cmp nat_cmp) (filter_map (shard_named names) (map.keys t))

-- the shard is of a day in range, and the query is not No for it
abbrev pub is_hit : NQuery → List (List ℕ) → Days → Types → Tables → List ℕ → Bool
is_hit q names days types t shard = is_in_days days shard && not (is_no (truth_at t names types shard q true))

-- the shards that a query reads, ascending by bytes
unfoldable pub hit_shards : NQuery → List (List ℕ) → Days → Types → Tables → List (List ℕ)
hit_shards q names days types t = filter (is_hit q names days types t) (named_shards names t)
