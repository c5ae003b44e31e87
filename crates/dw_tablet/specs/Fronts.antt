-- Keys that begin with some bytes.
use Rattle.std.specs.Prelude.{◌≡◌, ℕ, nat_eq, Bool, true, false, cond, List, ◌++◌, filter, Option, Some, None}
use Rattle.std.specs.List.{starts_with}
use Rattle.dw_key.specs.KeyCode.{escaped}
use Rattle.dw_tablet.specs.Places.{gap, below, shard_start, shard_end}
use Rattle.dw_tablet.specs.Positions.{field_start}
use Rattle.dw_tablet.specs.Held.{Held}
use Rattle.dw_tablet.specs.Values.{Value, value_at}

-- a key begins with the bytes
abbrev pub begins : List ℕ → List ℕ → Bool
begins front key = starts_with nat_eq key front

-- the keys that do
abbrev pub with_front : List ℕ → List (List ℕ) → List (List ℕ)
with_front front keys = filter (begins front) keys

-- what the keys of the values of a field begin with that begin with a text
abbrev pub values_front : List ℕ → List ℕ → List ℕ → List ℕ
values_front shard field text = field_start shard field ++ escaped text

-- the first place that begins so and is not covered
abbrev pub front_gap : Held → List ℕ → Option (List ℕ)
front_gap t front = cond (begins front (gap t.spans front)) (Some (gap t.spans front)) None

-- a key of the shard that says a value of the field which begins with a text begins so
abbrev pub ValuesStandInFronts : Type 0
ValuesStandInFronts = (shard field text : List ℕ) (names : List (List ℕ)) (snapshot : ℕ) (key : List ℕ) (v : Value) → below key (shard_start shard) ≡ false → below key (shard_end shard) ≡ true
    → value_at field names snapshot key ≡ Some v → begins text v.0 ≡ true → begins (values_front shard field text) key ≡ true
