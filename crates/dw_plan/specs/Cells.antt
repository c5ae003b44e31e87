-- What the cells that a leaf reads say.
use Rattle.std.specs.Prelude.{ℕ, ◌&&◌, Bool, List, Option}
use Rattle.std.specs.Option.{option_and_then}
use Rattle.dw_key.specs.declared.key.Key.{Key}
use Rattle.dw_vis.specs.Sight.{sees}
use Rattle.dw_vis.specs.Test.{is_vis}
use Rattle.dw_event.specs.Texts.{is_same}
use Rattle.dw_event.specs.Wanted.{is_type_wanted}
use Rattle.dw_event.specs.declared.days.Days.{Days}
use Rattle.dw_event.specs.declared.types.Types.{Types}
use Rattle.dw_derive.specs.Readers.{GlobalReading, only_if}
use Rattle.dw_derive.specs.Decoded.{key_from}
use Rattle.dw_plan.specs.declared.wanted.Wanted.{Wanted}
use Rattle.dw_plan.specs.Hit.{is_in_days, told_by}
use Rattle.dw_plan.specs.Spans.{is_wanted}

-- a visibility is one, and for the holder of these names
abbrev pub is_open : List (List ℕ) → List ℕ → Bool
is_open names vis = is_vis vis && sees vis names

module _ (days : Days) (types : Types) (field : List ℕ) (wanted : Wanted) where
  -- the day of the shard, the type, the field and the value are asked for
  abbrev pub is_asked : GlobalReading → Bool
  is_asked r = is_in_days days r.shard && is_type_wanted types r.dtype && is_same field r.field && is_wanted wanted r.value

  abbrev pub shard_of : GlobalReading → Option (List ℕ)
  shard_of r = only_if (is_asked r) r.shard

module _ (names : List (List ℕ)) (days : Days) (types : Types) (field : List ℕ) (wanted : Wanted) where
  -- the shard that a key names
  abbrev pub shard_of_key : Key → Option (List ℕ)
  shard_of_key k = option_and_then (shard_of days types field wanted) (told_by names k)

  -- and one that the code of a key names
  abbrev pub shard_from : List ℕ → Option (List ℕ)
  shard_from bytes = option_and_then shard_of_key (key_from bytes)
