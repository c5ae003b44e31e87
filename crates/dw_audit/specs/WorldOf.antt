-- The world that tables stand for, whatever bytes they hold.
use Rattle.std.specs.Prelude.{ℕ, ◌^◌, ◌==◌, ◌&&◌, not, nat_le, nat_lt, max, Bool, false, List, [], ◌∷◌, length, take, drop, filter, filter_map, Option, Some, None, if◌then◌else◌}
use Rattle.std.specs.Option.{option_and_then}
use Rattle.std.specs.List.{flat_map}
use Rattle.std.specs.Char.{is_ascii_digit}
use Rattle.std.specs.FinMap as map
use Rattle.std.specs.FinSet as set
use Rattle.dw_base.specs.Days.{names_day}
use Rattle.dw_base.specs.declared.limits.TheConstants.{MAX_CELLS, MAX_CANONICAL}
use Rattle.dw_dict.specs.Dictionary.{Dictionary}
use Rattle.dw_event.specs.Records.{canon, is_cell}
use Rattle.dw_event.specs.Take.{Event}
use Rattle.dw_outside.specs.declared.slot.Slot.{Slot}
use Rattle.dw_outside.specs.Tables.{Tables, slot_cmp}
use Rattle.dw_derive.specs.Entries.{slots_of}
use Rattle.dw_derive.specs.EventsRead.{CellReading, code_says, events_of}
use Rattle.dw_derive.specs.Lawful.{record_of}
use Rattle.dw_derive.specs.Readers.{only_if}
use Rattle.dw_derive.specs.MetaTables.{last_of, dict_of, grants_of}
use Rattle.dw_derive.specs.World.{World}

-- ---- the names of shards

-- a number of 0 to 15, without padding
abbrev pub is_shard_number : List ℕ → Bool
is_shard_number [] = false
is_shard_number (d ∷ []) = is_ascii_digit d
is_shard_number (t ∷ d ∷ []) = (t == 49) && nat_le 48 d && nat_le d 53
is_shard_number (t ∷ d ∷ e ∷ more) = false

-- and `_` before it
abbrev pub is_shard_end : List ℕ → Bool
is_shard_end [] = false
is_shard_end (b ∷ number) = (b == 95) && is_shard_number number

-- eight digits that name a day, `_` and such a number
abbrev pub is_shard : List ℕ → Bool
is_shard shard = is_shard_end (drop 8 shard) && names_day (take 8 shard)

-- ---- events

-- what the code of a key says as that of an event's cell, where field, raw value and visibility keep their rules; a cell
-- that breaks one is left out alone
abbrev pub code_counts : List ℕ → Option CellReading
code_counts bytes = option_and_then (λ r. only_if (is_cell r.cell) r) (code_says bytes)

-- the cells of events stand in table 0, whatever their content
abbrev pub slot_counts : Slot → Option CellReading
slot_counts s = if s.table == 0 then code_counts s.key else None

abbrev pub readings_in : List Slot → List CellReading
readings_in slots = filter_map slot_counts slots

-- the number of a batch: 1 to 2^63 - 1
abbrev pub is_batch : ℕ → Bool
is_batch n = nat_le 1 n && nat_lt n (2 ^ 63)

-- an event of a batch, within the limits on cells and canonical bytes, in a shard; one that breaks a rule is left out whole,
-- as all its cells have its shard
abbrev pub is_kept : Event → Bool
is_kept e = is_batch e.1.batch && nat_le (length e.1.cells) MAX_CELLS && nat_le (length (canon (record_of e))) MAX_CANONICAL && is_shard e.0.shard

-- the events whose cells tables have, each with the batch of its first cell
abbrev pub stored_events : Tables → List Event
stored_events t = filter is_kept (events_of (readings_in (map.keys t)))

-- ---- the last number

-- the greatest batch, or 0 where there is no event
abbrev pub greatest_batch : List Event → ℕ
greatest_batch [] = 0
greatest_batch (e ∷ es) = max e.1.batch (greatest_batch es)

-- the number that is said, or the greatest batch where that is above it; 0 where there is no event
abbrev pub last_for : ℕ → List Event → ℕ
last_for said [] = 0
last_for said (e ∷ es) = max said (greatest_batch (e ∷ es))

-- ---- lists of the older form

-- the bytes of a list of the older form begin with the byte 1
abbrev pub begins_with_one : Option (List ℕ) → Bool
begins_with_one None = false
begins_with_one (Some []) = false
begins_with_one (Some (b ∷ bytes)) = b == 1

-- tables have such a list there, in the table 1 or 2 where events give the slot
abbrev pub is_older : Tables → Slot → Bool
is_older t s = not (s.table == 0) && begins_with_one (map.get t s)

abbrev pub older_slots : Tables → Dictionary → List Event → set.FinSet slot_cmp
older_slots t dict events = set.from_list (filter (is_older t) (flat_map (slots_of dict) events))

-- ---- the world

-- the fields and grants are those that can be read
unfoldable pub world_of : Tables → World
world_of t = record {
  events = stored_events t;
  dict = dict_of t;
  grants = grants_of t;
  last = last_for (last_of t) (stored_events t);
  old = older_slots t (dict_of t) (stored_events t);
}
