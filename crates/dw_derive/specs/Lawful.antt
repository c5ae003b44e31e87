-- What a world keeps.
use Rattle.std.specs.Prelude.{◌≡◌, ◌↔◌, ℕ, ◌-◌, ◌<◌, ◌≤◌, ◌^◌, true, List, [], ◌∷◌, ◌++◌, take, decimal, None, IsTrue}
use Rattle.std.specs.List.{AllByRecursion, list_any}
use Rattle.std.specs.List.Sorted.{IsStrictlySortedBy}
use Rattle.std.specs.Map.{keys_of}
use Rattle.std.specs.BTreeMap.{insert_entry}
use Rattle.std.specs.FinMap as map
use Rattle.std.specs.FinSet as set
use Rattle.dw_base.specs.Callers.{is_caller}
use Rattle.dw_base.specs.FieldNames.{is_folded_name}
use Rattle.dw_event.specs.declared.records.Record.{Record}
use Rattle.dw_event.specs.Places.{place_cmp}
use Rattle.dw_event.specs.Records.{IsWellFormed}
use Rattle.dw_event.specs.Take.{Event, held_at}
use Rattle.dw_outside.specs.declared.slot.Slot.{Slot}
use Rattle.dw_derive.specs.UidLists.{IsUid}
use Rattle.dw_derive.specs.MetaReaders.{AreGranted}
use Rattle.dw_derive.specs.Entries.{slots_of}
use Rattle.dw_derive.specs.World.{World}
use Rattle.dw_derive.specs.Tables.{gives}

-- the record that an event was: its shard begins with the eight digits of the day
abbrev pub record_of : Event → Record
record_of e = record { dtype = e.0.key.dtype; date = take 8 e.0.shard; cells = e.1.cells }

-- a number of a shard, 0 to 15, which stands behind the day and `_`, without padding
pub record IsShardOf (shard : List ℕ) (number : ℕ) : Type 0 where
  pub below : number < 16
  pub spelled : shard ≡ take 8 shard ++ 95 ∷ decimal number

-- a well-formed record in a shard of its day, under a uid, from a batch
pub record IsEvent (e : Event) : Type 0 where
  pub number : ℕ
  pub shard : IsShardOf e.0.shard number
  pub rules : IsWellFormed (record_of e)
  pub uid : IsUid e.0.key.uid
  pub first : 1 ≤ e.1.batch
  pub most : e.1.batch < 2 ^ 64

-- the events ascend, each place once, and are lawful; the older lists are of slots that they give in the tables 1 and 2
pub record HasEvents (w : World) : Type 0 where
  pub ascend : IsStrictlySortedBy place_cmp (keys_of w.events)
  pub lawful : AllByRecursion IsEvent w.events
  pub old : (s : Slot) → set.contains w.old s ≡ true → list_any (gives (slots_of w.dict) s) w.events ≡ true

-- what may be granted: names that keep their limits, to a caller whose name does
pub record IsGrant (g : List ℕ × List (List ℕ)) : Type 0 where
  pub caller : IsTrue (is_caller g.0)
  pub names : AreGranted g.1

-- and no batch is later than the last one, which is 0 exactly where there is no event; fields and grants keep their limits
pub record IsWorld (w : World) : Type 0 where
  pub events : HasEvents w
  pub fields : AllByRecursion (λ f. IsTrue (is_folded_name f.0)) (map.entries w.dict)
  pub grants : AllByRecursion IsGrant (map.entries w.grants)
  pub batches : AllByRecursion (λ e. e.1.batch ≤ w.last) w.events
  pub none : (w.last ≡ 0) ↔ (w.events ≡ [])
  pub most : w.last ≤ 2 ^ 63 - 1

-- the place of the event is free
abbrev pub IsFree : World → Event → Type 0
IsFree w e = held_at w.events e.0 ≡ None

-- the world with one event more
abbrev pub with_event : World → Event → World
with_event w e = record { events = insert_entry place_cmp w.events e.0 e.1; dict = w.dict; grants = w.grants; last = w.last; old = w.old }
