-- What tables say, apart from any bytes.
use Rattle.std.specs.Prelude.{ℕ, List, []}
use Rattle.std.specs.Ordering.{nat_cmp}
use Rattle.std.specs.Cmp.Lexicographic.{slice_cmp}
use Rattle.std.specs.FinMap as map
use Rattle.std.specs.FinSet as set
use Rattle.dw_dict.specs.Dictionary.{Dictionary}
use Rattle.dw_event.specs.Take.{Event}
use Rattle.dw_outside.specs.Tables.{slot_cmp}

-- from callers to the names that they were granted, ascending; a grant of no names is an entry
abbrev pub Grants : Type 0
Grants = map.FinMap (slice_cmp nat_cmp) (List (List ℕ))

pub record World : Type 0 where
  -- the events, each place once, ascending by shard, type and uid
  pub events : List Event
  -- the rules of fields
  pub dict : Dictionary
  pub grants : Grants
  -- the number of the last batch that brought an event, or 0
  pub last : ℕ
  -- the slots of the tables 1 and 2 whose lists are of the older form
  pub old : set.FinSet slot_cmp

-- a world in which nothing was taken in, defined or granted
abbrev pub nothing : World
nothing = record { events = []; dict = map.empty; grants = map.empty; last = 0; old = set.empty }
