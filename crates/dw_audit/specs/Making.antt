-- How the tables of a world are made.
use Rattle.std.specs.Prelude.{ℕ, ◌==◌, max, List, [], ◌∷◌, if◌then◌else◌}
use Rattle.std.specs.FinMap as map
use Rattle.std.specs.FinSet as set
use Rattle.dw_dict.specs.Dictionary.{Dictionary}
use Rattle.dw_event.specs.Take.{Event}
use Rattle.dw_outside.specs.Tables.{Tables}
use Rattle.dw_derive.specs.Laws.{stepped}
use Rattle.dw_derive.specs.Meta.{commit_slot, commit_bytes}
use Rattle.dw_derive.specs.Tables.{tables}
use Rattle.dw_derive.specs.World.{World}
use Rattle.dw_audit.specs.declared.making.Made.{Made}
use Rattle.dw_audit.specs.WorldOf.{is_kept, world_of}

-- the tables so far, and the greatest batch, or 0
pub record MadeSum : Type 0 where
  pub tables : Tables
  pub greatest : ℕ

abbrev pub made_of : Made → MadeSum
made_of m = record { tables = m.tables; greatest = m.greatest }

-- with one event more, where that is kept
abbrev pub made_with : Dictionary → Event → MadeSum → MadeSum
made_with dict e m = if is_kept e then record { tables = stepped dict e m.tables; greatest = max m.greatest e.1.batch } else m

abbrev pub made_by : Dictionary → List Event → MadeSum → MadeSum
made_by dict [] m = m
made_by dict (e ∷ es) m = made_by dict es (made_with dict e m)

-- with the number of the last batch
abbrev pub numbered : ℕ → MadeSum → Tables
numbered said m = if m.greatest == 0 then m.tables else map.insert m.tables commit_slot (commit_bytes (max said m.greatest))

-- the world that tables stand for, with every list in the newer form
abbrev pub newer_world : Tables → World
newer_world t = record { events = (world_of t).events; dict = (world_of t).dict; grants = (world_of t).grants; last = (world_of t).last; old = set.empty }

abbrev pub newer_tables : Tables → Tables
newer_tables t = tables (newer_world t)
