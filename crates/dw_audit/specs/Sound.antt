-- When tables are sound, and where they are not.
use Rattle.std.specs.Prelude.{◌≡◌, ◌≢◌, ℕ, ◌≤◌, List, Option, Some}
use Rattle.std.specs.FinMap as map
use Rattle.std.specs.declared.cmp.Ordering.TheVariants.{Less}
use Rattle.dw_outside.specs.declared.slot.Slot.{Slot}
use Rattle.dw_outside.specs.Tables.{Tables, slot_cmp}
use Rattle.dw_derive.specs.World.{World}
use Rattle.dw_derive.specs.Tables.{tables}
use Rattle.dw_derive.specs.Lawful.{IsWorld}
use Rattle.dw_audit.specs.WorldOf.{world_of}

-- the tables that the world of tables has
abbrev pub wanted_tables : Tables → Tables
wanted_tables t = tables (world_of t)

-- tables that are those of their world
abbrev pub AreSound : Tables → Type 0
AreSound t = wanted_tables t ≡ t

-- what is told are the tables of this world, which keeps the rules of a world
pub record TellsWorld (w : World) (told : Option Tables) : Type 0 where
  pub world : IsWorld w
  pub tables : told ≡ Some (tables w)

-- the first slot at which tables and those of their world differ, by table and then by key, and what each has there
pub record IsFirstDifference (t : Tables) (s : Slot) (has wants : Option (List ℕ)) : Type 0 where
  pub table : s.table ≤ 3
  pub found : map.get t s ≡ has
  pub wanted : map.get (wanted_tables t) s ≡ wants
  pub differ : has ≢ wants
  pub before : (below : Slot) → slot_cmp below s ≡ Less → map.get t below ≡ map.get (wanted_tables t) below
