-- Laws of sound tables.
use Rattle.std.specs.Prelude.{◌≡◌, ℕ, IsTrue, List, [], Some, Result}
use Rattle.std.specs.FinMap as map
use Rattle.dw_base.specs.Callers.{is_caller}
use Rattle.dw_base.specs.FieldNames.{is_folded_name}
use Rattle.dw_dict.specs.declared.rule.FieldRule.{FieldRule}
use Rattle.dw_event.specs.declared.records.Record.{Record}
use Rattle.dw_event.specs.declared.reports.BadRecord.{BadRecord}
use Rattle.dw_event.specs.declared.reports.Report.{Report}
use Rattle.dw_outside.specs.Tables.{Tables, HasFourTables}
use Rattle.dw_derive.specs.World.{World}
use Rattle.dw_derive.specs.Tables.{tables}
use Rattle.dw_derive.specs.Lawful.{IsWorld}
use Rattle.dw_derive.specs.Meta.{field_slot, rule_bytes, grant_slot, names_bytes}
use Rattle.dw_derive.specs.MetaReaders.{AreGranted}
use Rattle.dw_ingest.specs.Ingested.{Ingested}
use Rattle.dw_ingest.specs.Reindexed.{Reindexed}
use Rattle.dw_audit.specs.WorldOf.{world_of}
use Rattle.dw_audit.specs.Sound.{AreSound}

-- whatever bytes tables hold, what they stand for keeps the rules of a world
abbrev pub TablesStandForWorlds : Type 0
TablesStandForWorlds = (t : Tables) → IsWorld (world_of t)

-- the world that the tables of a world stand for is that world, but for slots of table 0 among those of older lists, which
-- tables do not tell
pub record IsReadAgain (w : World) : Type 0 where
  pub events : (world_of (tables w)).events ≡ w.events
  pub dict : (world_of (tables w)).dict ≡ w.dict
  pub grants : (world_of (tables w)).grants ≡ w.grants
  pub last : (world_of (tables w)).last ≡ w.last
  pub again : tables (world_of (tables w)) ≡ tables w

abbrev pub WorldsAreRead : Type 0
WorldsAreRead = (w : World) → IsWorld w → IsReadAgain w

-- sound tables are those of a world, and the tables of a world are four, and sound
pub record SoundTablesAreOfWorlds : Type 0 where
  pub sound : (t : Tables) → AreSound t → (w : World) × (IsWorld w × (t ≡ tables w))
  pub four : (w : World) → HasFourTables (tables w)
  pub worlds : (w : World) → IsWorld w → AreSound (tables w)

-- what a batch, a wider rule, a rule before the first event and a grant make of sound tables is sound
pub record ChangesAreSound : Type 0 where
  pub ingested : (digest : List ℕ → List ℕ) (t u : Tables) (records : List (Result Record BadRecord)) (r : Report) → Ingested digest (world_of t) records r (Some u) → AreSound u
  pub reindexed : (t u : Tables) (field : List ℕ) (rule : FieldRule) (new : ℕ) → IsTrue (is_folded_name field) → Reindexed (world_of t) field rule new (Some u) → AreSound u
  pub defined : (t : Tables) (field : List ℕ) (rule : FieldRule) → AreSound t → (world_of t).events ≡ [] → IsTrue (is_folded_name field) → AreSound (map.insert t (field_slot field) (rule_bytes rule))
  pub granted : (t : Tables) (caller : List ℕ) (names : List (List ℕ)) → AreSound t → IsTrue (is_caller caller) → AreGranted names → AreSound (map.insert t (grant_slot caller) (names_bytes names))
