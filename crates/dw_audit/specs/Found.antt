-- What an audit finds.
use Rattle.std.specs.Prelude.{◌≡◌, ℕ, suc, ◌<◌, List, Option, Some, None}
use Rattle.std.specs.FinMap as map
use Rattle.dw_outside.specs.Tables.{Tables, HasFourTables}
use Rattle.dw_audit.specs.declared.comparing.Difference.{Difference}
use Rattle.dw_audit.specs.declared.verdict.Verdict.{Verdict}
use Rattle.dw_audit.specs.declared.verdict.Verdict.TheVariants.{Sound, Damaged}
use Rattle.dw_audit.specs.Sound.{AreSound, IsFirstDifference, wanted_tables}
use Rattle.dw_audit.specs.Making.{newer_tables}

-- the verdict is true of tables
abbrev pub IsVerdict : Tables → Verdict → Type 0
IsVerdict t Sound = AreSound t
IsVerdict t (Damaged table key found wanted) = IsFirstDifference t (record { table = table; key = key }) found wanted

abbrev pub damaged_at : ℕ → Difference → Verdict
damaged_at table d = Damaged table d.key d.found d.wanted

-- a table is as it is wanted
abbrev pub IsAsWanted : Tables → ℕ → Type 0
IsAsWanted t table = (key : List ℕ) → map.get t (record { table = table; key = key }) ≡ map.get (wanted_tables t) (record { table = table; key = key })

-- the tables that are wanted with each list in the newer form; the tables below one are as they are wanted
pub record IsReady (t u : Tables) (table : ℕ) : Type 0 where
  pub four : HasFourTables t
  pub newer : u ≡ newer_tables t
  pub below : (n : ℕ) → n < table → IsAsWanted t n

-- the verdict, where this table differs, or else it is as it is wanted too
abbrev pub IsJudged : Tables → Tables → ℕ → Option Verdict → Type 0
IsJudged t u table None = IsReady t u (suc table)
IsJudged t u table (Some verdict) = IsVerdict t verdict
