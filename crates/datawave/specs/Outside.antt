-- What is seen from outside of the objects that a run is handed.
use Rattle.std.specs.Prelude.{ℕ, List, Option}
use Rattle.dw_outside.specs.Tables.{Tables}

-- what the keeper tells of its tables, how many faults it had, and what the output took
pub record Outside : Type 0 where
  pub told : Option Tables
  pub faults : ℕ
  pub out : Option (List ℕ)

abbrev pub seen : Option Tables → ℕ → Option (List ℕ) → Outside
seen told faults out = record { told = told; faults = faults; out = out }
