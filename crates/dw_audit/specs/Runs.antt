-- How a table is read run by run.
use Rattle.std.specs.Prelude.{◌≡◌, ℕ, ◌<◌, true, List, [], ◌∷◌, ◌++◌, length, Option, Some, None}
use Rattle.dw_outside.specs.declared.cell.Cell.{Cell}
use Rattle.dw_outside.specs.Tables.{Tables, span_of}
use Rattle.dw_audit.specs.declared.comparing.Difference.{Difference}
use Rattle.dw_audit.specs.Comparing.{first_difference}

-- the next run begins past the last key of this one, which is the last where it has fewer cells
abbrev pub IsNext : List Cell → Option (List ℕ) → Type 0
IsNext run None = length run < 1024
IsNext run (Some next) = (front : List Cell) × ((c : Cell) × ((run ≡ front ++ c ∷ []) × (next ≡ c.key ++ 0 ∷ [])))

-- the difference of two tables from a key on
abbrev pub difference_from : ℕ → List ℕ → Tables → Tables → Option Difference
difference_from table from t u = first_difference true (span_of table from [] t) (span_of table from [] u)

-- what one run says: the difference from its key on, or that it is that from the next one on
abbrev pub IsRun : ℕ → List ℕ → Tables → Tables → Option Difference → Option (List ℕ) → Type 0
IsRun table from t u o None = difference_from table from t u ≡ o
IsRun table from t u o (Some next) = difference_from table from t u ≡ difference_from table next t u
