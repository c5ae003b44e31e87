-- The two sides of a link.
use Rattle.std.specs.Prelude.{ℕ, List, Option, None}

-- one side: the bytes left or taken, where told, and the count of its faults
pub record Side : Type 0 where
  pub bytes : Option (List ℕ)
  pub faults : ℕ

-- what a source or a sink leaves as it was where it is no link: nothing
abbrev pub no_side : Side
no_side = record { bytes = None; faults = 0 }

-- what a link means: the side that is read and the side that is written
pub record Meaning : Type 0 where
  pub reading : Side
  pub writing : Side
