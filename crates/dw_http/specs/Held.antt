-- The bytes that were taken from a link and not yet answered.
use Rattle.std.specs.Prelude.{◌≡◌, ◌<◌, ◌≤◌, ℕ, ◌+◌, List, [], ◌++◌, length, Option, Some, None}
use Rattle.std.specs.Io.KnownBytes.{prepend_known, IsAtEnd}
use Rattle.dw_outside.specs.Faults.{Rose}
use Rattle.dw_outside.specs.Links.{Meaning}
use Rattle.dw_http.specs.declared.intake.Stop.{Stop}
use Rattle.dw_http.specs.declared.intake.Stop.TheVariants.{Ended, TooMuch, ReadFault}

-- the bytes, how many may still be taken, and why none will be
pub record Held : Type 0 where
  pub bytes : List ℕ
  pub budget : ℕ
  pub stop : Option Stop

-- what was taken and is not among the bytes held, by the reason for which no more is taken
abbrev pub StoppedBy : Option Stop → ℕ → List ℕ → Meaning → Meaning → Type 0
StoppedBy None budget lost before after = lost ≡ []
StoppedBy (Some Ended) budget lost before after = (lost ≡ []) × IsAtEnd after.reading.bytes
StoppedBy (Some TooMuch) budget lost before after = (budget ≡ 0) × (0 < length lost)
StoppedBy (Some ReadFault) budget lost before after = (lost ≡ []) × Rose before.reading.faults after.reading.faults

-- more bytes were taken and are held
pub record Gathered (before : Meaning) (old new : Held) (after : Meaning) : Type 0 where
  pub piece : List ℕ
  pub lost : List ℕ
  pub bytes : new.bytes ≡ old.bytes ++ piece
  pub budget : new.budget + length piece ≡ old.budget
  pub reading : before.reading.bytes ≡ prepend_known (piece ++ lost) after.reading.bytes
  pub counted : before.reading.faults ≤ after.reading.faults
  pub writing : after.writing ≡ before.writing
  pub stopped : StoppedBy new.stop new.budget lost before after
