-- A keeper over a journal, and what a stop leaves of it.
use Rattle.std.specs.Prelude.{◌≡◌, ◌⊎◌, ◌+◌, ◌<◌, ◌≤◌, ◌^◌, ℕ, Bool, List, [], ◌∷◌, ◌++◌, length, Option, Some, None}
use Rattle.dw_outside.specs.declared.cell.Put.{Put}
use Rattle.dw_outside.specs.declared.cell.Reading.{Reading}
use Rattle.dw_outside.specs.Tables.{Tables}
use Rattle.dw_outside.specs.Disks.{DiskState, DiskModel, MayLeave, Each, LeftNow}
use Rattle.dw_journal.specs.Frames.{IsBatch, Holds, StandsFor, frame_of, frames_of, tables_of}
use Rattle.dw_journal.specs.Fixed.{GateStands, told_length}

-- a keeper over a journal: its disk, its tables, the place of the first closed gate, whether it is in doubt that it is closed, and the reads made
pub record Journal (D : Type 0) : Type 0 where
  pub disk : D
  pub tables : Tables
  pub gate : ℕ
  pub in_doubt : Bool
  pub reads : List Reading

-- something is told where the disk tells its model
abbrev pub told_by : {X : Type 0} → Option DiskModel → X → Option X
told_by None x = None
told_by (Some m) x = Some x

-- the gate lies in the file
pub record IsPlaced (model : Option DiskModel) (gate : ℕ) : Type 0 where
  pub small : gate + 1 < 2 ^ 64
  pub there : gate < told_length model

-- the frame in doubt
abbrev pub frame_in : Option (List Put) → Option (List ℕ)
frame_in None = None
frame_in (Some puts) = Some (frame_of puts)

abbrev pub DoubtIsBatch : Option (List Put) → Type 0
DoubtIsBatch None = Unit {0}
DoubtIsBatch (Some puts) = IsBatch puts

-- The keeper's tables are those after these acknowledged batches, which stand on its disk with the batch in doubt, where there is one.
pub record IsJournal {D : Type 0} (model : Option DiskModel) (batches : List (List Put)) (doubt : Option (List Put)) (j : Journal D) : Type 0 where
  pub lawful : Each IsBatch batches
  pub doubtful : DoubtIsBatch doubt
  pub tables : j.tables ≡ tables_of batches
  pub stands : GateStands model (frames_of batches) (frame_in doubt) j.gate j.in_doubt

-- a file with these batches, and it may be the one in doubt after them
abbrev pub Could : List (List Put) → Option (List Put) → List ℕ → Type 0
Could batches None file = Holds batches file
Could batches (Some puts) file = Holds batches file ⊎ Holds (batches ++ puts ∷ []) file

-- what a stop at this moment leaves could be this
abbrev pub LeavesOnly : (List ℕ → Type 0) → DiskState → Type 0
LeavesOnly P s = (c : List ℕ) → MayLeave s c → P c

-- both are too short for a frame, or they are the same
abbrev pub IsAlike : List ℕ → List ℕ → Type 0
IsAlike c d = (c ≡ d) ⊎ ((length c < 2) × (length d < 2))

-- each file that a stop leaves is like one that a stop could leave at an earlier moment
abbrev pub LeavesNoMore : DiskState → DiskState → Type 0
LeavesNoMore old s = (c : List ℕ) → MayLeave s c → (d : List ℕ) × MayLeave old d × IsAlike c d
