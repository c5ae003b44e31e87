-- How a file is read.
use Rattle.std.specs.Prelude.{◌≡◌, ◌≢◌, ◌<◌, ◌≤◌, ◌+◌, ◌^◌, ℕ, List, [], ◌∷◌, ◌++◌, length, take, drop}
use Rattle.std.specs.FinMap as map
use Rattle.dw_outside.specs.declared.cell.Put.{Put}
use Rattle.dw_outside.specs.Tables.{Tables}
use Rattle.dw_outside.specs.Disks.{DiskState}
use Rattle.dw_journal.specs.Frames.{number, open_frames, frames_of, frame_of, Holds, IsBatch, IsBadAt, tables_of}

-- these bytes stand in the file from this place on
abbrev pub ShowsFrom : ℕ → List ℕ → DiskState → Type 0
ShowsFrom place bytes s = bytes ≡ take (length bytes) (drop place s.seen)

-- the gate there is closed
pub record IsClosed (rest : List ℕ) : Type 0 where
  pub gate : ℕ
  pub more : List ℕ
  pub closed : gate ≢ 1
  pub split : rest ≡ gate ∷ more

-- the gate there is open, and this frame follows it, and a gate
pub record IsFramed (puts : List Put) (rest : List ℕ) : Type 0 where
  pub lawful : IsBatch puts
  pub gate : ℕ
  pub more : List ℕ
  pub split : rest ≡ 1 ∷ (frame_of puts ++ gate ∷ more)

-- the gate there is open, and no frame follows it
pub record IsNoFrame (rest : List ℕ) : Type 0 where
  pub more : List ℕ
  pub split : rest ≡ 1 ∷ more
  pub none : (puts : List Put) (gate : ℕ) (after : List ℕ) → IsBatch puts → more ≡ frame_of puts ++ gate ∷ after → ⊥

-- the file's batches leave these tables, and the closed gate after them is at this place
pub record IsRead (file : List ℕ) (found : Tables) (place : ℕ) : Type 0 where
  pub batches : List (List Put)
  pub holds : Holds batches file
  pub tables : found ≡ tables_of batches
  pub gate : place ≡ length (open_frames (frames_of batches))

-- all of a frame at the front of these bytes is among them, of so many that are left of the file
abbrev pub HasFrame : List ℕ → ℕ → Type 0
HasFrame bytes left = (count : ℕ) (more : List ℕ) → count < 2 ^ 64 → bytes ≡ 1 ∷ (number count ++ more) → count + 10 ≤ left → count + 10 ≤ length bytes
