-- What stands of a file, whatever a stop leaves.
use Rattle.std.specs.Prelude.{◌≡◌, ◌≢◌, ◌⊎◌, ◌≤◌, ◌+◌, ℕ, List, [], ◌∷◌, ◌++◌, length, take, Option, Some, None, Bool, is_some, ◌^◌}
use Rattle.dw_outside.specs.Disks.{DiskState, DiskModel, MayLeave, Each, Now}
use Rattle.dw_journal.specs.Frames.{open_frames, HoldsFrames}

-- the front stands, whatever a stop leaves
pub record IsFixed (front : List ℕ) (s : DiskState) : Type 0 where
  pub seen : take (length front) s.seen ≡ front
  pub kept : take (length front) s.kept ≡ front
  pub loose : Each (λ (range : ℕ × ℕ). length front ≤ range.0) s.loose

-- all but the one place behind the front stands, whatever a stop leaves
pub record IsFixedBut (front rest : List ℕ) (s : DiskState) : Type 0 where
  pub kept : (gate : ℕ) × (s.kept ≡ front ++ gate ∷ rest)
  pub seen : (gate : ℕ) × (s.seen ≡ front ++ gate ∷ rest)
  pub loose : Each (λ (range : ℕ × ℕ). (range.0 ≡ length front) × (range.1 ≡ length front + 1)) s.loose
  pub reach : s.reach ≡ length s.kept

-- a stop leaves this alone
abbrev pub Leaves : (List ℕ → Type 0) → DiskState → Type 0
Leaves P s = (c : List ℕ) → MayLeave s c → P c

-- these frames, with one more or without it
abbrev pub HoldsOrMore : List (List ℕ) → List ℕ → List ℕ → Type 0
HoldsOrMore frames frame file = HoldsFrames frames file ⊎ HoldsFrames (frames ++ frame ∷ []) file

-- the frames and the closed gate after them stand, whatever a stop leaves
pub record IsAtRest (frames : List (List ℕ)) (s : DiskState) : Type 0 where
  pub gate : ℕ
  pub closed : gate ≢ 1
  pub fixed : IsFixed (open_frames frames ++ gate ∷ []) s

-- how many bytes a disk tells, and more than any where it tells none
abbrev pub told_length : Option DiskModel → ℕ
told_length None = 2 ^ 64
told_length (Some m) = length m.now.seen

-- what stands where the gate is sure to be closed, and where it may be open before this frame
abbrev pub StandsOn : List (List ℕ) → Option (List ℕ) → DiskState → Type 0
StandsOn frames None s = IsAtRest frames s
StandsOn frames (Some frame) s = (more : List ℕ) × IsFixedBut (open_frames frames) (frame ++ 0 ∷ more) s

-- the frames, with the one in doubt or without it
abbrev pub CouldHold : List (List ℕ) → Option (List ℕ) → List ℕ → Type 0
CouldHold frames None file = HoldsFrames frames file
CouldHold frames (Some frame) file = HoldsOrMore frames frame file

-- the gate of a journal, on its disk: these frames stand before it, and this one in doubt behind it
pub record GateStands (model : Option DiskModel) (frames : List (List ℕ)) (doubt : Option (List ℕ)) (gate : ℕ) (in_doubt : Bool) : Type 0 where
  pub place : gate ≡ length (open_frames frames)
  pub doubtful : in_doubt ≡ is_some doubt
  pub disk : Now (StandsOn frames doubt) model
