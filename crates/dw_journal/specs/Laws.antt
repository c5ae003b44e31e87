-- What holds of all journals.
use Rattle.std.specs.Prelude.{◌≡◌, ◌⊎◌, ◌+◌, ◌++◌, [], ◌∷◌, ℕ, List, Option, Some}
use Rattle.dw_outside.specs.declared.cell.Put.{Put}
use Rattle.dw_outside.specs.Disks.{DiskState, DiskModel, Each, Since, moment, LeftSince}
use Rattle.dw_journal.specs.Frames.{Holds, StandsFor, IsBatch, IsBadAt, frames_of}
use Rattle.dw_journal.specs.Fixed.{StandsOn}
use Rattle.dw_journal.specs.Journal.{DoubtIsBatch, Could, LeavesOnly, frame_in}

-- where batches stand on a disk, with one in doubt or without, a stop leaves them, with the one in doubt or without
abbrev pub StopsLeaveBatches : Type 0
StopsLeaveBatches = (batches : List (List Put)) (doubt : Option (List Put)) (s : DiskState) → Each IsBatch batches → DoubtIsBatch doubt → StandsOn (frames_of batches) (frame_in doubt) s → LeavesOnly (Could batches doubt) s

-- a file stands for one list of batches
abbrev pub OneReading : Type 0
OneReading = (ones others : List (List Put)) (file : List ℕ) → StandsFor ones file → StandsFor others file → ones ≡ others

-- a file that stands for batches has no bad gate
abbrev pub NeverBad : Type 0
NeverBad = (batches : List (List Put)) (file : List ℕ) (at : ℕ) → StandsFor batches file → IsBadAt at file → ⊥

-- a file has one bad gate at most
abbrev pub OneBadGate : Type 0
OneBadGate = (at other : ℕ) (file : List ℕ) → IsBadAt at file → IsBadAt other file → at ≡ other

-- a stop at some moment after an earlier one left what each of these moments could leave
abbrev pub MomentsAreLeft : Type 0
MomentsAreLeft = (batches : List (List Put)) (doubt : Option (List Put)) (puts : List Put) (old new : DiskModel) (c : List ℕ)
    → Since (LeavesOnly (λ file. Could batches doubt file ⊎ Holds (batches ++ puts ∷ []) file)) (Some old) (Some new) → LeftSince (moment (Some old) + 1) (Some new) c → Could batches doubt c ⊎ Holds (batches ++ puts ∷ []) c
