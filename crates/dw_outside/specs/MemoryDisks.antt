-- A disk in memory, by what was done to it.
use Rattle.std.specs.Prelude.{◌≡◌, ◌⊎◌, ◌<◌, ◌≤◌, ◌+◌, ◌++◌, List, [], ◌∷◌, ℕ, if◌then◌else◌, length, get_or, take, drop, max, nat_lt, Result, Ok, Err}
use Rattle.dw_outside.specs.Faults.{one_more}
use Rattle.dw_outside.specs.Memory.{FailsNext}
use Rattle.dw_outside.specs.Disks.{DiskState, DiskModel, IsLoose, moved, wrote, wrote_to, synced, settled}
use Rattle.dw_outside.specs.declared.mem_disk.Step.{Step}
use Rattle.dw_outside.specs.declared.mem_disk.Step.TheVariants.{Write, Torn, Sync}
use Rattle.dw_outside.specs.declared.mem_disk.Leave.{Leave}
use Rattle.dw_outside.specs.declared.mem_disk.Leave.TheVariants.{Old, New, Byte}

-- what it held at first, the bytes of all writes one after another, what was done to it, how many bytes and calls it takes in all, the numbers of the calls that fail, the calls made and those that failed
pub record MemoryDisk : Type 0 where
  pub first : List ℕ
  pub written : List ℕ
  pub steps : List Step
  pub room : ℕ
  pub limit : ℕ
  pub fail_calls : List ℕ
  pub calls : ℕ
  pub faults : ℕ

-- how many of the bytes of all writes the steps reach to
abbrev pub named : List Step → ℕ
named [] = 0
named (Write at start count ∷ steps) = max (start + count) (named steps)
named (Torn at end ∷ steps) = named steps
named (Sync ∷ steps) = named steps

-- the steps, one after another
abbrev pub run : List ℕ → DiskModel → List Step → DiskModel
run written m [] = m
run written m (Write at start count ∷ steps) = run written (moved (wrote at (take count (drop start written))) m) steps
run written m (Torn at end ∷ steps) = run written (moved (wrote_to at [] end) m) steps
run written m (Sync ∷ steps) = run written (moved synced m) steps

-- the model after these steps on a disk that held `first`, all of it on the disk
abbrev pub replayed : List ℕ → List ℕ → List Step → DiskModel
replayed first written steps = run written (record { now = settled first; past = [] }) steps

abbrev pub memory_model : MemoryDisk → DiskModel
memory_model d = replayed d.first d.written d.steps

-- no call is left
abbrev pub IsSpent : MemoryDisk → Type 0
IsSpent d = d.limit ≤ d.calls

-- the next call fails, whatever it is
abbrev pub FailsAnyway : MemoryDisk → Type 0
FailsAnyway d = FailsNext d.fail_calls d.calls ⊎ IsSpent d

-- the disk after a call that changes nothing but the counts
abbrev pub called : {T E : Type 0} → MemoryDisk → Result T E → MemoryDisk
called d (Ok t) = record d { calls = one_more d.calls }
called d (Err e) = record d { calls = one_more d.calls; faults = one_more d.faults }

-- one step more, where a call was left
abbrev pub step_taken : MemoryDisk → Step → List Step
step_taken d step = if nat_lt d.calls d.limit then d.steps ++ step ∷ [] else d.steps

-- the disk after a write: one that failed wrote nothing, and its range counts as written
abbrev pub disk_written : {E : Type 0} → MemoryDisk → ℕ → List ℕ → Result Unit E → MemoryDisk
disk_written d at bytes (Ok u) = record d { written = d.written ++ bytes; steps = d.steps ++ Write at (length d.written) (length bytes) ∷ []; calls = one_more d.calls }
disk_written d at bytes (Err e) = record d { steps = step_taken d (Torn at (at + length bytes)); calls = one_more d.calls; faults = one_more d.faults }

-- the disk after a sync
abbrev pub disk_synced : {E : Type 0} → MemoryDisk → Result Unit E → MemoryDisk
disk_synced d (Ok u) = record d { steps = d.steps ++ Sync ∷ []; calls = one_more d.calls }
disk_synced d (Err e) = record d { calls = one_more d.calls; faults = one_more d.faults }

-- what a stop leaves where the places that are not stable all hold this byte
pub record IsFilled (byte : ℕ) (s : DiskState) (c : List ℕ) : Type 0 where
  pub size : length c ≡ length s.seen
  pub loose : (place : ℕ) → place < length c → IsLoose s.loose place → get_or c place 0 ≡ byte
  pub stable : (place : ℕ) → (IsLoose s.loose place → ⊥) → get_or c place 0 ≡ get_or s.seen place 0

-- what one stop leaves
abbrev pub IsLeft : Leave → DiskState → List ℕ → Type 0
IsLeft Old s c = c ≡ s.kept
IsLeft New s c = c ≡ s.seen
IsLeft (Byte byte) s c = IsFilled byte s c

-- a disk in memory holds now what was done to it leaves
pub record StandsFor (d : MemoryDisk) (bytes stable : List ℕ) (ranges : List (ℕ × ℕ)) : Type 0 where
  pub seen : bytes ≡ (memory_model d).now.seen
  pub kept : stable ≡ (memory_model d).now.kept
  pub loose : ranges ≡ (memory_model d).now.loose
  pub ranged : named d.steps ≤ length d.written
  pub counted : length d.steps ≤ d.calls
  pub limited : length d.steps ≤ d.limit
  pub shorter : length bytes ≤ length d.first + length d.written
  pub fewer : length ranges ≤ length d.steps
  pub within : length d.written ≤ d.room

-- it took its memory at once: room for the bytes in three lists, and for the steps in two
pub record HasRoom (size room limit : ℕ) (bytes stable more all ranges : ℕ) : Type 0 where
  pub seen : size + room ≤ bytes
  pub kept : size + room ≤ stable
  pub written : room ≤ more
  pub steps : limit ≤ all
  pub loose : limit ≤ ranges
