use Rattle.std.specs.Prelude.{◌≡◌, ◌≢◌, ℕ, ◌-◌, List, [], ◌++◌, length, take, drop, Contains, Result, Ok, Err, Some}
use Rattle.dw_outside.specs.Faults.{one_more}
use Rattle.dw_outside.specs.Links.{Meaning}

-- a source in memory: the bytes left, the most that a call gives, the numbers of the calls that fail, the calls made and those that failed
pub record MemoryInput : Type 0 where
  pub left : List ℕ
  pub piece : ℕ
  pub fail_calls : List ℕ
  pub calls : ℕ
  pub faults : ℕ

-- a sink in memory: the bytes taken, how many it has room for in all, the numbers of the calls that fail, the calls made and those that failed
pub record MemoryOutput : Type 0 where
  pub taken : List ℕ
  pub room : ℕ
  pub fail_calls : List ℕ
  pub calls : ℕ
  pub faults : ℕ

-- the call after so many calls, counted from 1, is among those that fail
abbrev pub FailsNext : List ℕ → ℕ → Type 0
FailsNext fail_calls calls = Contains fail_calls (one_more calls)

-- the source after a call: the bytes given are gone, and an error is counted
abbrev pub input_after : {E : Type 0} → MemoryInput → Result ℕ E → MemoryInput
input_after input (Ok n) = record input { left = drop n input.left; calls = one_more input.calls }
input_after input (Err e) = record input { calls = one_more input.calls; faults = one_more input.faults }

-- how many bytes a sink still has room for
abbrev pub room_left : MemoryOutput → ℕ
room_left output = output.room - length output.taken

-- the sink after a call: the bytes taken stand at its end, and an error is counted
abbrev pub output_after : {E : Type 0} → MemoryOutput → List ℕ → Result ℕ E → MemoryOutput
output_after output bytes (Ok n) = record output { taken = output.taken ++ take n bytes; calls = one_more output.calls }
output_after output bytes (Err e) = record output { calls = one_more output.calls; faults = one_more output.faults }

-- the sink has no room left for a piece that is not empty
abbrev pub IsFull : MemoryOutput → List ℕ → Type 0
IsFull output bytes = (room_left output ≡ 0) × (bytes ≢ [])

-- a link in memory
pub record MemoryLink : Type 0 where
  pub input : MemoryInput
  pub output : MemoryOutput

-- what it means
abbrev pub memory_meaning : MemoryLink → Meaning
memory_meaning l = record {
  reading = record { bytes = Some l.input.left; faults = l.input.faults };
  writing = record { bytes = Some l.output.taken; faults = l.output.faults };
}
