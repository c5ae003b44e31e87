-- What stands at a gate, as it is read.
use Rattle.std.specs.Prelude.{◌≡◌, ◌≤◌, ◌<◌, ◌+◌, ℕ, List, length}
use Rattle.dw_journal.specs.Frames.{frame_of}
use Rattle.dw_journal.specs.Reading.{IsClosed, IsFramed, IsNoFrame}
use Rattle.dw_journal.specs.declared.reading.Next.{Next}
use Rattle.dw_journal.specs.declared.reading.Next.TheVariants.{Closed, Frame, Bad}

-- it stands at the front of these bytes
abbrev pub IsNext : Next → List ℕ → Type 0
IsNext Closed rest = IsClosed rest
IsNext (Frame puts size) rest = IsFramed puts.items rest × (size ≡ 1 + length (frame_of puts.items))
IsNext Bad rest = IsNoFrame rest

-- a frame lies within so many bytes, with the gate behind it
abbrev pub is_within : Next → ℕ → Type 0
is_within Closed size = Unit {0}
is_within (Frame puts taken) size = (9 ≤ taken) × (taken < size)
is_within Bad size = Unit {0}
