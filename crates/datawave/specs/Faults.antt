-- Counts of faults, which stand still at the last value of 64 bits.
use Rattle.std.specs.Prelude.{ℕ, ◌+◌, ◌-◌, ◌^◌, ◌≤◌, min}

-- the count rose by so many or more, or stands at its last value
abbrev pub RoseBy : ℕ → ℕ → ℕ → Type 0
RoseBy faults before after = min (before + faults) (2 ^ 64 - 1) ≤ after
