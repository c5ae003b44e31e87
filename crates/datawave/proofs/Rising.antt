-- On counts of faults.
use Rattle.std.proofs.Common.{◌≤◌, ◌+◌, ℕ, arith}
use Rattle.dw_outside.specs.Faults.{Rose}
use Rattle.datawave.specs.Faults.{RoseBy}

pub rose_none : (before after : ℕ) → before ≤ after → RoseBy 0 before after
rose_none before after h = omega arith

pub rose_one : (before after : ℕ) → Rose before after → RoseBy 1 before after
rose_one before after h = h

-- what two stretches come to together
pub rose_then : (before between after m n : ℕ) → RoseBy m before between → RoseBy n between after → RoseBy (m + n) before after
rose_then before between after m n h k = omega arith
