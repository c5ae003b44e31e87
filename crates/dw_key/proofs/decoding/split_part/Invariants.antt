use Rattle.std.proofs.Common.{◌≤◌, ◌-◌, length, take}
use Rattle.dw_key.specs.KeyFaults.{IsEscaped}
use Rattle.dw_key.proofs.decoding.split_part.Given as goal

abbrev pub invariant-loop-at : goal.invariant-loop-at
invariant-loop-at l = (l.at ≤ length l.bytes) × IsEscaped (take l.at l.bytes)

abbrev pub decreases-loop-at : goal.decreases-loop-at
decreases-loop-at l = length l.bytes - l.at
