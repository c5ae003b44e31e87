use Rattle.std.proofs.Common.{◌-◌, length}
use Rattle.dw_key.proofs.Places.{IsHalfRead}
use Rattle.dw_key.proofs.decoding.unescaped.Given as goal

abbrev pub invariant-loop-at : goal.invariant-loop-at
invariant-loop-at l = IsHalfRead l.text l.part l.at

abbrev pub decreases-loop-at : goal.decreases-loop-at
decreases-loop-at l = length l.text - l.at
