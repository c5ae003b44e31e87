use Rattle.std.proofs.Common.{◌≡◌, None, find, take}
use Rattle.dw_nest.specs.Leaves.{spot_meets}
use Rattle.dw_scan.proofs.partly_known_keys.first.Given as goal

abbrev pub invariant-loop-spot : goal.invariant-loop-spot
invariant-loop-spot l = find (spot_meets l.bound) (take l.spot-index l.spots) ≡ None
