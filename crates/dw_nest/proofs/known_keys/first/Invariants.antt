use Rattle.std.proofs.Common.{◌≡◌, None, find, take}
use Rattle.dw_nest.specs.Bounds.{meets}
use Rattle.dw_nest.proofs.known_keys.first.Given as goal

abbrev pub invariant-loop-key : goal.invariant-loop-key
invariant-loop-key l = find (meets l.bound) (take l.key-index l.keys) ≡ None
