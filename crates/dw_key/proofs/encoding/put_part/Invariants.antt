use Rattle.std.proofs.Common.{◌≡◌, ◌++◌, take}
use Rattle.dw_key.specs.KeyCode.{escaped}
use Rattle.dw_key.proofs.encoding.put_part.Given as goal

abbrev pub invariant-loop-byte : goal.invariant-loop-byte
invariant-loop-byte l = l.out.items ≡ l.initial.out.items ++ escaped (take l.byte-index l.part)
