use Rattle.std.proofs.Common.{◌≡◌, ◌++◌, drop}
use Rattle.dw_key.specs.KeyCode.{escaped}
use Rattle.dw_tablet.specs.Positions.{pieces_bytes}
use Rattle.dw_tablet.proofs.pieces.put_escaped.Given as goal

abbrev pub invariant-loop-byte : goal.invariant-loop-byte
invariant-loop-byte l = l.all.items ++ escaped (drop l.byte-index l.text) ≡ l.initial.all.items ++ escaped l.text
