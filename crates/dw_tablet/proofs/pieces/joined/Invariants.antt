use Rattle.std.proofs.Common.{◌≡◌, ◌++◌, drop}
use Rattle.dw_key.specs.KeyCode.{escaped}
use Rattle.dw_tablet.specs.Positions.{pieces_bytes}
use Rattle.dw_tablet.proofs.pieces.joined.Given as goal

abbrev pub invariant-loop-piece : goal.invariant-loop-piece
invariant-loop-piece l = l.all.items ++ pieces_bytes (drop l.piece-index l.pieces) ≡ pieces_bytes l.pieces
