use Rattle.std.proofs.Common.{◌≡◌, ℕ, List, ◌++◌, drop}
use Rattle.std.specs.Ordering.{nat_cmp}
use Rattle.std.specs.Cmp.Lexicographic.{slice_cmp}
use Rattle.dw_key.specs.KeyCode.{escaped}
use Rattle.dw_tablet.specs.Positions.{pieces_bytes}
use Rattle.dw_tablet.proofs.pieces.compare.Given as goal

abbrev pub invariant-loop-piece : goal.invariant-loop-piece
invariant-loop-piece l = slice_cmp nat_cmp (pieces_bytes (drop l.piece-index l.pieces)) l.rest ≡ slice_cmp nat_cmp (pieces_bytes l.pieces) l.place
