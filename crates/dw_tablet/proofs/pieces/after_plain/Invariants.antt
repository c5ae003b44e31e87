use Rattle.std.proofs.Common.{◌≡◌, ℕ, List, ◌++◌, drop}
use Rattle.std.specs.Ordering.{nat_cmp}
use Rattle.std.specs.Cmp.Lexicographic.{slice_cmp}
use Rattle.dw_key.specs.KeyCode.{escaped}
use Rattle.dw_tablet.specs.Positions.{pieces_bytes}
use Rattle.dw_tablet.proofs.pieces.after_plain.Given as goal

abbrev pub invariant-loop-byte : goal.invariant-loop-byte
invariant-loop-byte l = (x : List ℕ) → slice_cmp nat_cmp (drop l.byte-index l.bytes ++ x) l.rest ≡ slice_cmp nat_cmp (l.bytes ++ x) l.place
