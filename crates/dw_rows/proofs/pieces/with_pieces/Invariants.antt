use Rattle.std.proofs.Common.{◌≡◌, length}
use Rattle.dw_rows.specs.Gathering.{with_entries}
use Rattle.dw_rows.specs.CsvRecords.{tokens, cut_at_none, pieces, piece_entries}
use Rattle.dw_rows.proofs.pieces.with_pieces.Given as goal

abbrev pub invariant-loop-token : goal.invariant-loop-token
invariant-loop-token l =
    with_entries l.fn.gathered (piece_entries l.field l.vis (pieces l.cell))
    ≡ with_entries l.gathered (piece_entries l.field l.vis (cut_at_none l.piece.items (tokens l.rest)))

abbrev pub decreases-loop-token : goal.decreases-loop-token
decreases-loop-token l = length l.rest
