use Rattle.dw_journal.specs.Frames.{frames_of}
use Rattle.dw_journal.specs.Journal.{frame_in}
use Rattle.dw_journal.proofs.Gates.{stands_leaves}
use Rattle.dw_journal.proofs.Keeping.{could_hold}
use Rattle.dw_journal.proofs.laws.stops_leave_batches.Goals as goal

pub returns : goal.returns
returns c batches doubt s lawful doubtful stands file left = could_hold batches doubt file lawful doubtful (stands_leaves (frames_of batches) (frame_in doubt) s stands file left)
