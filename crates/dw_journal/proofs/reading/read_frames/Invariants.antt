use Rattle.std.proofs.Common.{◌≡◌, ◌≤◌, ◌-◌, drop, vec_len}
use Rattle.dw_outside.specs.Disks.{Now}
use Rattle.dw_journal.specs.Reading.{ShowsFrom}
use Rattle.dw_journal.proofs.Batches.{ReadTo}
use Rattle.dw_journal.proofs.reading.read_frames.Given as goal

abbrev pub invariant-loop-place : goal.invariant-loop-place
invariant-loop-place g l = record {
  within : l.start ≤ vec_len l.buf;
  same : g.D.Disk.model l.disk ≡ g.D.Disk.model l.fn.disk;
  counted : g.D.Disk.faults l.fn.disk ≤ g.D.Disk.faults l.disk;
  shows : Now (ShowsFrom l.place (drop l.start l.buf.items)) (g.D.Disk.model l.disk);
  read : Now (λ s. ReadTo s.seen l.place l.store) (g.D.Disk.model l.fn.disk);
}

abbrev pub decreases-loop-place : goal.decreases-loop-place
decreases-loop-place g l = l.size - l.place
