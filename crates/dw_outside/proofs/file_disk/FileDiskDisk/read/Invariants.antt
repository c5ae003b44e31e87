use Rattle.std.proofs.Common.{◌≤◌, length}
use Rattle.dw_outside.proofs.file_disk.FileDiskDisk.read.Given as goal

abbrev pub invariant-loop-turn : goal.invariant-loop-turn
invariant-loop-turn l = record {
  within : l.count ≤ length l.buf;
  counted : l.initial.self-inside.faults ≤ l.self-inside.faults;
}
