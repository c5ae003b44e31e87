use Rattle.std.proofs.Common.{◌<◌, ◌≤◌}
use Rattle.std.specs.Io.KnownBytes.{Keeps}
use Rattle.dw_outside.specs.Faults.{Rose}
use Rattle.dw_outside.proofs.again.read_again.Given as goal

abbrev pub invariant-loop-turn : goal.invariant-loop-turn
invariant-loop-turn g l = record {
  counted : l.fn.faults ≤ l.faults;
  rose : 0 < l._turn → Rose l.fn.faults l.faults;
  kept : Keeps (g.R.Read.remaining l.fn.reader) (g.R.Read.remaining l.reader);
}
