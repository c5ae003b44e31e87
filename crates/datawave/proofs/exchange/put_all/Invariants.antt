use Rattle.std.proofs.Common.{◌≤◌, length}
use Rattle.datawave.proofs.Sessions.{Putting}
use Rattle.datawave.proofs.exchange.put_all.Given as goal

abbrev pub invariant-loop-rest : goal.invariant-loop-rest
invariant-loop-rest g l = record {
  counted : g.O.Sink.faults l.fn.output ≤ g.O.Sink.faults l.output;
  putting : Putting (g.O.Sink.taken l.fn.output) l.text l.rest (g.O.Sink.taken l.output);
}

abbrev pub decreases-loop-rest : goal.decreases-loop-rest
decreases-loop-rest g l = length l.rest
