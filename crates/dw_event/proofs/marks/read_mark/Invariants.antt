use Rattle.std.proofs.Common.{◌≡◌, length}
use Rattle.dw_event.specs.Marks.{after_mark}
use Rattle.dw_event.proofs.marks.read_mark.Given as goal

abbrev pub invariant-loop-rest : goal.invariant-loop-rest
invariant-loop-rest l = after_mark l.rest ≡ after_mark l.canonical

abbrev pub decreases-loop-rest : goal.decreases-loop-rest
decreases-loop-rest l = length l.rest
