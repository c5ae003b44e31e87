use Rattle.std.proofs.Common.{◌-◌, length}
use Rattle.dw_pool.specs.Waves.{Works}
use Rattle.dw_pool.proofs.wave.work_through.Given as goal

abbrev pub invariant-loop-number : goal.invariant-loop-number
invariant-loop-number g l = Works g.J.Job.gives l.jobs l.claims l.worker

abbrev pub decreases-loop-number : goal.decreases-loop-number
decreases-loop-number g l = length l.jobs - length l.worker.pass.numbers
