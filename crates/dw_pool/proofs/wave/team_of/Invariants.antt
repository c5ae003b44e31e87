use Rattle.std.proofs.Common.{◌≡◌, length}
use Rattle.std.specs.List.{All}
use Rattle.dw_pool.specs.Waves.{Works}
use Rattle.dw_pool.proofs.wave.team_of.Given as goal

abbrev pub invariant-loop-pass : goal.invariant-loop-pass
invariant-loop-pass g l =
    (goal.iterator-loop-pass g).can_next l.pass-iterator
    × (goal.iterator-loop-pass g).is_finite l.pass-iterator
    × (length l.team.items ≡ length l.yielded)
    × All (Works g.J.Job.gives l.jobs l.claims) l.team.items
