use Rattle.std.proofs.Common.{◌≡◌, ◌≤◌, length, map, vec_capacity}
use Rattle.std.specs.List.{flat_map}
use Rattle.dw_pool.specs.Waves.{placed}
use Rattle.dw_pool.proofs.wave.collect.Given as goal

abbrev pub invariant-loop-worker : goal.invariant-loop-worker
invariant-loop-worker g l =
    (goal.iterator-loop-worker g).can_next l.worker-iterator
    × (goal.iterator-loop-worker g).is_finite l.worker-iterator
    × (l.passes.items ≡ map (λ w. w.pass) l.yielded)
    × (length l.fn.team.items ≤ vec_capacity l.passes)
    × (l.slots.items ≡ placed l.initial.slots.items (flat_map (λ w. w.pairs.items) l.yielded))
    × (length l.slots.items ≡ length l.initial.slots.items)
