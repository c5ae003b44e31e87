use Rattle.std.proofs.Common.{◌≡◌, ◌≤◌, length, map, vec_capacity}
use Rattle.std.specs.Prelude.{Some}
use Rattle.dw_pool.proofs.wave.filled.Given as goal

abbrev pub invariant-loop-slot : goal.invariant-loop-slot
invariant-loop-slot g l =
    (goal.iterator-loop-slot g).can_next l.slot-iterator
    × (goal.iterator-loop-slot g).is_finite l.slot-iterator
    × (map Some l.outs.items ≡ l.yielded)
    × (length l.fn.slots.items ≤ vec_capacity l.outs)
