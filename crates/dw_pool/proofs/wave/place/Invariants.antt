use Rattle.std.proofs.Common.{◌≡◌, length}
use Rattle.dw_pool.specs.Waves.{placed}
use Rattle.dw_pool.proofs.wave.place.Given as goal

abbrev pub invariant-loop-number : goal.invariant-loop-number
invariant-loop-number g l =
    (goal.iterator-loop-number g).can_next l.number-iterator
    × (goal.iterator-loop-number g).is_finite l.number-iterator
    × (l.slots.items ≡ placed l.initial.slots.items l.yielded)
    × (length l.slots.items ≡ length l.initial.slots.items)
