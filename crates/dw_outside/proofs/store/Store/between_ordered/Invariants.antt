use Rattle.std.proofs.Common.{◌≡◌, ◌≤◌, ◌++◌, length, ℕ, List, map}
use Rattle.std.specs.Prelude.{◌⊎◌}
use Rattle.dw_outside.specs.declared.slot.Slot.{Slot}
use Rattle.dw_outside.specs.Tables.{cell_pair}
use Rattle.dw_outside.proofs.store.Store.between_ordered.Given as goal

-- the cells so far and those to come
abbrev pub invariant-loop-slot : goal.invariant-loop-slot
invariant-loop-slot l =
    (map cell_pair l.cells.items ++ map (λ (e : Slot × List ℕ). (e.0.key, e.1)) l.slot-iterator ≡ map (λ (e : Slot × List ℕ). (e.0.key, e.1)) l.initial.slot-iterator)
    × ((l.limit ≡ 0) ⊎ (length l.cells.items ≤ l.limit))
