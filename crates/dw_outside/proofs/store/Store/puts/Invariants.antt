use Rattle.std.proofs.Common.{ℕ, List, ◌≡◌, ◌++◌, map}
use Rattle.dw_outside.specs.declared.slot.Slot.{Slot}
use Rattle.dw_outside.specs.declared.cell.Put.{Put}
use Rattle.dw_outside.proofs.store.Store.puts.Given as goal

abbrev put_at : Slot × List ℕ → Put
put_at e = record { table = e.0.table; key = e.0.key; content = e.1 }

-- the puts so far and those to come
abbrev pub invariant-loop-slot : goal.invariant-loop-slot
invariant-loop-slot l = l.puts.items ++ map put_at l.slot-iterator ≡ map put_at l.initial.slot-iterator
