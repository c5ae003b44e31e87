use Rattle.std.proofs.Common.{ℕ, List, ◌++◌, map, sym, ap, ◌∙◌}
use Rattle.std.specs.FinMap.{entries}
use Rattle.std.proofs.lemmas.List.{append-nil}
use Rattle.dw_outside.specs.declared.slot.Slot.{Slot}
use Rattle.dw_outside.specs.declared.cell.Put.{Put}
use Rattle.dw_outside.proofs.CellMaps.{entries_are}
use Rattle.dw_outside.proofs.store.Store.puts.Goals as goal

abbrev put_at : Slot × List ℕ → Put
put_at e = record { table = e.0.table; key = e.0.key; content = e.1 }

pub returns : goal.returns
returns c =
    sym (append-nil c.loop-slot.puts.items)
    ∙ ap (λ (es : List (Slot × List ℕ)). c.loop-slot.puts.items ++ map put_at es) (sym c.in-None.ensures.steps.0)
    ∙ c.loop-slot.invariant
    ∙ ap (map put_at) (c.into_iter-slot-iterator.ensures.into_iter_gives ∙ c.iter-slot-items.ensures.rest ∙ sym (entries_are c.self.inside.cells.entries c.iter-slot-items.ensures.ordered) ∙ ap entries c.self.view_is)
