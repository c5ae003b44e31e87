use Rattle.std.proofs.Common.{◌≡◌, ◌++◌, drop}
use Rattle.std.specs.List.{flat_map}
use Rattle.dw_derive.specs.Entries.{event_of, cell_entries, entries_of}
use Rattle.dw_derive.proofs.event_cells.entries.Given as goal

abbrev pub invariant-loop-cell : goal.invariant-loop-cell
invariant-loop-cell l = l.all.items ++ flat_map (cell_entries l.dict (event_of l.event)) (drop l.cell-index l.event.cells) ≡ entries_of l.dict (event_of l.event)
