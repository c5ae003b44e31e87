use Rattle.std.proofs.Common.{◌≡◌, ◌++◌, drop}
use Rattle.std.specs.List.{flat_map}
use Rattle.dw_derive.specs.Entries.{event_of}
use Rattle.dw_derive.specs.Indexing.{cell_adds, entries_added}
use Rattle.dw_derive.proofs.event_cells.entries_added.Given as goal

abbrev pub invariant-loop-cell : goal.invariant-loop-cell
invariant-loop-cell l = l.all.items ++ flat_map (cell_adds l.field l.old l.rule (event_of l.event)) (drop l.cell-index l.event.cells) ≡ entries_added l.field l.old l.rule (event_of l.event)
