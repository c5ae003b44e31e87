use Rattle.std.proofs.Common.{ap, sym, ◌∙◌}
use Rattle.std.specs.FinMap as map
use Rattle.dw_outside.proofs.CellMaps.{get_cell}
use Rattle.dw_outside.proofs.store.Store.get.Goals as goal

pub returns : goal.returns
returns c = c.get.ensures.value ∙ sym (get_cell c.self.inside.cells.entries c.args.slot.now) ∙ ap (λ m. map.get m c.args.slot.now) c.self.view_is
