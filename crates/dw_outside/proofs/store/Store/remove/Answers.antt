use Rattle.std.proofs.Common.{ap, ◌∙◌}
use Rattle.std.specs.FinMap as map
use Rattle.dw_outside.proofs.CellMaps.{one_removed}
use Rattle.dw_outside.proofs.store.Store.remove.Goals as goal

pub returns : goal.returns
returns c =
    one_removed c.self.inside.cells.entries c.remove.new.self.entries c.args.slot.now c.remove.ensures.updates.0
    ∙ ap (λ m. map.remove m c.args.slot.now) c.self.view_is
