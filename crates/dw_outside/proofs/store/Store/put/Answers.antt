use Rattle.std.proofs.Common.{ap, sym, ◌∙◌}
use Rattle.std.specs.FinMap as map
use Rattle.dw_outside.proofs.CellMaps.{get_cell, on_err, one_put}
use Rattle.dw_outside.proofs.store.Store.put.Goals as goal

pub returns-in_err-was-clause-new : goal.returns-in_err-was-clause-new
returns-in_err-was-clause-new c =
    on_err c.from_residual.result
    (ap (λ m. map.get m c.args.slot) (sym c.self.view_is) ∙ (get_cell c.self.inside.cells.entries c.args.slot ∙ c.in_err-was.ensures.absent))

pub returns-clause-ok : goal.returns-clause-ok
returns-clause-ok c =
    one_put c.self.inside.cells.entries c.insert.new.self.entries c.args.slot c.args.content c.in_ok-was.ensures.updates.0
    ∙ ap (λ m. map.insert m c.args.slot c.args.content) c.self.view_is

pub returns-clause-was : goal.returns-clause-was
returns-clause-was c =
    c.in_ok-was.ensures.old ∙ (sym (get_cell c.self.inside.cells.entries c.args.slot) ∙ ap (λ m. map.get m c.args.slot) c.self.view_is)
