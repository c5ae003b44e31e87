use Rattle.std.proofs.Common.{IfOk, sym, subst, option_map}
use Rattle.std.proofs.lemmas.Result.{IfOk-weaker}
use Rattle.dw_wire.specs.WellFormed.{IsWellFormed}
use Rattle.dw_wire.proofs.KeptRoutes.{route_kept}
use Rattle.dw_wire.proofs.reading.read_route.Goals as goal

pub returns-clause-well_formed : goal.returns-clause-well_formed
returns-clause-well_formed c =
    IfOk-weaker c.read_by.result _ _ (λ _ h. subst (λ r. IfOk r IsWellFormed) (sym h) (route_kept c.args.route (option_map (λ s. s.now) c.args.caller) c.args.number.now c.args.page.now c.args.body.now)) c.read_by.ensures
