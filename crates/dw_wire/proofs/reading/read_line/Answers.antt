use Rattle.std.proofs.Common.{IfOk, sym, subst}
use Rattle.std.proofs.lemmas.Result.{IfOk-weaker}
use Rattle.dw_wire.specs.WellFormed.{IsWellFormed}
use Rattle.dw_wire.proofs.KeptRequests.{line_kept}
use Rattle.dw_wire.proofs.reading.read_line.Goals as goal

pub returns-clause-well_formed : goal.returns-clause-well_formed
returns-clause-well_formed c = IfOk-weaker c.read.result _ _ (λ _ h. subst (λ r. IfOk r IsWellFormed) (sym h) (line_kept c.args.line.now)) c.read.ensures
