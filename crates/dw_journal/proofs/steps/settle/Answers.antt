use Rattle.std.proofs.Common.{Bool, sym, subst}
use Rattle.dw_journal.specs.Fixed.{GateStands}
use Rattle.dw_journal.proofs.Results.{on_err}
use Rattle.dw_journal.proofs.Gates.{closed_stands, doubt_since, doubt_stays}
use Rattle.dw_journal.proofs.steps.settle.Goals as goal

pub returns-in_err-close_gate-clause-unsettled : goal.returns-in_err-close_gate-clause-unsettled
returns-in_err-close_gate-clause-unsettled g c frames doubt stands =
    let gate = c.args.gate in
    let open_or_not = subst (λ (b : Bool). GateStands (g.D.Disk.model c.args.disk.now) frames doubt gate b) c.if-in_doubt.true stands in
    on_err c.from_residual.result _ (subst (λ (b : Bool). GateStands (g.D.Disk.model c.close_gate.new.disk) frames doubt gate b) (sym c.if-in_doubt.true) (doubt_stays frames gate doubt _ _ c.close_gate.ensures.moments open_or_not))

pub returns-in_err-close_gate-clause-moments : goal.returns-in_err-close_gate-clause-moments
returns-in_err-close_gate-clause-moments g c frames doubt stands =
    doubt_since frames c.args.gate doubt _ _ c.close_gate.ensures.moments (subst (λ (b : Bool). GateStands (g.D.Disk.model c.args.disk.now) frames doubt c.args.gate b) c.if-in_doubt.true stands)

pub returns-in_ok-close_gate-clause-settled : goal.returns-in_ok-close_gate-clause-settled
returns-in_ok-close_gate-clause-settled g c frames doubt stands =
    closed_stands frames c.args.gate doubt _ _ c.in_ok-close_gate.ensures.closed (subst (λ (b : Bool). GateStands (g.D.Disk.model c.args.disk.now) frames doubt c.args.gate b) c.if-in_doubt.true stands)

pub returns-in_ok-close_gate-clause-moments : goal.returns-in_ok-close_gate-clause-moments
returns-in_ok-close_gate-clause-moments g c frames doubt stands =
    doubt_since frames c.args.gate doubt _ _ c.close_gate.ensures.moments (subst (λ (b : Bool). GateStands (g.D.Disk.model c.args.disk.now) frames doubt c.args.gate b) c.if-in_doubt.true stands)
