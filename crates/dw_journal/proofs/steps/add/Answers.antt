use Rattle.std.proofs.Common.{inl, inr, refl}
use Rattle.dw_journal.proofs.Adding.{first, both}
use Rattle.dw_journal.proofs.Results.{on_err}
use Rattle.dw_journal.proofs.Gates.{rest_stays, now_in_doubt, now_added}
use Rattle.dw_journal.proofs.steps.add.Goals as goal

pub returns-in_err-write_frame-clause-refused : goal.returns-in_err-write_frame-clause-refused
returns-in_err-write_frame-clause-refused g c frames body same stands =
    on_err c.from_residual.result _ (inl (rest_stays frames c.args.gate.now body _ _ c.args.in_doubt.now c.write_frame.ensures.moments stands))

pub returns-in_err-write_frame-clause-moments : goal.returns-in_err-write_frame-clause-moments
returns-in_err-write_frame-clause-moments g c frames body same stands = first frames body c.args.gate.now stands.place _ _ c.write_frame.ensures.moments stands.disk

pub returns-in_err-open_gate-clause-refused : goal.returns-in_err-open_gate-clause-refused
returns-in_err-open_gate-clause-refused g c frames body same stands =
    on_err c.from_residual-in_err-open_gate.result _
    (inr (now_in_doubt frames c.args.gate.now body _ _ _ c.args.frame.now c.args.in_doubt.now same c.in_ok-write_frame.ensures.written c.open_gate.ensures.moments stands))

pub returns-in_err-open_gate-clause-moments : goal.returns-in_err-open_gate-clause-moments
returns-in_err-open_gate-clause-moments g c frames body same stands =
    both frames body c.args.gate.now stands.place _ _ _ c.args.frame.now same c.write_frame.ensures.moments c.in_ok-write_frame.ensures.written c.open_gate.ensures.moments stands.disk

pub returns-clause-added : goal.returns-clause-added
returns-clause-added g c frames body same stands =
    now_added frames c.args.gate.now body _ _ _ c.args.frame.now c.args.in_doubt.now _ same c.in_ok-write_frame.ensures.written c.in_ok-open_gate.ensures.written refl stands

pub returns-clause-moments : goal.returns-clause-moments
returns-clause-moments g c frames body same stands =
    both frames body c.args.gate.now stands.place _ _ _ c.args.frame.now same c.write_frame.ensures.moments c.in_ok-write_frame.ensures.written c.open_gate.ensures.moments stands.disk
