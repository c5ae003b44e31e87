use Rattle.std.proofs.Common.{true, false}
use Rattle.dw_desk.specs.Accounts.{closed}
use Rattle.dw_desk.specs.Stands.{kept_of}
use Rattle.dw_desk.proofs.DeskLemmas.{dropped_is, dropped_none}
use Rattle.dw_desk.proofs.Doing.{closed_marks, marks_changed}
use Rattle.dw_desk.proofs.desk.Desk.close.Goals as goal

pub returns-then-close-clause-does : goal.returns-then-close-clause-does
returns-then-close-clause-does c = λ w.
    let d = c.args.self.now in
    dropped_is w d.callers c.close.new.callers c.args.caller.now c.args.number true c.close.result c.close.ensures.closed c.close.ensures.found c.if-close.true

pub returns-else-close-clause-does : goal.returns-else-close-clause-does
returns-else-close-clause-does c = λ w.
    let d = c.args.self.now in
    dropped_is w d.callers c.close.new.callers c.args.caller.now c.args.number false c.close.result c.close.ensures.closed c.close.ensures.found c.if-close.false

pub returns-else-close-clause-refused : goal.returns-else-close-clause-refused
returns-else-close-clause-refused c = λ done.
    dropped_none c.args.self.now.callers c.close.new.callers c.args.caller.now c.args.number c.close.result c.close.ensures.closed c.close.ensures.found c.if-close.false

pub returns-then-close-clause-marks : goal.returns-then-close-clause-marks
returns-then-close-clause-marks c = λ w marks.
    let d = c.args.self.now in
    marks_changed w d.callers c.close.new.callers c.args.caller.now (closed c.args.number) c.close.ensures.closed
    (closed_marks w c.args.number (kept_of d.callers c.args.caller.now) (marks c.args.caller.now)) marks

pub returns-else-close-clause-marks : goal.returns-else-close-clause-marks
returns-else-close-clause-marks c = λ w marks.
    let d = c.args.self.now in
    marks_changed w d.callers c.close.new.callers c.args.caller.now (closed c.args.number) c.close.ensures.closed
    (closed_marks w c.args.number (kept_of d.callers c.args.caller.now) (marks c.args.caller.now)) marks
