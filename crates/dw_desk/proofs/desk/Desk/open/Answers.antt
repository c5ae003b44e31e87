use Rattle.std.proofs.Common.{subst, refl, inl, inr, ℕ, Option}
use Rattle.dw_desk.specs.Accounts.{opened}
use Rattle.dw_desk.specs.Stands.{kept_of}
use Rattle.dw_desk.specs.Desk.{Gives}
use Rattle.dw_desk.proofs.Doing.{marks_changed, marks_same, opened_marks}
use Rattle.dw_desk.proofs.DeskLemmas.{state_same, created_some, created_none}
use Rattle.dw_desk.proofs.desk.Desk.open.Goals as goal

pub returns-in-Ok-Some-clause-does : goal.returns-in-Ok-Some-clause-does
returns-in-Ok-Some-clause-does c = λ w.
    let d = c.args.self.now in
    inl (created_some w d.callers c.give.new.callers c.args.caller.now c.args.query c.in-Ok-Some.number
    (subst (λ (o : Option ℕ). Gives d.callers c.give.new.callers c.args.caller.now c.args.query o) c.in-Ok-Some.field-0-is c.in-Ok-Some.ensures.gives))

pub returns-in-Ok-None-clause-does : goal.returns-in-Ok-None-clause-does
returns-in-Ok-None-clause-does c = λ w.
    let d = c.args.self.now in
    inl (created_none w d.callers c.give.new.callers c.args.caller.now c.args.query
    (subst (λ (o : Option ℕ). Gives d.callers c.give.new.callers c.args.caller.now c.args.query o) c.in-Ok-None.field-0-is c.in-Ok-None.ensures.gives))

pub returns-in-Ok-None-clause-refused : goal.returns-in-Ok-None-clause-refused
returns-in-Ok-None-clause-refused c = λ done.
    let d = c.args.self.now in
    (subst (λ (o : Option ℕ). Gives d.callers c.give.new.callers c.args.caller.now c.args.query o) c.in-Ok-None.field-0-is c.in-Ok-None.ensures.gives).1

pub returns-in-Err-clause-does : goal.returns-in-Err-clause-does
returns-in-Err-clause-does c = λ w.
    inr (inl (refl, state_same w c.args.self.now.callers c.give.new.callers c.in-Err.ensures.err, refl))

pub returns-in-Ok-Some-clause-marks : goal.returns-in-Ok-Some-clause-marks
returns-in-Ok-Some-clause-marks c = λ w is marks.
    let d = c.args.self.now in
    let gives = subst (λ (o : Option ℕ). Gives d.callers c.give.new.callers c.args.caller.now c.args.query o) c.in-Ok-Some.field-0-is c.in-Ok-Some.ensures.gives in
    marks_changed w d.callers c.give.new.callers c.args.caller.now (opened c.args.query) gives.2
    (opened_marks w c.args.query (kept_of d.callers c.args.caller.now) is (marks c.args.caller.now)) marks

pub returns-in-Ok-None-clause-marks : goal.returns-in-Ok-None-clause-marks
returns-in-Ok-None-clause-marks c = λ w is marks.
    let d = c.args.self.now in
    let gives = subst (λ (o : Option ℕ). Gives d.callers c.give.new.callers c.args.caller.now c.args.query o) c.in-Ok-None.field-0-is c.in-Ok-None.ensures.gives in
    marks_same w d.callers c.give.new.callers gives.1 marks

pub returns-in-Err-clause-marks : goal.returns-in-Err-clause-marks
returns-in-Err-clause-marks c = λ w is marks. marks_same w c.args.self.now.callers c.give.new.callers c.in-Err.ensures.err marks
