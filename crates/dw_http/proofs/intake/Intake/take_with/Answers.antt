use Rattle.std.proofs.Common.{[], take, refl, sym, ap, ◌∙◌, arith, length-take}
use Rattle.dw_http.specs.declared.intake.Stop.TheVariants.{TooMuch, ReadFault}
use Rattle.dw_http.specs.Held.{Held}
use Rattle.dw_http.proofs.Taken.{halted}
use Rattle.dw_http.proofs.intake.Intake.take_with.Goals as goal

pub returns-in-Err-clause-ok : goal.returns-in-Err-clause-ok
returns-in-Err-clause-ok g c =
    halted (g.L.Link.meaning c.args.link.now) (g.L.Link.meaning c.receive.new.self) c.in-Err.ensures.counted c.in-Err.ensures.writing c.args.self.now c.halt.new.self ReadFault [] c.halt.ensures c.in-Err.ensures.bytes (refl, c.in-Err.ensures.failed)

pub returns-in-Ok-clause-ok : goal.returns-in-Ok-clause-ok
returns-in-Ok-clause-ok g c =
    halted (g.L.Link.meaning c.args.link.now) (g.L.Link.meaning c.receive.new.self) c.in-Ok.ensures.counted c.in-Ok.ensures.writing c.args.self.now c.halt-in-Ok.new.self TooMuch (take c.in-Ok.field-0 c.receive.new.buf) c.halt-in-Ok.ensures c.in-Ok.ensures.bytes (ap (λ (h : Held). h.budget) (sym c.self.view_is) ∙ c.if-self-eq0.true, omega (arith, length-take c.in-Ok.field-0 c.receive.new.buf, c.in-Ok.field-0-test, c.in-Ok.ensures.bound))
