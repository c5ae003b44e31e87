use Rattle.std.proofs.Common.{ap, ◌∙◌, Result, Ok, sym, subst, inl, refl}
use Rattle.dw_wire.specs.declared.request.Request.{Request}
use Rattle.dw_wire.specs.declared.request.Why.{Why}
use Rattle.dw_wire.specs.declared.reply.Reply.TheVariants.{Malformed}
use Rattle.dw_desk.specs.Step.{step}
use Rattle.dw_desk.specs.Stands.{state_of}
use Rattle.dw_desk.specs.Desk.{Answered, IsFormed, Replies}
use Rattle.dw_desk.specs.Reads.{defines, page_asked, reads_nothing, with_definition}
use Rattle.dw_desk.proofs.Doing.{answered_from}
use Rattle.dw_desk.proofs.ReadLemmas.{none_asked}
use Rattle.dw_desk.proofs.desk.Desk.answer.Goals as goal

pub returns-in-Err-clause-answered : goal.returns-in-Err-clause-answered
unfolding step
returns-in-Err-clause-answered g c = λ w stands formed.
    let s = state_of w c.args.self.now in
    record {
      next = w;
      stands = stands;
      is = subst (λ (r : Result Request Why). Replies g.U.UidMaker.digest s r (Malformed c.in-Err.why) s) (sym c.in-Err.is) (inl (refl, refl));
    }

pub returns-in-Ok-clause-answered : goal.returns-in-Ok-clause-answered
returns-in-Ok-clause-answered g c = λ w stands formed.
    let d = c.args.self.now in
    let told = g.K.Keeper.told c.carry_out.new.keeper in
    let P : Result Request Why → Type 0 = λ r. IsFormed r → Answered told c.carry_out.new.self (Replies g.U.UidMaker.digest (state_of w d) r c.carry_out.result) in
    subst P (sym c.in-Ok.is) (λ f. answered_from c.bound_are_ruled.ensures g.U.UidMaker.digest told c.carry_out.new.self w (state_of w d) (Ok c.in-Ok.request) c.carry_out.result stands.queries f (c.carry_out.ensures.marks w stands) (c.carry_out.ensures.does w stands f)) formed

pub returns-in-Err-clause-paged : goal.returns-in-Err-clause-paged
returns-in-Err-clause-paged g c = λ w p shown more stands asked some is.
    none_asked (page_asked c.args.self.now.callers c.args.request.now) p (ap (page_asked c.args.self.now.callers) c.in-Err.is) asked

pub returns-in-Ok-clause-unread : goal.returns-in-Ok-clause-unread
returns-in-Ok-clause-unread g c = λ none. c.carry_out.ensures.unread (ap reads_nothing (sym c.in-Ok.is) ∙ none)

pub returns-in-Ok-clause-defined : goal.returns-in-Ok-clause-defined
returns-in-Ok-clause-defined g c = λ some is.
    c.carry_out.ensures.defined (ap defines (sym c.in-Ok.is) ∙ some) is ∙ ap (λ r. with_definition c.args.self.now r (g.K.Keeper.reads c.args.keeper.now)) (sym c.in-Ok.is)

pub returns-in-Ok-clause-undefined : goal.returns-in-Ok-clause-undefined
returns-in-Ok-clause-undefined g c = λ some is. c.carry_out.ensures.undefined (ap defines (sym c.in-Ok.is) ∙ some) is

pub returns-in-Ok-clause-paged : goal.returns-in-Ok-clause-paged
returns-in-Ok-clause-paged g c = λ w p shown more stands asked some is.
    c.carry_out.ensures.paged w p shown more stands (ap (page_asked c.args.self.now.callers) (sym c.in-Ok.is) ∙ asked) some is
