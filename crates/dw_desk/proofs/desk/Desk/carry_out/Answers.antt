use Rattle.std.proofs.Common.{◌≡◌, ◌≤◌, ◌∙◌, ap, sym, subst, refl, inl, true, false, Ok, Option, List, ℕ}
use Rattle.dw_wire.specs.declared.request.Request.{Request}
use Rattle.dw_eval.specs.Bound.{bound}
use Rattle.dw_desk.specs.Step.{step, asked_for}
use Rattle.dw_desk.specs.Stands.{state_of}
use Rattle.dw_desk.specs.Desk.{Does, IsFormed, Meets, Replies}
use Rattle.dw_desk.proofs.Doing.{holds_kept, later_same, marks_same}
use Rattle.dw_desk.specs.Reads.{PageReads, defines, page_asked, reads_nothing, with_definition}
use Rattle.dw_desk.specs.Stands.{kept_of}
use Rattle.dw_desk.proofs.ReadLemmas.{apart, asked_of, none_asked}
use Rattle.dw_desk.proofs.desk.Desk.carry_out.Goals as goal

pub returns-in-Define-clause-does : goal.returns-in-Define-clause-does
unfolding step
returns-in-Define-clause-does g c = λ w stands formed.
    let P : Request → Type 0 = λ r. IsFormed (Ok r) → Does (g.K.Keeper.told c.define.new.keeper) c.define.new.self w (Replies g.U.UidMaker.digest (state_of w c.args.self.now) (Ok r) c.define.result) in
    subst P (sym c.in-Define.is) (λ f. c.define.ensures.does w stands.holds f) formed

pub returns-in-Grant-clause-does : goal.returns-in-Grant-clause-does
unfolding step
returns-in-Grant-clause-does g c = λ w stands formed.
    let P : Request → Type 0 = λ r. IsFormed (Ok r) → Does (g.K.Keeper.told c.grant.new.keeper) c.grant.new.self w (Replies g.U.UidMaker.digest (state_of w c.args.self.now) (Ok r) c.grant.result) in
    subst P (sym c.in-Grant.is) (λ f. c.grant.ensures.does w stands.holds f.0 f.1) formed

pub returns-in-Ingest-clause-does : goal.returns-in-Ingest-clause-does
unfolding step
returns-in-Ingest-clause-does g c = λ w stands formed.
    let P : Request → Type 0 = λ r. IsFormed (Ok r) → Does (g.K.Keeper.told c.ingest.new.keeper) c.ingest.new.self w (Replies g.U.UidMaker.digest (state_of w c.args.self.now) (Ok r) c.ingest.result) in
    subst P (sym c.in-Ingest.is) (λ f. c.ingest.ensures.does w stands.holds f.each) formed

pub returns-in-Create-clause-does : goal.returns-in-Create-clause-does
unfolding step
returns-in-Create-clause-does g c = λ w stands formed.
    let d = c.args.self.now in
    let s = state_of w d in
    let told = g.K.Keeper.told c.args.keeper.now in
    let P : Request → Type 0 = λ r. Does told c.create.new.self w (Replies g.U.UidMaker.digest s (Ok r) c.create.result) in
    let Q : Option (List (List ℕ)) → Type 0 = λ asked. Meets true false (asked_for s c.in-Create.caller c.in-Create.days c.in-Create.types c.in-Create.size asked (bound w.dict c.in-Create.query)) s c.create.result (state_of w c.create.new.self) in
    subst P (sym c.in-Create.is) (record {
      next = w;
      holds = holds_kept told told d c.create.new.self w refl c.create.ensures.rules stands.holds;
      later = later_same w w refl refl;
      is = subst Q c.as_ref.ensures.value (c.create.ensures.does w stands.holds.rules);
    })

pub returns-in-Page-clause-does : goal.returns-in-Page-clause-does
unfolding step
returns-in-Page-clause-does g c = λ w stands formed.
    let d = c.args.self.now in
    let told = g.K.Keeper.told c.page.new.keeper in
    let P : Request → Type 0 = λ r. Does told c.page.new.self w (Replies g.U.UidMaker.digest (state_of w d) (Ok r) c.page.result) in
    subst P (sym c.in-Page.is) (record {
      next = w;
      holds = holds_kept (g.K.Keeper.told c.args.keeper.now) told d c.page.new.self w c.page.ensures.told c.page.ensures.rules stands.holds;
      later = later_same w w refl refl;
      is = c.page.ensures.does w stands;
    })

pub returns-in-Close-clause-does : goal.returns-in-Close-clause-does
unfolding step
returns-in-Close-clause-does g c = λ w stands formed.
    let d = c.args.self.now in
    let told = g.K.Keeper.told c.args.keeper.now in
    let P : Request → Type 0 = λ r. Does told c.close.new.self w (Replies g.U.UidMaker.digest (state_of w d) (Ok r) c.close.result) in
    subst P (sym c.in-Close.is) (record {
      next = w;
      holds = holds_kept told told d c.close.new.self w refl c.close.ensures.rules stands.holds;
      later = later_same w w refl refl;
      is = inl (c.close.ensures.does w);
    })

pub returns-in-Define-clause-marks : goal.returns-in-Define-clause-marks
returns-in-Define-clause-marks g c = λ w stands. marks_same w c.args.self.now.callers c.define.new.self.callers c.define.ensures.accounts stands.marks

pub returns-in-Grant-clause-marks : goal.returns-in-Grant-clause-marks
returns-in-Grant-clause-marks g c = λ w stands. marks_same w c.args.self.now.callers c.grant.new.self.callers c.grant.ensures.accounts stands.marks

pub returns-in-Ingest-clause-marks : goal.returns-in-Ingest-clause-marks
returns-in-Ingest-clause-marks g c = λ w stands. marks_same w c.args.self.now.callers c.ingest.new.self.callers c.ingest.ensures.accounts stands.marks

pub returns-in-Create-clause-marks : goal.returns-in-Create-clause-marks
returns-in-Create-clause-marks g c = λ w stands. c.create.ensures.marks w stands.holds.rules stands.marks

pub returns-in-Page-clause-marks : goal.returns-in-Page-clause-marks
returns-in-Page-clause-marks g c = λ w stands. c.page.ensures.marks w stands

pub returns-in-Close-clause-marks : goal.returns-in-Close-clause-marks
returns-in-Close-clause-marks g c = λ w stands. c.close.ensures.marks w stands.marks

pub returns-in-Define-clause-unread : goal.returns-in-Define-clause-unread
returns-in-Define-clause-unread g c = λ none. apart (reads_nothing (Ok c.args.request.now)) (ap (λ r. reads_nothing (Ok r)) c.in-Define.is) none

pub returns-in-Define-clause-defined : goal.returns-in-Define-clause-defined
returns-in-Define-clause-defined g c = λ some is.
    let reads = g.K.Keeper.reads c.args.keeper.now in
    subst (λ (r : Request). g.K.Keeper.reads c.define.new.keeper ≡ with_definition c.args.self.now (Ok r) reads) (sym c.in-Define.is) (c.define.ensures.defined is)

pub returns-in-Define-clause-undefined : goal.returns-in-Define-clause-undefined
returns-in-Define-clause-undefined g c = λ some is. c.define.ensures.undefined is

pub returns-in-Define-clause-paged : goal.returns-in-Define-clause-paged
returns-in-Define-clause-paged g c = λ w p shown more stands asked some is.
    none_asked (page_asked c.args.self.now.callers (Ok c.args.request.now)) p (ap (λ r. page_asked c.args.self.now.callers (Ok r)) c.in-Define.is) asked

pub returns-in-Grant-clause-defined : goal.returns-in-Grant-clause-defined
returns-in-Grant-clause-defined g c = λ some is. apart (defines (Ok c.args.request.now)) (ap (λ r. defines (Ok r)) c.in-Grant.is) some

pub returns-in-Grant-clause-undefined : goal.returns-in-Grant-clause-undefined
returns-in-Grant-clause-undefined g c = λ some is. apart (defines (Ok c.args.request.now)) (ap (λ r. defines (Ok r)) c.in-Grant.is) some

pub returns-in-Grant-clause-paged : goal.returns-in-Grant-clause-paged
returns-in-Grant-clause-paged g c = λ w p shown more stands asked some is.
    none_asked (page_asked c.args.self.now.callers (Ok c.args.request.now)) p (ap (λ r. page_asked c.args.self.now.callers (Ok r)) c.in-Grant.is) asked

pub returns-in-Ingest-clause-unread : goal.returns-in-Ingest-clause-unread
returns-in-Ingest-clause-unread g c = λ none. apart (reads_nothing (Ok c.args.request.now)) (ap (λ r. reads_nothing (Ok r)) c.in-Ingest.is) none

pub returns-in-Ingest-clause-defined : goal.returns-in-Ingest-clause-defined
returns-in-Ingest-clause-defined g c = λ some is. apart (defines (Ok c.args.request.now)) (ap (λ r. defines (Ok r)) c.in-Ingest.is) some

pub returns-in-Ingest-clause-undefined : goal.returns-in-Ingest-clause-undefined
returns-in-Ingest-clause-undefined g c = λ some is. apart (defines (Ok c.args.request.now)) (ap (λ r. defines (Ok r)) c.in-Ingest.is) some

pub returns-in-Ingest-clause-paged : goal.returns-in-Ingest-clause-paged
returns-in-Ingest-clause-paged g c = λ w p shown more stands asked some is.
    none_asked (page_asked c.args.self.now.callers (Ok c.args.request.now)) p (ap (λ r. page_asked c.args.self.now.callers (Ok r)) c.in-Ingest.is) asked

pub returns-in-Create-clause-defined : goal.returns-in-Create-clause-defined
returns-in-Create-clause-defined g c = λ some is. apart (defines (Ok c.args.request.now)) (ap (λ r. defines (Ok r)) c.in-Create.is) some

pub returns-in-Create-clause-undefined : goal.returns-in-Create-clause-undefined
returns-in-Create-clause-undefined g c = λ some is. apart (defines (Ok c.args.request.now)) (ap (λ r. defines (Ok r)) c.in-Create.is) some

pub returns-in-Create-clause-paged : goal.returns-in-Create-clause-paged
returns-in-Create-clause-paged g c = λ w p shown more stands asked some is.
    none_asked (page_asked c.args.self.now.callers (Ok c.args.request.now)) p (ap (λ r. page_asked c.args.self.now.callers (Ok r)) c.in-Create.is) asked

pub returns-in-Page-clause-unread : goal.returns-in-Page-clause-unread
returns-in-Page-clause-unread g c = λ none. apart (reads_nothing (Ok c.args.request.now)) (ap (λ r. reads_nothing (Ok r)) c.in-Page.is) none

pub returns-in-Page-clause-defined : goal.returns-in-Page-clause-defined
returns-in-Page-clause-defined g c = λ some is. apart (defines (Ok c.args.request.now)) (ap (λ r. defines (Ok r)) c.in-Page.is) some

pub returns-in-Page-clause-undefined : goal.returns-in-Page-clause-undefined
returns-in-Page-clause-undefined g c = λ some is. apart (defines (Ok c.args.request.now)) (ap (λ r. defines (Ok r)) c.in-Page.is) some

pub returns-in-Page-clause-paged : goal.returns-in-Page-clause-paged
returns-in-Page-clause-paged g c = λ w p shown more stands asked some is.
    let d = c.args.self.now in
    let reads = g.K.Keeper.reads c.args.keeper.now in
    let now = g.K.Keeper.reads c.page.new.keeper in
    let here = asked_of ((kept_of d.callers c.in-Page.caller).queries c.in-Page.number) c.in-Page.page p (ap (λ r. page_asked d.callers (Ok r)) (sym c.in-Page.is) ∙ asked) in
    subst (λ (n : ℕ). PageReads w (p.0, n) c.args.settings.now.workers reads now) here.1
    (c.page.ensures.paged w p.0 shown more stands here.0 (subst (λ (n : ℕ). 1 ≤ n) (sym here.1) some) is)

pub returns-in-Close-clause-defined : goal.returns-in-Close-clause-defined
returns-in-Close-clause-defined g c = λ some is. apart (defines (Ok c.args.request.now)) (ap (λ r. defines (Ok r)) c.in-Close.is) some

pub returns-in-Close-clause-undefined : goal.returns-in-Close-clause-undefined
returns-in-Close-clause-undefined g c = λ some is. apart (defines (Ok c.args.request.now)) (ap (λ r. defines (Ok r)) c.in-Close.is) some

pub returns-in-Close-clause-paged : goal.returns-in-Close-clause-paged
returns-in-Close-clause-paged g c = λ w p shown more stands asked some is.
    none_asked (page_asked c.args.self.now.callers (Ok c.args.request.now)) p (ap (λ r. page_asked c.args.self.now.callers (Ok r)) c.in-Close.is) asked
