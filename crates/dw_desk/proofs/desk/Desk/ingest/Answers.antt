use Rattle.std.proofs.Common.{◌≡◌, ◌≢◌, refl, sym, ap, ◌∙◌, inl, inr, subst, arith, List, Result, Err, Some}
use Rattle.dw_event.specs.declared.records.Record.{Record}
use Rattle.dw_event.specs.declared.reports.BadRecord.{BadRecord}
use Rattle.dw_event.specs.Take.{Taken, taken, last_after, report_of}
use Rattle.dw_derive.specs.Tables.{tables}
use Rattle.dw_derive.specs.Lawful.{IsWorld}
use Rattle.dw_ingest.specs.Going.{AreWellFormed}
use Rattle.dw_ingest.specs.Ingested.{after_taken}
use Rattle.dw_wire.specs.declared.reply.Reply.TheVariants.{Ingested}
use Rattle.dw_desk.specs.Stands.{grants_of, kept_of, state_of}
use Rattle.dw_desk.proofs.DeskLemmas.{ingested_from, ingested_spent, state_at}
use Rattle.dw_desk.proofs.Doing.{holds_kept, ingest_accepted, last_taken, later_same, later_taken, unspent_new}
use Rattle.dw_desk.proofs.desk.Desk.ingest.Goals as goal
use Rattle.dw_desk.proofs.desk.Desk.ingest.Goals.{then-report-gt0, else-report-gt0}

abbrev Records : Type 0
Records = List (Result Record BadRecord)

pub returns-after-report-gt0-clause-does : goal.returns-after-report-gt0-clause-does
returns-after-report-gt0-clause-does g c = λ w holds formed.
    let d = c.args.self.now in
    let digest = g.U.UidMaker.digest in
    let records = c.args.records.now in
    let same : c.as_slice.result.now ≡ records = c.as_slice.ensures.same in
    let t : Taken = taken digest w.events w.last records in
    let report = c.in-Ok.report in
    let done = c.in-Ok.ensures.ok w holds.lawful (sym holds.rules.dict) (sym holds.rules.last) (subst (λ (rs : Records). AreWellFormed rs) (sym same) formed) holds.tables in
    let is : report ≡ report_of w.last t = done.report ∙ ap (λ rs. report_of w.last (taken digest w.events w.last rs)) same in
    let at : c.if-report-gt0.self.last ≡ last_after w.last t = last_taken w t report d.last c.if-report-gt0.self.last is (sym holds.rules.last)
    (λ some. elim c.if-report-gt0.branch [
      | then-report-gt0 x ↦ ap (λ s. s.last) x.self-is
      | else-report-gt0 x ↦ absurd (omega (arith, some, x.if-report-gt0.false))
    ])
    (λ none. elim c.if-report-gt0.branch [
      | then-report-gt0 x ↦ absurd (omega (arith, none, x.if-report-gt0.true))
      | else-report-gt0 x ↦ ap (λ s. s.last) x.self-is
    ]) in
    let dict : c.if-report-gt0.self.dict ≡ d.dict = elim c.if-report-gt0.branch [
      | then-report-gt0 x ↦ ap (λ s. s.dict) x.self-is
      | else-report-gt0 x ↦ ap (λ s. s.dict) x.self-is
    ] in
    let grants : c.if-report-gt0.self.grants ≡ d.grants = elim c.if-report-gt0.branch [
      | then-report-gt0 x ↦ ap (λ s. s.grants) x.self-is
      | else-report-gt0 x ↦ ap (λ s. s.grants) x.self-is
    ] in
    let callers : c.if-report-gt0.self.callers ≡ d.callers = elim c.if-report-gt0.branch [
      | then-report-gt0 x ↦ ap (λ s. s.callers) x.self-is
      | else-report-gt0 x ↦ ap (λ s. s.callers) x.self-is
    ] in
    let out = ingested_from (state_of w d) t (unspent_new w report t d.last is (sym holds.rules.last) c.in-Ok.ensures.unspent) in
    record {
      next = after_taken w t;
      holds = record {
        tables = done.tables ∙ ap (λ rs. Some (tables (after_taken w (taken digest w.events w.last rs)))) same;
        lawful = subst (λ (rs : Records). IsWorld (after_taken w (taken digest w.events w.last rs))) same done.world;
        rules = record { dict = dict ∙ holds.rules.dict; grants = ap grants_of grants ∙ holds.rules.grants; last = at };
      };
      later = later_taken digest w records;
      is = inl (ap Ingested is ∙ out.0, ap (λ m. state_at (after_taken w t) m) callers ∙ out.1);
    }

pub returns-in-Err-Spent-clause-does : goal.returns-in-Err-Spent-clause-does
returns-in-Err-Spent-clause-does g c = λ w holds formed.
    let d = c.args.self.now in
    let digest = g.U.UidMaker.digest in
    let records = c.args.records.now in
    let same : c.as_slice.result.now ≡ records = c.as_slice.ensures.same in
    let t : Taken = taken digest w.events w.last records in
    let new : t.new ≢ 0 = subst (λ (rs : Records). (taken digest w.events w.last rs).new ≢ 0) same
    (c.in-Err-Spent.ensures.spent_new w holds.lawful (sym holds.rules.dict) (sym holds.rules.last) (subst (λ (rs : Records). AreWellFormed rs) (sym same) formed) holds.tables (ap Err c.in-Err-Spent.field-0-is)) in
    record {
      next = w;
      holds = holds_kept (g.K.Keeper.told c.args.keeper.now) _ d _ w c.in-Err-Spent.ensures.err (record { dict = refl; grants = refl; last = refl }) holds;
      later = later_same w w refl refl;
      is = inl (ingested_spent (state_of w d) t (omega (arith, new)) (sym holds.rules.last ∙ c.in-Err-Spent.ensures.spent (ap Err c.in-Err-Spent.field-0-is)));
    }

pub returns-in-Err-StoreFault-clause-does : goal.returns-in-Err-StoreFault-clause-does
returns-in-Err-StoreFault-clause-does g c = λ w holds formed.
    let d = c.args.self.now in
    record {
      next = w;
      holds = holds_kept (g.K.Keeper.told c.args.keeper.now) _ d _ w c.in-Err-StoreFault.ensures.err (record { dict = refl; grants = refl; last = refl }) holds;
      later = later_same w w refl refl;
      is = inr (inr (refl, refl, ingest_accepted (state_of w d) (taken g.U.UidMaker.digest w.events w.last c.args.records.now)));
    }

pub returns-in-Err-OutOfMemory-clause-does : goal.returns-in-Err-OutOfMemory-clause-does
returns-in-Err-OutOfMemory-clause-does g c = λ w holds formed.
    record {
      next = w;
      holds = holds_kept (g.K.Keeper.told c.args.keeper.now) _ c.args.self.now _ w c.in-Err-OutOfMemory.ensures.err (record { dict = refl; grants = refl; last = refl }) holds;
      later = later_same w w refl refl;
      is = inr (inl (refl, refl, refl));
    }

pub returns-after-report-gt0-clause-accounts : goal.returns-after-report-gt0-clause-accounts
returns-after-report-gt0-clause-accounts g c =
    ap kept_of (elim c.if-report-gt0.branch [
      | then-report-gt0 x ↦ ap (λ s. s.callers) x.self-is
      | else-report-gt0 x ↦ ap (λ s. s.callers) x.self-is
    ])
