use Rattle.std.proofs.Common.{rules, ◌+◌, ◌∷◌, drop, ap, sym, subst, refl, ◌∙◌, arith}
use Rattle.dw_event.specs.Take.{Taken, none_taken, with_record, with_records}
use Rattle.dw_outside.specs.Tables.{HasFourTables}
use Rattle.dw_outside.proofs.FourTables.{empty_fits}
use Rattle.dw_ingest.specs.Going.{Going, AreWellFormed}
use Rattle.dw_ingest.proofs.Items.{drop_item, drop_past}
use Rattle.dw_ingest.proofs.Steps.{going_first}
use Rattle.dw_ingest.proofs.pending.take_records.Goals as goal

pub loop-rec-init : goal.loop-rec-init
loop-rec-init g c = record {
  at = search rules;
  added = search rules;
  repeat = search rules;
  same = refl;
  going = λ w t told is dict has all. (none_taken w.events, going_first w t c.new-pending.result has is c.new-pending.ensures.batch c.new-pending.ensures.news c.new-pending.ensures.tally, all, refl);
  fits = subst HasFourTables (sym c.new-pending.ensures.batch) empty_fits;
  unasked = refl;
  counted = omega arith;
}

pub loop-rec-preserved : goal.loop-rec-preserved
loop-rec-preserved g c =
    let records = c.args.records.now in
    let i = c.loop-rec.rec-index in
    let item = c.rec-item.result in
    let next = drop_item records i item c.loop-rec-test.true c.rec-item.is in
    let ens = c.in_ok-take_record.ensures in
    record {
      at = (let a = ens.at in let b = c.loop-rec.invariant.at in omega (arith, a, b));
      added = (let a = ens.added in let b = c.loop-rec.invariant.added in omega (arith, a, b));
      repeat = (let a = ens.repeat in let b = c.loop-rec.invariant.repeat in omega (arith, a, b));
      same = ens.same ∙ c.loop-rec.invariant.same;
      going = λ w t told is dict has all.
          let so = c.loop-rec.invariant.going w t told is dict has all in
          let well : AreWellFormed (item ∷ drop (i + 1) records) = subst AreWellFormed next so.2 in (
            with_record g.U.UidMaker.digest c.args.number so.0 item,
            ens.going w so.0 t (c.loop-rec.invariant.same ∙ told) is dict has well.0 so.1,
            well.1,
            sym (ap (with_records g.U.UidMaker.digest c.args.number so.0) next) ∙ so.3,
          );
      fits = ens.fits c.loop-rec.invariant.fits;
      unasked = ens.unasked ∙ c.loop-rec.invariant.unasked;
      counted = (let a = ens.counted in let b = c.loop-rec.invariant.counted in omega (arith, a, b));
    }

pub returns-clause-going : goal.returns-clause-going
returns-clause-going g c w t told is dict has all =
    let so = c.loop-rec.invariant.going w t told is dict has all in
    let none = drop_past c.args.records.now c.loop-rec.rec-index c.loop-rec-test.false in
    let P : Taken → Type 0 = λ x. Going w x t c.loop-rec.pending in
    subst P (sym (ap (with_records g.U.UidMaker.digest c.args.number so.0) none) ∙ so.3) so.1
