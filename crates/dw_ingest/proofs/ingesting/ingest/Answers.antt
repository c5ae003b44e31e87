use Rattle.std.proofs.Common.{◌≡◌, ◌+◌, Some, ap, sym, refl, subst, ◌∙◌}
use Rattle.std.specs.Option.{option_map}
use Rattle.std.specs.FinMap.{insert}
use Rattle.dw_event.specs.Take.{Taken, taken, none_taken, with_records}
use Rattle.dw_outside.specs.Tables.{over}
use Rattle.dw_derive.specs.Meta.{commit_slot, commit_bytes}
use Rattle.dw_derive.specs.Tables.{tables}
use Rattle.dw_ingest.specs.Going.{Going}
use Rattle.dw_ingest.proofs.Ending.{none_new, none_reported, some_reported, stored}
use Rattle.dw_ingest.proofs.Keeping.{none_kept, some_kept}
use Rattle.dw_ingest.proofs.ingesting.ingest.Goals as goal

pub returns-then-tally-eq0-clause-ok : goal.returns-then-tally-eq0-clause-ok
returns-then-tally-eq0-clause-ok g c w world dict last all told =
    let p = c.in_ok-batch.field-0 in
    let digest = g.U.UidMaker.digest in
    let records = c.args.records.now in
    let tk : Taken = taken digest w.events w.last records in
    let same : with_records digest (c.args.last + 1) (none_taken w.events) records ≡ tk = ap (λ n. with_records digest (n + 1) (none_taken w.events) records) (sym last) in
    let P : Taken → Type 0 = λ x. Going w x (tables w) p in
    let going : Going w tk (tables w) p = subst P same (c.in_ok-batch.ensures.going w (tables w) told refl dict world.events all) in
    record {
      report = none_reported w tk (tables w) p c.report.result c.args.last going c.report.ensures last c.if-tally-eq0.true;
      tables = c.in_ok-batch.ensures.same ∙ told ∙ ap (λ v. Some (tables v)) (sym (none_new digest w records (sym going.added ∙ c.if-tally-eq0.true)));
      world = none_kept digest w records world (sym going.added ∙ c.if-tally-eq0.true);
    }

pub returns-clause-ok : goal.returns-clause-ok
returns-clause-ok g c w world dict last all told =
    let p = c.in_ok-batch.field-0 in
    let digest = g.U.UidMaker.digest in
    let records = c.args.records.now in
    let tk : Taken = taken digest w.events w.last records in
    let same : with_records digest (c.args.last + 1) (none_taken w.events) records ≡ tk = ap (λ n. with_records digest (n + 1) (none_taken w.events) records) (sym last) in
    let P : Taken → Type 0 = λ x. Going w x (tables w) p in
    let going : Going w tk (tables w) p = subst P same (c.in_ok-batch.ensures.going w (tables w) told refl dict world.events all) in
    record {
      report = some_reported w tk (tables w) p c.report-2.result c.args.last going c.report-2.ensures last c.if-tally-eq0.false;
      tables = c.in_ok-store_batch.ensures.ok
          ∙ ap (option_map (λ t. insert (over p.batch t) commit_slot (commit_bytes (c.args.last + 1)))) (c.in_ok-batch.ensures.same ∙ told)
          ∙ ap Some (stored c.numbers_are_cells.ensures w tk (tables w) p c.args.last going last c.if-tally-eq0.false);
      world = some_kept digest w records (tables w) p going world c.if-tally-eq0.false (λ e. c.if-last-eq-LAST_BATCH.false (sym last ∙ e));
    }
