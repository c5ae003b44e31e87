use Rattle.std.proofs.Common.{ap, sym, subst}
use Rattle.dw_outside.specs.Tables.{Tables, HasFourTables}
use Rattle.dw_outside.proofs.FourTables.{empty_fits}
use Rattle.dw_derive.specs.Indexing.{slots_added, all_stepped}
use Rattle.dw_ingest.proofs.reindexing.index_of.Goals as goal

pub loop-place-init : goal.loop-place-init
loop-place-init c =
    let P : Tables → Type 0 = HasFourTables in
    record {
      batch = ap (all_stepped (slots_added c.args.field.now c.args.old c.args.rule) c.args.events.entries) c.new-batch.ensures;
      fits = subst P (sym c.new-batch.ensures) empty_fits;
    }
