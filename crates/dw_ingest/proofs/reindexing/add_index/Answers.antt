use Rattle.std.proofs.Common.{◌≤◌, List, ap, sym, subst, ◌∙◌, map}
use Rattle.std.specs.Prelude.{All}
use Rattle.dw_outside.specs.declared.cell.Put.{Put}
use Rattle.dw_outside.specs.Tables.{Tables, HasFourTables, applied}
use Rattle.dw_outside.proofs.FourTables.{applied_fits}
use Rattle.dw_derive.specs.declared.event_cells.Entry.{Entry}
use Rattle.dw_derive.specs.Entries.{event_of, slot_of}
use Rattle.dw_derive.specs.Laws.{put_of}
use Rattle.dw_derive.specs.Indexing.{entries_added}
use Rattle.dw_derive.proofs.Stepping.{set_applied}
use Rattle.dw_ingest.proofs.NewIndexes.{added_fit}
use Rattle.dw_ingest.proofs.reindexing.add_index.Goals as goal

pub puts_in-requires : goal.puts_in-requires
puts_in-requires c =
    let P : List Entry → Type 0 = All (λ n. n.table ≤ 3) in
    subst P (sym (c.as_slice.ensures.value ∙ c.in_ok-entries.ensures)) (added_fit c.args.field.now c.args.old c.args.rule (event_of c.args.event.now))

pub returns-clause-batch : goal.returns-clause-batch
returns-clause-batch c =
    let uid = c.args.event.now.key.uid in
    c.in_ok-apply.ensures.ok
    ∙ ap (λ ps. applied ps c.args.batch.now)
    (c.as_slice-2.ensures.value ∙ c.in_ok-puts.ensures.puts ∙ ap (λ ns. map (put_of c.args.batch.now uid) (map slot_of ns)) (c.as_slice.ensures.value ∙ c.in_ok-entries.ensures))
    ∙ set_applied (entries_added c.args.field.now c.args.old c.args.rule (event_of c.args.event.now)) uid c.args.batch.now

pub returns-clause-fits : goal.returns-clause-fits
returns-clause-fits c h =
    let P : Tables → Type 0 = HasFourTables in
    subst P (sym c.in_ok-apply.ensures.ok) (applied_fits c.as_slice-2.result.now c.args.batch.now h
    (let Q : List Put → Type 0 = All (λ p. p.table ≤ 3) in subst Q (sym c.as_slice-2.ensures.value) c.in_ok-puts.ensures.fits))
