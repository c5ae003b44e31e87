use Rattle.std.proofs.Common.{◌≤◌, List, ap, sym, subst, ◌∙◌, map}
use Rattle.std.specs.Prelude.{All}
use Rattle.dw_derive.specs.declared.event_cells.Entry.{Entry}
use Rattle.dw_outside.specs.declared.cell.Put.{Put}
use Rattle.dw_ingest.proofs.EntryTables.{tables_fit}
use Rattle.dw_outside.specs.Tables.{Tables, HasFourTables, applied, over}
use Rattle.dw_outside.proofs.FourTables.{applied_fits}
use Rattle.dw_derive.specs.Entries.{event_of, slot_of}
use Rattle.dw_derive.specs.Laws.{put_of}
use Rattle.dw_derive.proofs.Stepping.{set_stepped}
use Rattle.dw_ingest.proofs.growing.add_event.Goals as goal

pub puts_for-requires : goal.puts_for-requires
puts_for-requires g c =
    let P : List Entry → Type 0 = All (λ n. n.table ≤ 3) in
    subst P (sym (c.as_slice.ensures.value ∙ c.in_ok-entries.ensures)) (tables_fit c.args.dict.now (event_of c.args.event.now))

pub returns-clause-batch : goal.returns-clause-batch
returns-clause-batch g c t is =
    ap (λ p. over p t) c.in_ok-apply.ensures.ok
    ∙ c.batches_are_tables.ensures.more c.as_slice-2.result.now c.args.batch.now t
    ∙ ap (λ ps. applied ps (over c.args.batch.now t))
    (c.as_slice-2.ensures.value ∙ c.in_ok-puts.ensures.puts t is ∙ ap (λ ns. map (put_of (over c.args.batch.now t) c.args.event.now.key.uid) (map slot_of ns)) (c.as_slice.ensures.value ∙ c.in_ok-entries.ensures))
    ∙ set_stepped c.args.dict.now (event_of c.args.event.now) (over c.args.batch.now t)

pub returns-clause-fits : goal.returns-clause-fits
returns-clause-fits g c h =
    let P : Tables → Type 0 = HasFourTables in
    subst P (sym c.in_ok-apply.ensures.ok) (applied_fits c.as_slice-2.result.now c.args.batch.now h
    (let Q : List Put → Type 0 = All (λ p. p.table ≤ 3) in subst Q (sym c.as_slice-2.ensures.value) c.in_ok-puts.ensures.fits))
