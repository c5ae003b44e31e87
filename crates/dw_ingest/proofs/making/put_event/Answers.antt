use Rattle.std.proofs.Common.{◌≤◌, List, ap, sym, subst, ◌∙◌, map}
use Rattle.std.specs.Prelude.{All}
use Rattle.dw_outside.specs.Tables.{applied}
use Rattle.dw_derive.specs.declared.event_cells.Entry.{Entry}
use Rattle.dw_derive.specs.Entries.{event_of, slot_of}
use Rattle.dw_derive.specs.Laws.{put_of}
use Rattle.dw_derive.proofs.Stepping.{set_stepped}
use Rattle.dw_ingest.proofs.EntryTables.{tables_fit}
use Rattle.dw_ingest.proofs.making.put_event.Goals as goal

pub puts_in-requires : goal.puts_in-requires
puts_in-requires c =
    let P : List Entry → Type 0 = All (λ n. n.table ≤ 3) in
    subst P (sym (c.as_slice.ensures.value ∙ c.in_ok-entries.ensures)) (tables_fit c.args.dict.now (event_of c.args.event.now))

pub returns-clause-ok : goal.returns-clause-ok
returns-clause-ok c =
    let uid = c.args.event.now.key.uid in
    c.in_ok-apply.ensures.ok
    ∙ ap (λ ps. applied ps c.args.tables.now)
    (c.as_slice-2.ensures.value ∙ c.in_ok-puts.ensures.puts ∙ ap (λ ns. map (put_of c.args.tables.now uid) (map slot_of ns)) (c.as_slice.ensures.value ∙ c.in_ok-entries.ensures))
    ∙ set_stepped c.args.dict.now (event_of c.args.event.now) c.args.tables.now
