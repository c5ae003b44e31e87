use Rattle.std.proofs.Common.{◌≡◌, ◌≤◌, ◌+◌, ◌++◌, List, [], ◌∷◌, drop, map, ap, sym, ◌∙◌, append_assoc, arith}
use Rattle.dw_outside.specs.declared.slot.Slot.{Slot}
use Rattle.dw_derive.specs.declared.event_cells.Entry.{Entry}
use Rattle.dw_derive.specs.Entries.{slot_of}
use Rattle.dw_derive.specs.Laws.{put_of}
use Rattle.dw_ingest.proofs.Items.{drop_item}
use Rattle.dw_ingest.proofs.making.puts_in.Goals as goal

pub loop-entry-preserved : goal.loop-entry-preserved
loop-entry-preserved c =
    let entries = c.args.entries.now in
    let i = c.loop-entry.entry-index in
    let item = c.entry-item.result in
    let at : item.table ≤ 3 = (let h = c.requires i item c.loop-entry-test.true in let e = ap (λ (n : Entry). n.table) c.entry-item.is in omega (arith, h, e)) in
    let table : c.in_ok-put.put.table ≡ item.table = c.in_ok-put.ensures.table ∙ ap (λ (s : Slot). s.table) c.in_ok-slot.ensures in
    let f = put_of c.args.batch.now c.args.uid.now in
    let before = c.loop-entry.puts.items in
    let rest = map f (map slot_of (drop (i + 1) entries)) in
    record {
      puts =
          ap (λ xs. xs ++ rest) c.in_ok-keep.ensures.kept
          ∙ append_assoc before (c.in_ok-put.put ∷ []) rest
          ∙ ap (λ p. before ++ p ∷ rest) (c.in_ok-put.ensures.put ∙ ap f c.in_ok-slot.ensures)
          ∙ sym (ap (λ (ns : List Entry). before ++ map f (map slot_of ns)) (drop_item entries i item c.loop-entry-test.true c.entry-item.is))
          ∙ c.loop-entry.invariant.puts;
      fits = c.in_ok-keep.ensures.fits c.loop-entry.invariant.fits (omega (arith, at, table));
    }
