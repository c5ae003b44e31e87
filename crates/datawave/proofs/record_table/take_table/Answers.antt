use Rattle.std.proofs.Common.{Bor, List, ℕ, ◌≡◌, ◌∙◌, ◌++◌, ◌∷◌, [], Some, sym, refl, inl, inr, le_refl, le_trans, subst}
use Rattle.csv.specs.Reading.{Reached, default_config, strip_bom}
use Rattle.csv.specs.Records.{fields_of}
use Rattle.csv.specs.declared.parser.State.TheVariants as st
use Rattle.csv.proofs.ReadFacts.{rows-end, rows-more}
use Rattle.dw_groups.specs.Batches.{rows_of, rows_records}
use Rattle.dw_groups.proofs.CsvRows.{records-AreRecords, read_front}
use Rattle.datawave.specs.Groups.{full_ingests, ingests}
use Rattle.datawave.specs.Outside.{seen}
use Rattle.datawave.specs.Exchange.{RequestsPut, RequestsLack}
use Rattle.datawave.proofs.Sessions.{lack_all}
use Rattle.datawave.proofs.Grouped.{gathered_none, rows_lack}
use Rattle.datawave.proofs.Results.{on_err_always, on_ok_then, on_err_then}
use Rattle.datawave.proofs.record_table.take_table.Goals as goal

pub loop-row-init : goal.loop-row-init
unfolding Reached
loop-row-init g c =
    let fr = c.from_reader-rdr.ensures in
    let e = c.flexible.ensures in
    let h = c.has_headers.ensures in
    let start = c.into_iter-row-iterator.ensures.into_iter_gives ∙ refl in
    let rdr = c.into_byte_records-row-items.ensures.rdr in
    let left = c.into_byte_records-row-items.ensures.left in
    rw (start, rdr) (
      rw (e, h) at fr.trim ∙ c.new.ensures.trim,
      inr (inr (rw (e, h) at fr.has_headers, fr.headers)),
      left,
      rw (e, h) at fr.config ∙ c.new.ensures.config,
      strip_bom c.args.text.now,
      fr.source,
      [],
      (sym fr.state, refl),
      le_refl _,
      λ w before puts. (record { named = refl; records = gathered_none c.new-2.result c.new-2.ensures }, puts),
    )

pub loop-row-preserved : goal.loop-row-preserved
loop-row-preserved g c =
    let inv = c.loop-row.invariant in
    let s = rw (c.in-Some.is, c.in-Ok.is) at ((c.next.ensures.steps inv.2 inv.0).0 inv.1) in
    let m = rows-more (λ (s : Bor (List ℕ)). Some s.now) c.loop-row.row-iterator.rdr c.next.new.self.rdr (fields_of c.in-Ok.row) default_config st.StartRecord (strip_bom c.args.text.now) inv.4 inv.6 inv.3 inv.5 inv.7 s.0 in
    (s.0.3 ∙ inv.0, inl s.1, s.2, s.0.2 ∙ inv.3, m.0, m.1, inv.6 ++ fields_of c.in-Ok.row ∷ [], m.2, le_trans inv.8 c.take_row.ensures.counted, λ w before puts. let t = inv.9 w before puts in c.in_ok-take_row-in-Ok.ensures.put w before inv.6 t.0 t.1)

pub returns-in_err-take_row-in-Ok-clause-lacks : goal.returns-in_err-take_row-in-Ok-clause-lacks
returns-in_err-take_row-in-Ok-clause-lacks g c =
    let inv = c.loop-row.invariant in
    let s = rw (c.in-Some.is, c.in-Ok.is) at ((c.next.ensures.steps inv.2 inv.0).0 inv.1) in
    let m = rows-more (λ (s : Bor (List ℕ)). Some s.now) c.loop-row.row-iterator.rdr c.next.new.self.rdr (fields_of c.in-Ok.row) default_config st.StartRecord (strip_bom c.args.text.now) inv.4 inv.6 inv.3 inv.5 inv.7 s.0 in
    let more = read_front (strip_bom c.args.text.now) (inv.6 ++ fields_of c.in-Ok.row ∷ []) c.next.new.self.rdr.state m.0 m.2 in
    on_err_always c.from_residual.result (λ w before puts.
    rows_lack g.U.UidMaker.digest w before (seen (g.K.Keeper.told c.take_row.new.keeper) (g.K.Keeper.faults c.take_row.new.keeper) (g.O.Sink.taken c.take_row.new.output)) c.take_row.new.desk (rows_of c.args.text.now) (inv.6 ++ fields_of c.in-Ok.row ∷ []) more.0 more.1
    (let t = inv.9 w before puts in c.in_err-take_row-in-Ok.ensures.lacks w before inv.6 t.0 t.1))

pub returns-in-Err-clause-lacks : goal.returns-in-Err-clause-lacks
returns-in-Err-clause-lacks g c w before puts =
    let inv = c.loop-row.invariant in
    let more = read_front (strip_bom c.args.text.now) inv.6 c.loop-row.row-iterator.rdr.state inv.4 inv.7 in
    rows_lack g.U.UidMaker.digest w before (seen (g.K.Keeper.told c.loop-row.keeper) (g.K.Keeper.faults c.loop-row.keeper) (g.O.Sink.taken c.loop-row.output)) c.loop-row.desk (rows_of c.args.text.now) inv.6 more.0 more.1
    (lack_all g.U.UidMaker.digest w before (seen (g.K.Keeper.told c.loop-row.keeper) (g.K.Keeper.faults c.loop-row.keeper) (g.O.Sink.taken c.loop-row.output)) c.loop-row.desk (full_ingests (rows_records inv.6)) (inv.9 w before puts).1)

pub returns-clause-put : goal.returns-clause-put
returns-clause-put g c =
    let inv = c.loop-row.invariant in
    let s = rw c.in-None.is at ((c.next.ensures.steps inv.2 inv.0).0 inv.1) in
    let all : inv.6 ≡ rows_of c.args.text.now =
    records-AreRecords (strip_bom c.args.text.now) inv.6
    (c.loop-row.row-iterator.rdr.state, inv.4, inv.7, rows-end (λ (s : Bor (List ℕ)). Some s.now) c.loop-row.row-iterator.rdr c.next.new.self.rdr [] default_config inv.4 inv.3 inv.5 s) in
    on_ok_then c.exchange_next.result (λ put w before puts.
    subst (λ (rows : List (List (List ℕ))). RequestsPut g.U.UidMaker.digest w before (ingests (rows_records rows)) c.exchange_next.new.desk (seen (g.K.Keeper.told c.exchange_next.new.keeper) (g.K.Keeper.faults c.exchange_next.new.keeper) (g.O.Sink.taken c.exchange_next.new.output))) all
    (let t = inv.9 w before puts in put w before (full_ingests (rows_records inv.6)) (ingests (rows_records inv.6)) (c.gather_last-request.ensures (rows_records inv.6) t.0.records) t.1)) c.exchange_next.ensures.put

pub returns-clause-lacks : goal.returns-clause-lacks
returns-clause-lacks g c =
    let inv = c.loop-row.invariant in
    let s = rw c.in-None.is at ((c.next.ensures.steps inv.2 inv.0).0 inv.1) in
    let all : inv.6 ≡ rows_of c.args.text.now =
    records-AreRecords (strip_bom c.args.text.now) inv.6
    (c.loop-row.row-iterator.rdr.state, inv.4, inv.7, rows-end (λ (s : Bor (List ℕ)). Some s.now) c.loop-row.row-iterator.rdr c.next.new.self.rdr [] default_config inv.4 inv.3 inv.5 s) in
    on_err_then c.exchange_next.result (λ lacks w before puts.
    subst (λ (rows : List (List (List ℕ))). RequestsLack g.U.UidMaker.digest w before (ingests (rows_records rows)) c.exchange_next.new.desk (seen (g.K.Keeper.told c.exchange_next.new.keeper) (g.K.Keeper.faults c.exchange_next.new.keeper) (g.O.Sink.taken c.exchange_next.new.output))) all
    (let t = inv.9 w before puts in lacks w before (full_ingests (rows_records inv.6)) (ingests (rows_records inv.6)) (c.gather_last-request.ensures (rows_records inv.6) t.0.records) t.1)) c.exchange_next.ensures.lacks
