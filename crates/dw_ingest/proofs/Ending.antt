-- On a batch as a whole.
use Rattle.std.proofs.Common.{◌≡◌, ◌≢◌, ◌≤◌, ◌+◌, ◌++◌, ◌∷◌, [], ℕ, Bool, true, false, cond, nat_lt, List, Option, Some, None, Ok, Err, refl, sym, ap, ◌∙◌, arith}
use Rattle.std.specs.Prelude.{Result}
use Rattle.std.specs.FinMap.{insert}
use Rattle.std.proofs.lemmas.Bool.Decides.{nat_tests}
use Rattle.dw_event.specs.declared.records.Record.{Record}
use Rattle.dw_event.specs.declared.records.Place.{Place}
use Rattle.dw_event.specs.declared.records.Held.{Held}
use Rattle.dw_event.specs.declared.reports.BadReason.TheVariants.{Clash}
use Rattle.dw_event.specs.declared.reports.BadRecord.{BadRecord}
use Rattle.dw_event.specs.declared.reports.Report.{Report}
use Rattle.dw_event.specs.Cells.{cells_eq}
use Rattle.dw_event.specs.Places.{place_of}
use Rattle.dw_event.specs.Take.{Taken, held_at, none_taken, with_held, with_record, with_records, taken, last_after, report_of}
use Rattle.dw_outside.specs.declared.cell.Put.{Put}
use Rattle.dw_outside.specs.declared.slot.Slot.{Slot}
use Rattle.dw_outside.specs.Tables.{Tables, applied, over, puts_from, slot_of_put}
use Rattle.dw_outside.proofs.Batches.{over_is}
use Rattle.dw_derive.specs.Meta.{put_at, commit_slot, commit_bytes}
use Rattle.dw_derive.specs.Laws.{NumbersAreCells, with_last}
use Rattle.dw_derive.specs.World.{World}
use Rattle.dw_derive.specs.Tables.{tables}
use Rattle.dw_ingest.specs.declared.pending.Pending.{Pending}
use Rattle.dw_ingest.specs.Going.{Going, with_events}
use Rattle.dw_ingest.specs.Ingested.{after_taken}

-- ---- one put more

applied_last : (ps : List Put) (p : Put) (m : Tables) → applied (ps ++ p ∷ []) m ≡ insert (applied ps m) (slot_of_put p) p.content
applied_last [] p m = refl
applied_last (q ∷ ps) p m = applied_last ps p (insert m (slot_of_put q) q.content)

-- a batch and one cell more
pub with_cell : (xs : List Put) (batch : Tables) (slot : Slot) (content : List ℕ) (t : Tables) → xs ≡ puts_from batch ++ put_at slot content ∷ [] → applied xs t ≡ insert (over batch t) slot content
with_cell xs batch slot content t is =
    ap (λ ps. applied ps t) is ∙ applied_last (puts_from batch) (put_at slot content) t
    ∙ ap (λ m. insert m slot content) (over_is batch t)

-- ---- where nothing is new

record Grows (a b : Taken) : Type 0 where
  pub more : a.new ≤ b.new
  pub same : b.new ≤ a.new → b.events ≡ a.events

held_grows : (number : ℕ) (place : Place) (rec : Record) (t : Taken) (h : Option Held) → Grows t (with_held number place rec t h)
held_grows number place rec t None = record { more = omega arith; same = λ l. absurd (omega (arith, l)) }
held_grows number place rec t (Some held) = at (cells_eq held.cells rec.cells)
  where
    at : (b : Bool) → Grows t (cond b (record { events = t.events; at = t.at + 1; new = t.new; repeat = t.repeat + 1; bad = t.bad })
        (record { events = t.events; at = t.at + 1; new = t.new; repeat = t.repeat; bad = t.bad ++ record { at = t.at; why = Clash place } ∷ [] }))
    at true = record { more = omega arith; same = λ l. refl }
    at false = record { more = omega arith; same = λ l. refl }

record_grows : (digest : List ℕ → List ℕ) (number : ℕ) (t : Taken) (rec : Result Record BadRecord) → Grows t (with_record digest number t rec)
unfolding with_record
record_grows digest number t (Err rule) = record { more = omega arith; same = λ l. refl }
record_grows digest number t (Ok rec) = held_grows number (place_of digest rec) rec t (held_at t.events (place_of digest rec))

all_grow : (digest : List ℕ → List ℕ) (number : ℕ) (t : Taken) (recs : List (Result Record BadRecord)) → Grows t (with_records digest number t recs)
all_grow digest number t [] = record { more = omega arith; same = λ l. refl }
all_grow digest number t (rec ∷ recs) =
    let one : Grows t (with_record digest number t rec) = record_grows digest number t rec in
    let rest : Grows (with_record digest number t rec) (with_records digest number (with_record digest number t rec) recs) = all_grow digest number (with_record digest number t rec) recs in
    record {
      more = (let a = one.more in let b = rest.more in omega (arith, a, b));
      same = λ l. rest.same (let a = one.more in omega (arith, a, l)) ∙ one.same (let b = rest.more in omega (arith, b, l));
    }

none_counted : (last : ℕ) (t : Taken) → t.new ≡ 0 → last_after last t ≡ last
none_counted last t h = ap (λ n. cond (nat_lt 0 n) (last + 1) last) h

pub some_counted : (last : ℕ) (t : Taken) → t.new ≢ 0 → last_after last t ≡ last + 1
some_counted last t h = ap (λ b. cond b (last + 1) last) (positive t.new h)
  where
    positive : (n : ℕ) → n ≢ 0 → nat_lt 0 n ≡ true
    positive n k = grind (arith, nat_tests, k)

-- a batch in which nothing is new leaves the world
pub none_new : (digest : List ℕ → List ℕ) (w : World) (records : List (Result Record BadRecord)) → (taken digest w.events w.last records).new ≡ 0 → after_taken w (taken digest w.events w.last records) ≡ w
none_new digest w records h =
    let tk = taken digest w.events w.last records in
    let events : tk.events ≡ w.events = (all_grow digest (w.last + 1) (none_taken w.events) records).same (omega (arith, h)) in
    let last : last_after w.last tk ≡ w.last = none_counted w.last tk h in
    λ i. record { events = events i; dict = w.dict; grants = w.grants; last = last i; old = w.old }

-- ---- what is reported

pub reported : (w : World) (tk : Taken) (t : Tables) (p : Pending) (r : Report) (last : ℕ) → Going w tk t p → r ≡ record { new = p.tally.added; repeat = p.tally.repeat; bad = p.tally.bad; last = last } → last ≡ last_after w.last tk → r ≡ report_of w.last tk
reported w tk t p r last going is same = is ∙ (λ i. record { new = going.added i; repeat = going.repeat i; bad = going.bad i; last = same i })

pub none_reported : (w : World) (tk : Taken) (t : Tables) (p : Pending) (r : Report) (last : ℕ) → Going w tk t p → r ≡ record { new = p.tally.added; repeat = p.tally.repeat; bad = p.tally.bad; last = last } → w.last ≡ last → p.tally.added ≡ 0 → r ≡ report_of w.last tk
none_reported w tk t p r last going is same none = reported w tk t p r last going is (sym (none_counted w.last tk (sym going.added ∙ none) ∙ same))

pub some_reported : (w : World) (tk : Taken) (t : Tables) (p : Pending) (r : Report) (last : ℕ) → Going w tk t p → r ≡ record { new = p.tally.added; repeat = p.tally.repeat; bad = p.tally.bad; last = last + 1 } → w.last ≡ last → p.tally.added ≢ 0 → r ≡ report_of w.last tk
some_reported w tk t p r last going is same some = reported w tk t p r (last + 1) going is (sym (some_counted w.last tk (λ z. some (going.added ∙ z)) ∙ ap (λ n. n + 1) same))

-- ---- what is stored

pub stored : NumbersAreCells → (w : World) (tk : Taken) (t : Tables) (p : Pending) (last : ℕ) → Going w tk t p → w.last ≡ last → p.tally.added ≢ 0 → insert (over p.batch t) commit_slot (commit_bytes (last + 1)) ≡ tables (after_taken w tk)
stored set w tk t p last going same some =
    ap (λ m. insert m commit_slot (commit_bytes (last + 1))) going.tables
    ∙ set (with_events w tk.events) (last + 1) (λ z. absurd (omega (arith, z)))
    ∙ ap (λ n. tables (with_last (with_events w tk.events) n)) (sym (some_counted w.last tk (λ z. some (going.added ∙ z)) ∙ ap (λ n. n + 1) same))
