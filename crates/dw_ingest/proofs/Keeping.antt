-- On what a world keeps when a batch is taken.
use Rattle.std.proofs.Common.{◌≡◌, ◌≢◌, ◌≤◌, ◌+◌, ◌++◌, ◌∷◌, [], ℕ, Bool, true, false, cond, List, Option, Some, None, Ok, Err, refl, sym, subst, ◌∙◌, arith}
use Rattle.std.specs.Prelude.{Result}
use Rattle.std.specs.List.{AllByRecursion}
use Rattle.std.specs.BTreeMap.{insert_entry}
use Rattle.std.specs.Ordering.{match_ordering}
use Rattle.std.specs.declared.cmp.Ordering.{Ordering}
use Rattle.std.specs.declared.cmp.Ordering.TheVariants.{Less, Equal, Greater}
use Rattle.dw_event.specs.declared.records.Record.{Record}
use Rattle.dw_event.specs.declared.records.Place.{Place}
use Rattle.dw_event.specs.declared.records.Held.{Held}
use Rattle.dw_event.specs.declared.reports.BadReason.TheVariants.{Clash}
use Rattle.dw_event.specs.declared.reports.BadRecord.{BadRecord}
use Rattle.dw_event.specs.Cells.{cells_eq}
use Rattle.dw_event.specs.Places.{place_of, place_cmp}
use Rattle.dw_event.specs.Take.{Event, Taken, held_at, none_taken, with_held, with_record, with_records, taken, last_after}
use Rattle.dw_outside.specs.Tables.{Tables}
use Rattle.dw_derive.specs.World.{World}
use Rattle.dw_derive.specs.Lawful.{IsWorld}
use Rattle.dw_ingest.specs.declared.pending.Pending.{Pending}
use Rattle.dw_ingest.specs.Going.{Going}
use Rattle.dw_ingest.specs.Ingested.{after_taken, last_number}
use Rattle.dw_ingest.proofs.Ending.{none_new, some_counted}

-- ---- one event more

abbrev AreUpTo : ℕ → List Event → Type 0
AreUpTo n es = AllByRecursion (λ (e : Event). e.1.batch ≤ n) es

up_to_more : (n : ℕ) (es : List Event) (k : Place) (v : Held) → v.batch ≤ n → AreUpTo n es → AreUpTo n (insert_entry place_cmp es k v)
up_to_more n [] k v l h = (l, tt)
up_to_more n (e ∷ es) k v l h = at (place_cmp k e.0) (up_to_more n es k v l h.1)
  where
    at : (r : Ordering) → AreUpTo n (insert_entry place_cmp es k v) → AreUpTo n (match_ordering r ((k, v) ∷ e ∷ es) ((e.0, v) ∷ es) (e ∷ insert_entry place_cmp es k v))
    at Less i = (l, h)
    at Equal i = (l, h.1)
    at Greater i = (h.0, i)

some_more : (es : List Event) (k : Place) (v : Held) → insert_entry place_cmp es k v ≢ []
some_more [] k v = λ e. cc
some_more (e ∷ es) k v = at (place_cmp k e.0)
  where
    at : (r : Ordering) → match_ordering r ((k, v) ∷ e ∷ es) ((e.0, v) ∷ es) (e ∷ insert_entry place_cmp es k v) ≢ []
    at Less = λ i. cc
    at Equal = λ i. cc
    at Greater = λ i. cc

-- ---- the records of a batch

-- no event is of a later batch than this one, and there is one where a record was new
record Keeps (number : ℕ) (t : Taken) : Type 0 where
  pub batches : AreUpTo number t.events
  pub some : t.new ≢ 0 → t.events ≢ []

held_keeps : (number : ℕ) (place : Place) (rec : Record) (t : Taken) (h : Option Held) → Keeps number t → Keeps number (with_held number place rec t h)
held_keeps number place rec t None k =
    let held : Held = record { cells = rec.cells; batch = number } in
    record { batches = up_to_more number t.events place held (omega arith) k.batches; some = λ n. some_more t.events place held }
held_keeps number place rec t (Some held) k = at (cells_eq held.cells rec.cells)
  where
    at : (b : Bool) → Keeps number (cond b (record { events = t.events; at = t.at + 1; new = t.new; repeat = t.repeat + 1; bad = t.bad })
        (record { events = t.events; at = t.at + 1; new = t.new; repeat = t.repeat; bad = t.bad ++ record { at = t.at; why = Clash place } ∷ [] }))
    at true = record { batches = k.batches; some = k.some }
    at false = record { batches = k.batches; some = k.some }

record_keeps : (digest : List ℕ → List ℕ) (number : ℕ) (t : Taken) (rec : Result Record BadRecord) → Keeps number t → Keeps number (with_record digest number t rec)
unfolding with_record
record_keeps digest number t (Err rule) k = record { batches = k.batches; some = k.some }
record_keeps digest number t (Ok rec) k = held_keeps number (place_of digest rec) rec t (held_at t.events (place_of digest rec)) k

all_keep : (digest : List ℕ → List ℕ) (number : ℕ) (t : Taken) (recs : List (Result Record BadRecord)) → Keeps number t → Keeps number (with_records digest number t recs)
all_keep digest number t [] k = k
all_keep digest number t (rec ∷ recs) k = all_keep digest number (with_record digest number t rec) recs (record_keeps digest number t rec k)

up_to_next : (n : ℕ) (es : List Event) → AreUpTo n es → AreUpTo (n + 1) es
up_to_next n [] h = tt
up_to_next n (e ∷ es) h = (let a = h.0 in omega (arith, a), up_to_next n es h.1)

-- ---- the world after a batch

pub none_kept : (digest : List ℕ → List ℕ) (w : World) (records : List (Result Record BadRecord)) → IsWorld w → (taken digest w.events w.last records).new ≡ 0 → IsWorld (after_taken w (taken digest w.events w.last records))
none_kept digest w records is h = subst IsWorld (sym (none_new digest w records h)) is

pub some_kept : (digest : List ℕ → List ℕ) (w : World) (records : List (Result Record BadRecord)) (t : Tables) (p : Pending) → Going w (taken digest w.events w.last records) t p → IsWorld w
    → p.tally.added ≢ 0 → w.last ≢ last_number → IsWorld (after_taken w (taken digest w.events w.last records))
some_kept digest w records t p going is some room =
    let tk : Taken = taken digest w.events w.last records in
    let fresh : tk.new ≢ 0 = (λ z. some (going.added ∙ z)) in
    let last : last_after w.last tk ≡ w.last + 1 = some_counted w.last tk fresh in
    let keeps : Keeps (w.last + 1) tk = all_keep digest (w.last + 1) (none_taken w.events) records (record { batches = up_to_next w.last w.events is.batches; some = λ n. absurd (n refl) }) in
    record {
      events = record { ascend = going.events.ascend; lawful = going.events.lawful; old = going.events.old };
      fields = is.fields;
      grants = is.grants;
      batches = subst (λ n. AreUpTo n tk.events) (sym last) keeps.batches;
      none = (λ z. absurd (let a = last in omega (arith, a, z)), λ z. absurd (keeps.some fresh z));
      most = (let a = last in let b = is.most in omega (arith, a, b, room));
    }
