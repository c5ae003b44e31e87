-- On the law that steps keep events in order.
use Rattle.std.proofs.Common.{◌≡◌, ◌+◌, ◌∷◌, [], ℕ, Bool, true, false, cond, nat_lt, ◌&&◌, ◌||◌, ◌==◌, List, Option, Some, None, Result, Ok, Err, refl, ap, ◌∙◌, rules}
use Rattle.std.specs.List.{AllByRecursion}
use Rattle.std.specs.List.Sorted.{IsStrictlySortedBy}
use Rattle.std.specs.Cmp.{IsTotalOrder}
use Rattle.std.specs.Cmp.Rules.{comparing}
use Rattle.std.specs.declared.cmp.Ordering.{Ordering}
use Rattle.std.specs.declared.cmp.Ordering.TheVariants.{Less, Equal, Greater}
use Rattle.std.specs.Ordering.{ordering_reverse, match_ordering}
use Rattle.std.specs.Map.{keys_of}
use Rattle.std.specs.BTreeMap.{insert_entry}
use Rattle.dw_event.specs.Places.{place_cmp, place_of}
use Rattle.dw_event.specs.Cells.{cells_eq}
use Rattle.dw_dict.specs.Rules.{widens}
use Rattle.dw_dict.specs.Dictionary.{rule_of}
use Rattle.dw_dict.specs.declared.rule.FieldRule.{FieldRule}
use Rattle.dw_event.specs.declared.days.Days.{Days}
use Rattle.dw_event.specs.declared.types.Types.{Types}
use Rattle.dw_event.specs.declared.records.Place.{Place}
use Rattle.dw_event.specs.declared.records.Record.{Record}
use Rattle.dw_event.specs.declared.reports.BadRecord.{BadRecord}
use Rattle.dw_event.specs.declared.records.Held.{Held}
use Rattle.dw_eval.specs.declared.nquery.NQuery.{NQuery}
use Rattle.dw_eval.specs.declared.open_query.OpenQuery.{OpenQuery}
use Rattle.dw_eval.specs.Bound.{bound}
use Rattle.dw_wire.specs.declared.request.Request.TheVariants.{Define, Grant, Ingest, Create, Page, Close}
use Rattle.dw_plan.specs.Anchored.{anchored}
use Rattle.dw_ingest.specs.Ingested.{last_number}
use Rattle.dw_event.specs.Take.{Event}
use Rattle.dw_desk.specs.State.{State}
use Rattle.dw_event.specs.Take.{Taken, none_taken, with_held, with_record, with_records, held_at}
use Rattle.dw_desk.specs.Step.{Outcome, step, asked_for, defined, ingested, created, paged, dropped, query_of}
use Rattle.dw_desk.specs.Session.{Digest, Asked}
use Rattle.dw_desk.specs.Laws.{Ascends}

places_total : IsTotalOrder place_cmp
places_total = search (comparing, rules)

abbrev Sorted : List Event → Type 0
Sorted es = IsStrictlySortedBy place_cmp (keys_of es)

abbrev Above : Place → List Place → Type 0
Above p ps = AllByRecursion (λ q. place_cmp p q ≡ Less) ps

above_later : (p q : Place) (ps : List Place) → place_cmp p q ≡ Less → Above q ps → Above p ps
above_later p q [] e h = tt
above_later p q (r ∷ ps) e h = (places_total.trans p q r e h.0, above_later p q ps e h.1)

above_insert_at : (o : Ordering) (p k : Place) (v : Held) (e : Event) (es more : List Event) → place_cmp p k ≡ Less → Above p (keys_of (e ∷ es)) → Above p (keys_of more)
    → Above p (keys_of (match_ordering o ((k, v) ∷ e ∷ es) ((e.0, v) ∷ es) (e ∷ more)))
above_insert_at Less p k v e es more l h m = (l, h)
above_insert_at Equal p k v e es more l h m = h
above_insert_at Greater p k v e es more l h m = (h.0, m)

above_insert : (p k : Place) (v : Held) (es : List Event) → place_cmp p k ≡ Less → Above p (keys_of es) → Above p (keys_of (insert_entry place_cmp es k v))
above_insert p k v [] l h = (l, tt)
above_insert p k v (e ∷ es) l h = above_insert_at (place_cmp k e.0) p k v e es (insert_entry place_cmp es k v) l h (above_insert p k v es l h.1)

insert_at : (o : Ordering) (k : Place) (v : Held) (e : Event) (es more : List Event) → place_cmp k e.0 ≡ o → Sorted (e ∷ es) → Sorted more
    → (place_cmp e.0 k ≡ Less → Above e.0 (keys_of more)) → Sorted (match_ordering o ((k, v) ∷ e ∷ es) ((e.0, v) ∷ es) (e ∷ more))
unfolding IsStrictlySortedBy
insert_at Less k v e es more is s m h = ((is, above_later k e.0 (keys_of es) is s.0), s)
insert_at Equal k v e es more is s m h = s
insert_at Greater k v e es more is s m h = (h (places_total.antisymm e.0 k ∙ ap ordering_reverse is), m)

insert_sorted : (k : Place) (v : Held) (es : List Event) → Sorted es → Sorted (insert_entry place_cmp es k v)
unfolding IsStrictlySortedBy
insert_sorted k v [] s = (tt, tt)
insert_sorted k v (e ∷ es) s =
    insert_at (place_cmp k e.0) k v e es (insert_entry place_cmp es k v) refl s (insert_sorted k v es s.1) (λ l. above_insert e.0 k v es l s.0)

cond_sorted : (b : Bool) (x y : Taken) → Sorted x.events → Sorted y.events → Sorted (cond b x y).events
cond_sorted true x y s t = s
cond_sorted false x y s t = t

held_sorted : (batch : ℕ) (place : Place) (rec : Record) (t : Taken) (h : Option Held) → Sorted t.events → Sorted (with_held batch place rec t h).events
held_sorted batch place rec t None s = insert_sorted place (record { cells = rec.cells; batch = batch }) t.events s
held_sorted batch place rec t (Some held) s = cond_sorted (cells_eq held.cells rec.cells) _ _ s s

record_sorted : (digest : Digest) (batch : ℕ) (t : Taken) (rec : Result Record BadRecord) → Sorted t.events → Sorted (with_record digest batch t rec).events
unfolding with_record
record_sorted digest batch t (Err rule) s = s
record_sorted digest batch t (Ok rec) s = held_sorted batch (place_of digest rec) rec t (held_at t.events (place_of digest rec)) s

records_sorted : (digest : Digest) (batch : ℕ) (t : Taken) (recs : List (Result Record BadRecord)) → Sorted t.events → Sorted (with_records digest batch t recs).events
records_sorted digest batch t [] s = s
records_sorted digest batch t (rec ∷ recs) s = records_sorted digest batch (with_record digest batch t rec) recs (record_sorted digest batch t rec s)

either_ascends : (b : Bool) (x y : Outcome) → Ascends x.state → Ascends y.state → Ascends (cond b x y).state
either_ascends true x y s t = s
either_ascends false x y s t = t

ingested_ascends : (w : State) (t : Taken) → Ascends w → Sorted t.events → Ascends (ingested w t).state
ingested_ascends w t s h = either_ascends (nat_lt 0 t.new && (w.world.last == last_number)) _ _ s h

page_ascends : (w : State) (page : ℕ) (o : Option OpenQuery) → Ascends w → Ascends (paged w page o).state
page_ascends w page None s = s
page_ascends w page (Some q) s = s

created_ascends : (w : State) (caller : List ℕ) (q : OpenQuery) → Ascends w → Ascends (created w caller q).state
created_ascends w caller q s = either_ascends ((w.accounts caller).given == last_number) _ _ s s

asked_ascends : (w : State) (caller : List ℕ) (days : Days) (types : Types) (size : ℕ) (asked : Option (List (List ℕ))) (o : Option NQuery) → Ascends w → Ascends (asked_for w caller days types size asked o).state
asked_ascends w caller days types size asked None s = s
asked_ascends w caller days types size asked (Some q) s = either_ascends (anchored q) _ _ (created_ascends w caller (query_of w.world caller q days types size asked) s) s

define_ascends : (w : State) (field : List ℕ) (rule : FieldRule) → Ascends w → Ascends (defined w field rule).state
define_ascends w field rule s = either_ascends ((w.world.last == 0) || widens rule (rule_of w.world.dict field)) _ _ s s

drop_ascends : (w : State) (caller : List ℕ) (number : ℕ) (o : Option OpenQuery) → Ascends w → Ascends (dropped w caller number o).state
drop_ascends w caller number None s = s
drop_ascends w caller number (Some q) s = s

pub steps_ascend : (digest : Digest) (w : State) (request : Asked) → Ascends w → Ascends (step digest w request).state
unfolding step
steps_ascend digest w (Err why) s = s
steps_ascend digest w (Ok (Define field rule)) s = define_ascends w field rule s
steps_ascend digest w (Ok (Grant caller names)) s = s
steps_ascend digest w (Ok (Ingest records)) s = ingested_ascends w (with_records digest (w.world.last + 1) (none_taken w.world.events) records) s (records_sorted digest (w.world.last + 1) (none_taken w.world.events) records s)
steps_ascend digest w (Ok (Create caller query days types size asked)) s = asked_ascends w caller days types size asked (bound w.world.dict query) s
steps_ascend digest w (Ok (Page caller number page)) s = page_ascends w page ((w.accounts caller).queries number) s
steps_ascend digest w (Ok (Close caller number)) s = drop_ascends w caller number ((w.accounts caller).queries number) s
