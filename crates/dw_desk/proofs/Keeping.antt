-- On what each step keeps: the order of the events, their batches, and the numbers of queries.
use Rattle.std.proofs.Common.{◌≡◌, ◌≤◌, ◌<◌, ◌+◌, ◌==◌, ◌&&◌, ◌||◌, ◌∷◌, [], ℕ, Bool, true, false, cond, nat_lt, nat_le, List, filter, Option, Some, None, IfSome, Result, Ok, Err, refl, sym, ap, ◌∙◌, subst, inl, inr, arith, le_trans, le_refl}
use Rattle.std.specs.List.{AllByRecursion}
use Rattle.std.specs.declared.cmp.Ordering.{Ordering}
use Rattle.std.specs.declared.cmp.Ordering.TheVariants.{Less, Equal, Greater}
use Rattle.std.specs.Ordering.{nat_cmp, match_ordering}
use Rattle.std.specs.BTreeMap.{is_at, insert_entry}
use Rattle.std.proofs.lemmas.Bool.{ltb-false}
use Rattle.std.proofs.lemmas.Grind.{common_steps}
use Rattle.std.proofs.lemmas.List.Elements.{All-from_recursion, recursion_from_All}
use Rattle.dw_event.specs.Places.{place_cmp, place_of}
use Rattle.dw_event.specs.Cells.{cells_eq}
use Rattle.dw_event.specs.Texts.{is_same}
use Rattle.dw_event.specs.declared.days.Days.{Days}
use Rattle.dw_event.specs.declared.types.Types.{Types}
use Rattle.dw_event.specs.declared.records.Place.{Place}
use Rattle.dw_event.specs.declared.records.Record.{Record}
use Rattle.dw_event.specs.declared.reports.BadRecord.{BadRecord}
use Rattle.dw_dict.specs.Rules.{widens}
use Rattle.dw_dict.specs.Dictionary.{rule_of}
use Rattle.dw_dict.specs.declared.rule.FieldRule.{FieldRule}
use Rattle.dw_wire.specs.declared.request.Request.TheVariants.{Define, Grant, Ingest, Create, Page, Close}
use Rattle.dw_event.specs.declared.records.Held.{Held}
use Rattle.dw_eval.specs.declared.nquery.NQuery.{NQuery}
use Rattle.dw_eval.specs.declared.open_query.OpenQuery.{OpenQuery}
use Rattle.dw_eval.specs.Bound.{bound}
use Rattle.dw_plan.specs.Anchored.{anchored}
use Rattle.dw_ingest.specs.Ingested.{last_number}
use Rattle.dw_event.specs.Take.{Event}
use Rattle.dw_derive.specs.World.{World}
use Rattle.dw_derive.specs.Lawful.{IsWorld}
use Rattle.dw_desk.specs.State.{Account, State, start, at_caller}
use Rattle.dw_desk.specs.Accounts.{opened, closed}
use Rattle.dw_event.specs.Take.{Taken, none_taken, with_held, with_record, with_records, held_at}
use Rattle.dw_desk.specs.Step.{Outcome, step, asked_for, defined, ingested, created, paged, dropped, query_of}
use Rattle.dw_desk.specs.Session.{Digest, Asked, Answers, Session}
use Rattle.dw_desk.specs.Laws.{IsCurrent, IsKept, StepsKeep, SessionsKeep}
use Rattle.dw_desk.proofs.Entries.{same_number}
use Rattle.dw_desk.proofs.Taking.{filter_insert}
use Rattle.dw_desk.proofs.LawLemmas.{steps_ascend}

-- ---- records that are taken in

-- the events are of batches up to this one
abbrev pub Upto : ℕ → List Event → Type 0
Upto n es = AllByRecursion (λ (e : Event). e.1.batch ≤ n) es

upto_at : (n : ℕ) (o : Ordering) (place : Place) (held : Held) (e : Event) (es more : List Event) → held.batch ≤ n → Upto n (e ∷ es) → Upto n more
    → Upto n (match_ordering o ((place, held) ∷ e ∷ es) ((e.0, held) ∷ es) (e ∷ more))
upto_at n Less place held e es more l h m = (l, h)
upto_at n Equal place held e es more l h m = (l, h.1)
upto_at n Greater place held e es more l h m = (h.0, m)

upto_insert : (n : ℕ) (place : Place) (held : Held) (es : List Event) → held.batch ≤ n → Upto n es → Upto n (insert_entry place_cmp es place held)
upto_insert n place held [] l h = (l, tt)
upto_insert n place held (e ∷ es) l h = upto_at n (place_cmp place e.0) place held e es (insert_entry place_cmp es place held) l h (upto_insert n place held es l h.1)

upto_later : (m n : ℕ) (es : List Event) → m ≤ n → Upto m es → Upto n es
upto_later m n [] l h = tt
upto_later m n (e ∷ es) l h = (le_trans h.0 l, upto_later m n es l h.1)

-- the events of the batches up to a snapshot
abbrev pub before : ℕ → List Event → List Event
before snapshot es = filter (λ (e : Event). nat_le e.1.batch snapshot) es

-- what records leave of what was taken in before them
pub record Takes (batch : ℕ) (old new : Taken) : Type 0 where
  pub keeps : (snapshot : ℕ) → snapshot < batch → before snapshot new.events ≡ before snapshot old.events
  pub upto : Upto batch old.events → Upto batch new.events
  pub counts : old.new ≤ new.new
  pub same : new.new ≡ old.new → new.events ≡ old.events

takes_none : (batch : ℕ) (old new : Taken) → new.events ≡ old.events → new.new ≡ old.new → Takes batch old new
takes_none batch old new e n = record {
  keeps = λ snapshot l. ap (before snapshot) e;
  upto = λ h. subst (λ (es : List Event). Upto batch es) (sym e) h;
  counts = omega arith;
  same = λ _. e;
}

takes_then : (batch : ℕ) (a b c : Taken) → Takes batch a b → Takes batch b c → Takes batch a c
takes_then batch a b c x y = record {
  keeps = λ snapshot l. y.keeps snapshot l ∙ x.keeps snapshot l;
  upto = λ h. y.upto (x.upto h);
  counts = le_trans x.counts y.counts;
  same = λ e. y.same (omega (arith, x.counts, y.counts)) ∙ x.same (omega (arith, x.counts, y.counts));
}

not_seen : (n snapshot : ℕ) → snapshot < n → nat_le n snapshot ≡ false
not_seen n snapshot l = grind (arith, common_steps)

takes_new : (batch : ℕ) (place : Place) (rec : Record) (t : Taken) → held_at t.events place ≡ None → Takes batch t (with_held batch place rec t None)
takes_new batch place rec t free =
    let held : Held = record { cells = rec.cells; batch = batch } in
    record {
      keeps = λ snapshot l. filter_insert (λ (e : Event). nat_le e.1.batch snapshot) t.events place held (not_seen batch snapshot l) free;
      upto = λ h. upto_insert batch place held t.events (le_refl batch) h;
      counts = omega arith;
      same = λ e. absurd (omega arith);
    }

takes_either : (batch : ℕ) (t : Taken) (b : Bool) (x y : Taken) → Takes batch t x → Takes batch t y → Takes batch t (cond b x y)
takes_either batch t true x y h k = h
takes_either batch t false x y h k = k

takes_held : (batch : ℕ) (place : Place) (rec : Record) (t : Taken) (h : Option Held) → held_at t.events place ≡ h → Takes batch t (with_held batch place rec t h)
takes_held batch place rec t None e = takes_new batch place rec t e
takes_held batch place rec t (Some held) e = takes_either batch t (cells_eq held.cells rec.cells) _ _ (takes_none batch t _ refl refl) (takes_none batch t _ refl refl)

takes_record : (digest : Digest) (batch : ℕ) (t : Taken) (rec : Result Record BadRecord) → Takes batch t (with_record digest batch t rec)
unfolding with_record
takes_record digest batch t (Err rule) = takes_none batch t _ refl refl
takes_record digest batch t (Ok rec) = takes_held batch (place_of digest rec) rec t (held_at t.events (place_of digest rec)) refl

pub takes_records : (digest : Digest) (batch : ℕ) (t : Taken) (recs : List (Result Record BadRecord)) → Takes batch t (with_records digest batch t recs)
takes_records digest batch t [] = takes_none batch t t refl refl
takes_records digest batch t (rec ∷ recs) =
    takes_then batch t (with_record digest batch t rec) (with_records digest batch (with_record digest batch t rec) recs)
    (takes_record digest batch t rec) (takes_records digest batch (with_record digest batch t rec) recs)

-- ---- batches and numbers

-- what is kept beside the order of the events
record Holds (w : State) : Type 0 where
  batches : Upto w.world.last w.world.events
  accounts : (caller : List ℕ) → IsCurrent w.world.last (w.accounts caller)

pub if_some_weaker : (o : Option OpenQuery) (P Q : OpenQuery → Type 0) → ((q : OpenQuery) → P q → Q q) → IfSome o P → IfSome o Q
if_some_weaker None P Q f h = tt
if_some_weaker (Some q) P Q f h = f q h

current_later : (m n : ℕ) (a : Account) → m ≤ n → IsCurrent m a → IsCurrent n a
current_later m n a l h number =
    if_some_weaker (a.queries number) (λ q. (q.snapshot ≤ m) × (number ≤ a.given)) (λ q. (q.snapshot ≤ n) × (number ≤ a.given)) (λ q k. (le_trans k.0 l, k.1)) (h number)

current_either : (last : ℕ) (b : Bool) (x y : Account) → IsCurrent last x → IsCurrent last y → IsCurrent last (cond b x y)
current_either last true x y h k = h
current_either last false x y h k = k

current_opened : (last : ℕ) (query : OpenQuery) (a : Account) → query.snapshot ≤ last → IsCurrent last a → IsCurrent last (opened query a)
current_opened last query a l h number = at (is_at (nat_cmp (a.given + 1)) number) refl
  where
    at : (b : Bool) → is_at (nat_cmp (a.given + 1)) number ≡ b → IfSome (cond b (Some query) (a.queries number)) (λ (q : OpenQuery). (q.snapshot ≤ last) × (number ≤ a.given + 1))
    at true e = (l, let n : a.given + 1 ≡ number = same_number (a.given + 1) number e in omega arith)
    at false e = if_some_weaker (a.queries number) (λ q. (q.snapshot ≤ last) × (number ≤ a.given)) (λ q. (q.snapshot ≤ last) × (number ≤ a.given + 1)) (λ q k. (k.0, omega (arith, k.1))) (h number)

current_closed : (last : ℕ) (n : ℕ) (a : Account) → IsCurrent last a → IsCurrent last (closed n a)
current_closed last n a h number = at (is_at (nat_cmp n) number)
  where
    at : (b : Bool) → IfSome (cond b None (a.queries number)) (λ (q : OpenQuery). (q.snapshot ≤ last) × (number ≤ a.given))
    at true = tt
    at false = h number

either_holds : (b : Bool) (x y : Outcome) → Holds x.state → Holds y.state → Holds (cond b x y).state
either_holds true x y h k = h
either_holds false x y h k = k

-- another account of one caller
account_holds : (w : State) (caller : List ℕ) (a : Account) → Holds w → IsCurrent w.world.last a
    → let next : State = record { world = w.world; accounts = at_caller caller a w.accounts } in Holds next
account_holds w caller a h k = record {
  batches = h.batches;
  accounts = λ q. current_either w.world.last (is_same caller q) a (w.accounts q) k (h.accounts q);
}

last_at : (b : Bool) (w : State) (t : Taken) → nat_lt 0 t.new ≡ b → Takes (w.world.last + 1) (none_taken w.world.events) t → Holds w
    → let last : ℕ = cond b (w.world.last + 1) w.world.last in
    let next : State = record { world = record { events = t.events; dict = w.world.dict; grants = w.world.grants; last = last; old = w.world.old }; accounts = w.accounts } in Holds next
last_at true w t e x h = record {
  batches = x.upto (upto_later w.world.last (w.world.last + 1) w.world.events (omega arith) h.batches);
  accounts = λ caller. current_later w.world.last (w.world.last + 1) (w.accounts caller) (omega arith) (h.accounts caller);
}
last_at false w t e x h = record {
  batches = subst (λ (es : List Event). Upto w.world.last es) (sym (x.same (let few : t.new ≤ 0 = ltb-false 0 t.new e in omega arith))) h.batches;
  accounts = h.accounts;
}

ingested_holds : (w : State) (t : Taken) → Takes (w.world.last + 1) (none_taken w.world.events) t → Holds w → Holds (ingested w t).state
ingested_holds w t x h = either_holds (nat_lt 0 t.new && (w.world.last == last_number)) _ _ h (last_at (nat_lt 0 t.new) w t refl x h)

define_holds : (w : State) (field : List ℕ) (rule : FieldRule) → Holds w → Holds (defined w field rule).state
define_holds w field rule h = either_holds ((w.world.last == 0) || widens rule (rule_of w.world.dict field)) _ _ (record { batches = h.batches; accounts = h.accounts }) h

created_holds : (w : State) (caller : List ℕ) (q : OpenQuery) → q.snapshot ≤ w.world.last → Holds w → Holds (created w caller q).state
created_holds w caller q l h =
    either_holds ((w.accounts caller).given == last_number) _ _ h
    (account_holds w caller (opened q (w.accounts caller)) h (current_opened w.world.last q (w.accounts caller) l (h.accounts caller)))

asked_holds : (w : State) (caller : List ℕ) (days : Days) (types : Types) (size : ℕ) (asked : Option (List (List ℕ))) (o : Option NQuery) → Holds w → Holds (asked_for w caller days types size asked o).state
asked_holds w caller days types size asked None h = h
asked_holds w caller days types size asked (Some q) h = either_holds (anchored q) _ _ (created_holds w caller (query_of w.world caller q days types size asked) (le_refl w.world.last) h) h

page_holds : (w : State) (page : ℕ) (o : Option OpenQuery) → Holds w → Holds (paged w page o).state
page_holds w page None h = h
page_holds w page (Some q) h = h

drop_holds : (w : State) (caller : List ℕ) (number : ℕ) (o : Option OpenQuery) → Holds w → Holds (dropped w caller number o).state
drop_holds w caller number None h = h
drop_holds w caller number (Some q) h = account_holds w caller (closed number (w.accounts caller)) h (current_closed w.world.last number (w.accounts caller) (h.accounts caller))

step_holds : (digest : Digest) (w : State) (request : Asked) → Holds w → Holds (step digest w request).state
unfolding step
step_holds digest w (Err why) h = h
step_holds digest w (Ok (Define field rule)) h = define_holds w field rule h
step_holds digest w (Ok (Grant caller names)) h = record { batches = h.batches; accounts = h.accounts }
step_holds digest w (Ok (Ingest records)) h = ingested_holds w (with_records digest (w.world.last + 1) (none_taken w.world.events) records) (takes_records digest (w.world.last + 1) (none_taken w.world.events) records) h
step_holds digest w (Ok (Create caller query days types size asked)) h = asked_holds w caller days types size asked (bound w.world.dict query) h
step_holds digest w (Ok (Page caller number page)) h = page_holds w page ((w.accounts caller).queries number) h
step_holds digest w (Ok (Close caller number)) h = drop_holds w caller number ((w.accounts caller).queries number) h

holds_from : (w : State) → IsKept w → Holds w
holds_from w h = record { batches = recursion_from_All (λ (e : Event). e.1.batch ≤ w.world.last) w.world.events h.batches; accounts = h.accounts }

pub steps_keep : StepsKeep
steps_keep digest w request h =
    let next : State = (step digest w request).state in
    let k : Holds next = step_holds digest w request (holds_from w h) in
    record {
      ascends = steps_ascend digest w request h.ascends;
      batches = All-from_recursion (λ (e : Event). e.1.batch ≤ next.world.last) next.world.events k.batches;
      accounts = k.accounts;
    }

pub answers_keep : (digest : Digest) (w next : State) (request : Asked) (text : List ℕ) (faults : ℕ) → IsKept w → Answers digest w request text next faults → IsKept next
answers_keep digest w next request text faults s (inl h) = subst (λ (v : State). IsKept v) (sym h.1) (steps_keep digest w request s)
answers_keep digest w next request text faults s (inr (inl h)) = subst (λ (v : State). IsKept v) (sym h.1) s
answers_keep digest w next request text faults s (inr (inr h)) = subst (λ (v : State). IsKept v) (sym h.1) s

session_keeps : (digest : Digest) (w : State) (rs : List Asked) (texts : List (List ℕ)) (last : State) (faults : ℕ) → IsKept w → Session digest w rs texts last faults → IsKept last
session_keeps digest w [] [] last faults s h = subst (λ (v : State). IsKept v) (sym h.0) s
session_keeps digest w [] (t ∷ ts) last faults s h = absurd h
session_keeps digest w (r ∷ rs) [] last faults s h = absurd h
session_keeps digest w (r ∷ rs) (t ∷ ts) last faults s h = session_keeps digest h.0 rs ts last h.2 (answers_keep digest w h.0 r t h.1 s h.3) h.4

start_kept : (w : World) → IsWorld w → IsKept (start w)
start_kept w is = record {
  ascends = is.events.ascend;
  batches = All-from_recursion (λ (e : Event). e.1.batch ≤ w.last) w.events is.batches;
  accounts = λ caller number. tt;
}

pub sessions_keep : SessionsKeep
sessions_keep digest w rs texts last faults is h = session_keeps digest (start w) rs texts last faults (start_kept w is) h
