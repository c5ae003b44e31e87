-- On what a request leaves of a desk and its tables.
use Rattle.std.proofs.Common.{◌≡◌, ◌+◌, ◌*◌, ◌-◌, ◌<◌, ◌≤◌, ◌==◌, ◌&&◌, ◌||◌, not, ℕ, Bool, true, false, IsTrue, ◌↔◌, IfSome, cond, nat_le, nat_lt, max, List, filter, map, le_trans, drop, length, Option, Some, None, Result, refl, sym, ap, ap₂, ◌∙◌, subst, inl, inr, arith}
use Rattle.std.proofs.lemmas.List.{length-drop}
use Rattle.std.proofs.lemmas.Bool.{leb-true, lt-ltb, ltb-true, ltb-false}
use Rattle.dw_wire.specs.declared.limits.TheConstants.{MAX_SIZE}
use Rattle.std.proofs.lemmas.Grind.{common_steps}
use Rattle.std.specs.Option.{option_map}
use Rattle.dw_dict.specs.Rules.{widens}
use Rattle.dw_dict.specs.Dictionary.{rule_of}
use Rattle.dw_dict.specs.declared.rule.FieldRule.{FieldRule}
use Rattle.std.specs.Ordering.{nat_cmp}
use Rattle.std.specs.BTreeMap.{is_at}
use Rattle.dw_event.specs.Texts.{is_same}
use Rattle.dw_event.specs.Seen.{is_seen, shown_of}
use Rattle.dw_event.specs.Take.{Taken, last_after, none_taken, report_of, taken}
use Rattle.dw_event.specs.declared.records.Record.{Record}
use Rattle.dw_event.specs.declared.reports.BadRecord.{BadRecord}
use Rattle.dw_eval.specs.Answer.{answer, answer_of}
use Rattle.dw_event.specs.declared.reports.Report.{Report}
use Rattle.dw_page.specs.Asked.{IsAsked}
use Rattle.dw_event.specs.Pages.{has_more}
use Rattle.dw_event.specs.declared.reports.Shown.{Shown}
use Rattle.dw_outside.specs.Tables.{Tables}
use Rattle.dw_outside.specs.declared.keeper_error.KeeperError.{KeeperError}
use Rattle.dw_outside.specs.declared.keeper_error.KeeperError.TheVariants.{Failed, OutOfMemory as KeeperWants}
use Rattle.dw_derive.specs.World.{World}
use Rattle.dw_plan.specs.PlanLaws.{BoundAreRuled}
use Rattle.dw_ingest.specs.Ingested.{after_taken, last_number}
use Rattle.dw_wire.specs.declared.reply.Reply.{Reply}
use Rattle.dw_desk.specs.declared.desk.Desk.{Desk}
use Rattle.dw_desk.specs.State.{State}
use Rattle.dw_desk.specs.declared.kept_query.KeptQuery.{KeptQuery}
use Rattle.dw_page.specs.declared.mark.Mark.{Mark}
use Rattle.dw_page.specs.Marks.{IsMarked}
use Rattle.dw_desk.specs.State.{AccountOf}
use Rattle.dw_desk.specs.Accounts.{closed, marked, opened, query_kept, with_mark}
use Rattle.dw_desk.specs.Stands.{AreMarked, HasRules, Holds, IsMarkedIn, IsStanding, Stands, AllStanding, kept_of, state_of}
use Rattle.dw_desk.specs.Desk.{Answered, Changes, Does, IsFormed, IsLater, KeepsRules, Meets, Replies, SameAccounts, is_accepted, is_refusal, refusal}
use Rattle.dw_desk.specs.Step.{Outcome, step, defined, ingested}
use Rattle.dw_desk.specs.Session.{Digest, Asked}
use Rattle.dw_desk.proofs.DeskLemmas.{Callers, defined_if}
use Rattle.dw_desk.proofs.Keeping.{takes_records}
use Rattle.dw_desk.proofs.Standing.{last_grows, steps_stand}

-- a desk that keeps its rules holds the world that it held
pub holds_kept : (told told' : Option Tables) (d d' : Desk) (w : World) → told' ≡ told → KeepsRules d d' → Holds told d w → Holds told' d' w
holds_kept told told' d d' w same rules h = record {
  tables = same ∙ h.tables;
  lawful = h.lawful;
  rules = record { dict = rules.dict ∙ h.rules.dict; grants = rules.grants ∙ h.rules.grants; last = rules.last ∙ h.rules.last };
}

-- and so does one that is as it was
pub holds_told : (told told' : Option Tables) (d : Desk) (w : World) → told' ≡ told → Holds told d w → Holds told' d w
holds_told told told' d w same h = record { tables = same ∙ h.tables; lawful = h.lawful; rules = h.rules }

-- an error of the keeper is answered, and nothing changed
pub refused_meets : (e : KeeperError) (wants fails : Bool) (out : Outcome) (s next : State) (reply : Reply) → wants ≡ true → fails ≡ true → reply ≡ refusal e → next ≡ s → Meets wants fails out s reply next
refused_meets Failed wants fails out s next reply w f r n = inr (inr (r, n, f))
refused_meets KeeperWants wants fails out s next reply w f r n = inr (inl (r, n, w))

-- a rule that the desk may define may be defined in the world
pub may_be_defined : (d : Desk) (w : World) (field : List ℕ) (rule : FieldRule) → HasRules d w
    → ((w.last == 0) || widens rule (rule_of w.dict field)) ≡ ((d.last == 0) || widens rule (rule_of d.dict field))
may_be_defined d w field rule h = ap₂ (λ n dict. (n == 0) || widens rule (rule_of dict field)) (sym h.last) (sym h.dict)

pub define_accepted : (s : State) (field : List ℕ) (rule : FieldRule) → ((s.world.last == 0) || widens rule (rule_of s.world.dict field)) ≡ true → is_accepted (defined s field rule) ≡ true
define_accepted s field rule e = ap (λ (o : Outcome). not (is_refusal o.reply)) (defined_if true s field rule e)

pub ingest_accepted : (s : State) (t : Taken) → is_accepted (ingested s t) ≡ true
ingest_accepted s t = at (nat_lt 0 t.new && (s.world.last == last_number)) _ _ refl refl
  where
    at : (b : Bool) (x y : Outcome) → not (is_refusal x.reply) ≡ true → not (is_refusal y.reply) ≡ true → not (is_refusal (cond b x y).reply) ≡ true
    at true x y h k = h
    at false x y h k = k

-- ---- pages

-- whether an event stands after a page, in both words
pub more_is : (all : List Shown) (size k : ℕ) (more : Bool) → (IsTrue more ↔ (size < length (drop ((k - 1) * size) all))) → more ≡ has_more all size k
more_is all size k true h = sym (lt-ltb ((k - 1) * size + size) (length all) (let few : size < length (drop ((k - 1) * size) all) = h.0 refl in omega (arith, few, length-drop ((k - 1) * size) all)))
more_is all size k false h = at (nat_lt ((k - 1) * size + size) (length all)) refl
  where
    at : (b : Bool) → nat_lt ((k - 1) * size + size) (length all) ≡ b → false ≡ b
    at true e = h.1 (omega (arith, ltb-true ((k - 1) * size + size) (length all) e, length-drop ((k - 1) * size) all))
    at false e = refl

-- a page counted from 0 starts where the first one does
pub same_start : (page other size : ℕ) → other ≡ max page 1 → (other - 1) * size ≡ (page - 1) * size
same_start page other size e = ap (λ n. n * size) (e_less page other e)
  where
    e_less : (page other : ℕ) → other ≡ max page 1 → other - 1 ≡ page - 1
    e_less page other e = grind (arith, common_steps)

-- an open query is asked of the tables that the desk stands for
pub asked_here : (told : Option Tables) (d : Desk) (w : World) (caller : List ℕ) (number : ℕ) (k : KeptQuery) → Stands told d w → (kept_of d.callers caller).queries number ≡ Some k
    → IsAsked told k.asked.ask k.days k.size w
asked_here told d w caller number k s has =
    let P : Option KeptQuery → Type 0 = λ o. IfSome (option_map query_kept o) (IsStanding w (kept_of d.callers caller).given number) in
    let standing : IsStanding w (kept_of d.callers caller).given number (query_kept k) = subst P has (s.queries caller number) in
    record { told = s.holds.tables; lawful = s.holds.lawful; stands = standing.stands }

-- its mark is true
pub marked_here : (told : Option Tables) (d : Desk) (w : World) (caller : List ℕ) (number : ℕ) (k : KeptQuery) → Stands told d w → (kept_of d.callers caller).queries number ≡ Some k → IsMarkedIn w k
marked_here told d w caller number k s has = subst (λ (o : Option KeptQuery). IfSome o (IsMarkedIn w)) has (s.marks caller number)

first_true : (a b : Bool) → IsTrue (a && b) → a ≡ true
first_true true b h = refl
first_true false b h = cc

-- and its pages show an event at least
pub sized_here : (told : Option Tables) (d : Desk) (w : World) (caller : List ℕ) (number : ℕ) (k : KeptQuery) → Stands told d w → (kept_of d.callers caller).queries number ≡ Some k → 1 ≤ k.size
sized_here told d w caller number k s has =
    let P : Option KeptQuery → Type 0 = λ o. IfSome (option_map query_kept o) (IsStanding w (kept_of d.callers caller).given number) in
    let standing : IsStanding w (kept_of d.callers caller).given number (query_kept k) = subst P has (s.queries caller number) in
    leb-true 1 k.size (first_true (nat_le 1 k.size) (nat_le k.size MAX_SIZE) standing.size)

-- ---- batches

-- the number after records that were reported
pub last_taken : (w : World) (t : Taken) (r : Report) (last next : ℕ) → r ≡ report_of w.last t → w.last ≡ last → (0 < r.new → next ≡ last + 1) → (r.new ≤ 0 → next ≡ last) → next ≡ last_after w.last t
last_taken w t r last next is same more none = at (nat_lt 0 t.new) refl
  where
    news : r.new ≡ t.new
    news = ap (λ (x : Report). x.new) is

    at : (b : Bool) → nat_lt 0 t.new ≡ b → next ≡ cond b (w.last + 1) w.last
    at true e = more (let some : 0 < t.new = ltb-true 0 t.new e in omega (arith, some, news)) ∙ ap (λ n. n + 1) (sym same)
    at false e = none (let few : t.new ≤ 0 = ltb-false 0 t.new e in omega (arith, few, news)) ∙ sym same

-- at the last number nothing new was taken
pub unspent_new : (w : World) (r : Report) (t : Taken) (last : ℕ) → r ≡ report_of w.last t → w.last ≡ last → (last ≡ last_number → r.new ≡ 0) → w.last ≡ last_number → t.new ≡ 0
unspent_new w r t last is same none e = sym (ap (λ (x : Report). x.new) is) ∙ none (sym same ∙ e)

-- ---- all requests

standing_after : (digest : Digest) (s : State) (request : Asked) (reply : Reply) (next : State) → AllStanding (step digest s request).state → AllStanding s → Replies digest s request reply next → AllStanding next
standing_after digest s request reply next after before (inl h) = subst (λ (v : State). AllStanding v) (sym h.1) after
standing_after digest s request reply next after before (inr (inl h)) = subst (λ (v : State). AllStanding v) (sym h.1) before
standing_after digest s request reply next after before (inr (inr h)) = subst (λ (v : State). AllStanding v) (sym h.1) before

-- ---- marks

-- callers that are as before keep their marks
pub marks_same : (w : World) (old new : Callers) → SameAccounts old new → AreMarked w old → AreMarked w new
marks_same w old new same h caller number =
    subst (λ (f : List ℕ → AccountOf KeptQuery). IfSome ((f caller).queries number) (IsMarkedIn w)) (sym same) (h caller number)

-- and so they do where one has changed to what has marks that are true
pub marks_changed : (w : World) (old new : Callers) (name : List ℕ) (f : AccountOf KeptQuery → AccountOf KeptQuery) → Changes old new name f
    → ((number : ℕ) → IfSome ((f (kept_of old name)).queries number) (IsMarkedIn w)) → AreMarked w old → AreMarked w new
marks_changed w old new name f changes one h caller number =
    subst (λ (g : List ℕ → AccountOf KeptQuery). IfSome ((g caller).queries number) (IsMarkedIn w)) (sym changes) (at (is_same name caller))
  where
    at : (b : Bool) → IfSome ((cond b (f (kept_of old name)) (kept_of old caller)).queries number) (IsMarkedIn w)
    at true = one number
    at false = h caller number

-- a query that was opened
pub opened_marks : (w : World) (k : KeptQuery) (a : AccountOf KeptQuery) → IsMarkedIn w k → ((number : ℕ) → IfSome (a.queries number) (IsMarkedIn w)) → (number : ℕ) → IfSome ((opened k a).queries number) (IsMarkedIn w)
opened_marks w k a is h number = at (is_at (nat_cmp (a.given + 1)) number)
  where
    at : (b : Bool) → IfSome (cond b (Some k) (a.queries number)) (IsMarkedIn w)
    at true = is
    at false = h number

-- one that was dropped
pub closed_marks : (w : World) (n : ℕ) (a : AccountOf KeptQuery) → ((number : ℕ) → IfSome (a.queries number) (IsMarkedIn w)) → (number : ℕ) → IfSome ((closed n a).queries number) (IsMarkedIn w)
closed_marks w n a h number = at (is_at (nat_cmp n) number)
  where
    at : (b : Bool) → IfSome (cond b None (a.queries number)) (IsMarkedIn w)
    at true = tt
    at false = h number

-- and one that was marked
pub marked_marks : (w : World) (n : ℕ) (mark : Mark) (k : KeptQuery) (a : AccountOf KeptQuery) → a.queries n ≡ Some k → IsMarkedIn w (with_mark mark k) → ((number : ℕ) → IfSome (a.queries number) (IsMarkedIn w))
    → (number : ℕ) → IfSome ((marked n mark a).queries number) (IsMarkedIn w)
marked_marks w n mark k a has is h number = at (is_at (nat_cmp n) number)
  where
    at : (b : Bool) → IfSome (cond b (option_map (with_mark mark) (a.queries n)) (a.queries number)) (IsMarkedIn w)
    at true = subst (λ (o : Option KeptQuery). IfSome (option_map (with_mark mark) o) (IsMarkedIn w)) (sym has) is
    at false = h number

-- a later world changes no answer that a mark speaks of
marked_later : (w v : World) (k : KeptQuery) → IsLater w v → IsMarkedIn w k → IsMarkedIn v k
marked_later w v k later m = record {
  snapshot = le_trans m.snapshot later.last;
  mark = subst (λ (events : List Shown). IsMarked events k.size k.mark) (sym (later.answers (query_kept k) m.snapshot)) m.mark;
}

some_weaker : (o : Option KeptQuery) (P Q : KeptQuery → Type 0) → ((k : KeptQuery) → P k → Q k) → IfSome o P → IfSome o Q
some_weaker None P Q f h = tt
some_weaker (Some k) P Q f h = f k h

marks_later : (w v : World) (callers : Callers) → IsLater w v → AreMarked w callers → AreMarked v callers
marks_later w v callers later h caller number =
    some_weaker ((kept_of callers caller).queries number) (IsMarkedIn w) (IsMarkedIn v) (λ k. marked_later w v k later) (h caller number)

-- ---- later worlds

-- events and the last number are what they were
pub later_same : (w v : World) → v.events ≡ w.events → v.last ≡ w.last → IsLater w v
later_same w v events last = record { last = omega (arith, last); answers = λ q l. ap (answer_of q) events }

-- records were taken
pub later_taken : (digest : Digest) (w : World) (records : List (Result Record BadRecord)) → IsLater w (after_taken w (taken digest w.events w.last records))
later_taken digest w records = record {
  last = last_grows w.last (taken digest w.events w.last records);
  answers = λ q l. ap (λ es. answer q (filter (λ (s : Shown). is_seen s.view) (map (shown_of q.auths) es)))
      ((takes_records digest (w.last + 1) (none_taken w.events) records).keeps q.snapshot (omega (arith, l)));
}

-- what was done for a well-formed request leaves a desk that stands for a world
pub answered_from : BoundAreRuled → (digest : Digest) (told : Option Tables) (d : Desk) (w : World) (s : State) (request : Asked) (reply : Reply) → AllStanding s → IsFormed request
    → AreMarked w d.callers → Does told d w (Replies digest s request reply) → Answered told d (Replies digest s request reply)
answered_from ruled digest told d w s request reply stand formed marks does = record {
  next = does.next;
  stands = record {
    holds = does.holds;
    queries = standing_after digest s request reply (state_of does.next d) (steps_stand ruled digest s request formed stand) stand does.is;
    marks = marks_later w does.next d.callers does.later marks;
  };
  is = does.is;
}
