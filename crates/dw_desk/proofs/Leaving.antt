-- On what the requests of others leave of a caller.
use Rattle.std.proofs.Common.{◌≡◌, ◌≤◌, ◌+◌, ◌==◌, ◌&&◌, ◌||◌, ℕ, Bool, true, false, cond, nat_lt, List, filter, map, Option, Some, None, IfSome, Ok, Err, refl, sym, ap, ◌∙◌, subst, inl, inr, arith, le_trans, le_refl}
use Rattle.dw_event.specs.Texts.{is_same}
use Rattle.dw_event.specs.declared.days.Days.{Days}
use Rattle.dw_event.specs.declared.types.Types.{Types}
use Rattle.dw_event.specs.declared.reports.Shown.{Shown}
use Rattle.dw_event.specs.Take.{Event, Taken, none_taken, with_records}
use Rattle.dw_event.specs.Seen.{is_seen, seen, shown_of}
use Rattle.dw_dict.specs.Dictionary.{rule_of}
use Rattle.dw_dict.specs.Rules.{widens}
use Rattle.dw_dict.specs.declared.rule.FieldRule.{FieldRule}
use Rattle.dw_eval.specs.declared.nquery.NQuery.{NQuery}
use Rattle.dw_eval.specs.declared.open_query.OpenQuery.{OpenQuery}
use Rattle.dw_eval.specs.Bound.{bound}
use Rattle.dw_plan.specs.Anchored.{anchored}
use Rattle.dw_ingest.specs.Ingested.{last_number}
use Rattle.dw_wire.specs.declared.request.Request.TheVariants.{Define, Grant, Ingest, Create, Page, Close}
use Rattle.dw_desk.specs.State.{Account, State, at_caller}
use Rattle.dw_desk.specs.Accounts.{opened, closed}
use Rattle.dw_desk.specs.Step.{Outcome, step, asked_for, defined, ingested, created, paged, dropped, query_of}
use Rattle.dw_desk.specs.Session.{Digest, Asked, Answers}
use Rattle.dw_desk.specs.Laws.{IsCurrent, IsKept}
use Rattle.dw_desk.specs.Isolation.{AskAlike, AreAlike, AccountsAlike, AlikeTo, is_asked_by}
use Rattle.dw_desk.proofs.Keeping.{before, Takes, takes_records}

-- ---- what others leave of a caller

-- the caller's account is as it was, and so are the events up to each snapshot that it may have
pub record Leaves (caller : List ℕ) (old new : State) : Type 0 where
  pub account : new.accounts caller ≡ old.accounts caller
  pub last : old.world.last ≤ new.world.last
  pub events : (snapshot : ℕ) → snapshot ≤ old.world.last → before snapshot new.world.events ≡ before snapshot old.world.events

module _ (caller : List ℕ) where
  pub leaves_same : (s : State) → Leaves caller s s
  leaves_same s = record { account = refl; last = le_refl s.world.last; events = λ snapshot l. refl }

  pub leaves_then : (a b c : State) → Leaves caller a b → Leaves caller b c → Leaves caller a c
  leaves_then a b c x y = record {
    account = y.account ∙ x.account;
    last = le_trans x.last y.last;
    events = λ snapshot l. y.events snapshot (le_trans l x.last) ∙ x.events snapshot l;
  }

  leaves_either : (s : State) (b : Bool) (x y : Outcome) → Leaves caller s x.state → Leaves caller s y.state → Leaves caller s (cond b x y).state
  leaves_either s true x y h k = h
  leaves_either s false x y h k = k

  -- another account of another caller
  leaves_other : (s : State) (name : List ℕ) (a : Account) → is_same name caller ≡ false
      → let next : State = record { world = s.world; accounts = at_caller name a s.accounts } in Leaves caller s next
  leaves_other s name a other = record {
    account = ap (λ b. cond b a (s.accounts caller)) other;
    last = le_refl s.world.last;
    events = λ snapshot l. refl;
  }

  defined_leaves : (s : State) (field : List ℕ) (rule : FieldRule) → Leaves caller s (defined s field rule).state
  defined_leaves s field rule =
      leaves_either s ((s.world.last == 0) || widens rule (rule_of s.world.dict field)) _ _
      (record { account = refl; last = le_refl s.world.last; events = λ snapshot l. refl }) (leaves_same s)

  last_grows : (b : Bool) (last : ℕ) → last ≤ cond b (last + 1) last
  last_grows true last = omega arith
  last_grows false last = le_refl last

  ingested_leaves : (s : State) (t : Taken) → Takes (s.world.last + 1) (none_taken s.world.events) t → Leaves caller s (ingested s t).state
  ingested_leaves s t x =
      leaves_either s (nat_lt 0 t.new && (s.world.last == last_number)) _ _ (leaves_same s)
      (record { account = refl; last = last_grows (nat_lt 0 t.new) s.world.last; events = λ snapshot l. x.keeps snapshot (omega (arith, l)) })

  created_leaves : (s : State) (name : List ℕ) (q : OpenQuery) → is_same name caller ≡ false → Leaves caller s (created s name q).state
  created_leaves s name q other =
      leaves_either s ((s.accounts name).given == last_number) _ _ (leaves_same s) (leaves_other s name (opened q (s.accounts name)) other)

  asked_leaves : (s : State) (name : List ℕ) (days : Days) (types : Types) (size : ℕ) (asked : Option (List (List ℕ))) (o : Option NQuery) → is_same name caller ≡ false
      → Leaves caller s (asked_for s name days types size asked o).state
  asked_leaves s name days types size asked None other = leaves_same s
  asked_leaves s name days types size asked (Some q) other =
      leaves_either s (anchored q) _ _ (created_leaves s name (query_of s.world name q days types size asked) other) (leaves_same s)

  paged_leaves : (s : State) (page : ℕ) (o : Option OpenQuery) → Leaves caller s (paged s page o).state
  paged_leaves s page None = leaves_same s
  paged_leaves s page (Some q) = leaves_same s

  dropped_leaves : (s : State) (name : List ℕ) (number : ℕ) (o : Option OpenQuery) → is_same name caller ≡ false → Leaves caller s (dropped s name number o).state
  dropped_leaves s name number None other = leaves_same s
  dropped_leaves s name number (Some q) other = leaves_other s name (closed number (s.accounts name)) other

  step_leaves : (digest : Digest) (s : State) (request : Asked) → is_asked_by caller request ≡ false → Leaves caller s (step digest s request).state
  unfolding step
  step_leaves digest s (Err why) other = leaves_same s
  step_leaves digest s (Ok (Define field rule)) other = defined_leaves s field rule
  step_leaves digest s (Ok (Grant name names)) other = record { account = refl; last = le_refl s.world.last; events = λ snapshot l. refl }
  step_leaves digest s (Ok (Ingest records)) other =
      ingested_leaves s (with_records digest (s.world.last + 1) (none_taken s.world.events) records) (takes_records digest (s.world.last + 1) (none_taken s.world.events) records)
  step_leaves digest s (Ok (Create name query days types size asked)) other = asked_leaves s name days types size asked (bound s.world.dict query) other
  step_leaves digest s (Ok (Page name number page)) other = paged_leaves s page ((s.accounts name).queries number)
  step_leaves digest s (Ok (Close name number)) other = dropped_leaves s name number ((s.accounts name).queries number) other

  pub answers_leave : (digest : Digest) (s next : State) (request : Asked) (text : List ℕ) (faults : ℕ) → is_asked_by caller request ≡ false
      → Answers digest s request text next faults → Leaves caller s next
  answers_leave digest s next request text faults other (inl a) = subst (λ (v : State). Leaves caller s v) (sym a.1) (step_leaves digest s request other)
  answers_leave digest s next request text faults other (inr (inl a)) = subst (λ (v : State). Leaves caller s v) (sym a.1) (leaves_same s)
  answers_leave digest s next request text faults other (inr (inr a)) = subst (λ (v : State). Leaves caller s v) (sym a.1) (leaves_same s)

-- ---- alike before, alike after

-- what is seen up to a snapshot, by the events up to it
seen_before : (names : List (List ℕ)) (old new : List Event) (snapshot : ℕ) → before snapshot new ≡ before snapshot old → seen names new snapshot ≡ seen names old snapshot
seen_before names old new snapshot e = ap (λ (es : List Event). filter (λ (s : Shown). is_seen s.view) (map (shown_of names) es)) e

module _ (caller : List ℕ) (s t next other : State) (x : Leaves caller s next) (y : Leaves caller t other) where
  left_alike : (p q : OpenQuery) → p.snapshot ≤ s.world.last → q.snapshot ≤ t.world.last → AskAlike s.world p t.world q → AskAlike next.world p other.world q
  left_alike p q l m h = record {
    query = h.query;
    dict = h.dict;
    auths = h.auths;
    days = h.days;
    types = h.types;
    size = h.size;
    sees = seen_before p.auths s.world.events next.world.events p.snapshot (x.events p.snapshot l) ∙ h.sees
        ∙ sym (seen_before q.auths t.world.events other.world.events q.snapshot (y.events q.snapshot m));
  }

  left_at : (number g h : ℕ) (o r : Option OpenQuery) → IfSome o (λ (q : OpenQuery). (q.snapshot ≤ s.world.last) × (number ≤ g)) → IfSome r (λ (q : OpenQuery). (q.snapshot ≤ t.world.last) × (number ≤ h))
      → AreAlike s.world o t.world r → AreAlike next.world o other.world r
  left_at number g h None None l m a = tt
  left_at number g h None (Some q) l m a = a
  left_at number g h (Some p) None l m a = a
  left_at number g h (Some p) (Some q) l m a = left_alike p q l.0 m.0 a

  left_accounts : (a b : Account) → IsCurrent s.world.last a → IsCurrent t.world.last b → AccountsAlike s.world a t.world b → AccountsAlike next.world a other.world b
  left_accounts a b k l h = record {
    given = h.given;
    queries = λ number. left_at number a.given b.given (a.queries number) (b.queries number) (k number) (l number) (h.queries number);
  }

  pub leaves_alike : IsKept s → IsKept t → AlikeTo caller s t → AlikeTo caller next other
  leaves_alike k l h =
      subst (λ (a : Account). AccountsAlike next.world a other.world (other.accounts caller)) (sym x.account)
      (subst (λ (b : Account). AccountsAlike next.world (s.accounts caller) other.world b) (sym y.account)
      (left_accounts (s.accounts caller) (t.accounts caller) (k.accounts caller) (l.accounts caller) h))
