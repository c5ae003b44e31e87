-- On what becomes of an open query.
use Rattle.std.proofs.Common.{◌≡◌, ◌≢◌, ◌≤◌, ◌+◌, ◌==◌, ◌&&◌, ◌||◌, ◌∷◌, [], ℕ, Bool, true, false, cond, nat_lt, List, filter, map, Option, Some, None, IfSome, Ok, Err, All, refl, sym, ap, ◌∙◌, subst, inl, inr, arith}
use Rattle.std.specs.Ordering.{nat_cmp}
use Rattle.std.specs.BTreeMap.{is_at}
use Rattle.std.proofs.lemmas.List.Elements.{All-head, All-tail}
use Rattle.dw_event.specs.Texts.{is_same}
use Rattle.dw_event.specs.declared.days.Days.{Days}
use Rattle.dw_event.specs.declared.types.Types.{Types}
use Rattle.dw_event.specs.declared.reports.Shown.{Shown}
use Rattle.dw_dict.specs.Rules.{widens}
use Rattle.dw_dict.specs.Dictionary.{rule_of}
use Rattle.dw_dict.specs.declared.rule.FieldRule.{FieldRule}
use Rattle.dw_wire.specs.declared.reply.Reply.TheVariants.{Paged}
use Rattle.dw_wire.specs.declared.request.Request.TheVariants.{Define, Grant, Ingest, Create, Page, Close}
use Rattle.dw_eval.specs.declared.nquery.NQuery.{NQuery}
use Rattle.dw_eval.specs.declared.open_query.OpenQuery.{OpenQuery}
use Rattle.dw_eval.specs.Bound.{bound}
use Rattle.dw_plan.specs.Anchored.{anchored}
use Rattle.dw_ingest.specs.Ingested.{last_number}
use Rattle.dw_event.specs.Take.{Event}
use Rattle.dw_desk.specs.State.{Account, State, at_caller}
use Rattle.dw_desk.specs.Accounts.{opened, closed}
use Rattle.dw_event.specs.Take.{Taken, none_taken, with_records}
use Rattle.dw_eval.specs.Answer.{answer, answer_of}
use Rattle.dw_event.specs.Seen.{is_seen, shown_of}
use Rattle.dw_event.specs.Pages.{page_items, has_more}
use Rattle.dw_desk.specs.Step.{Outcome, step, asked_for, defined, ingested, created, paged, dropped, query_of}
use Rattle.dw_desk.specs.Session.{Digest, Asked, Answers, Session}
use Rattle.dw_desk.specs.Laws.{IsKept, IsOpen, KeepsQuery, StepsKeepQueries, SessionsKeepQueries}
use Rattle.dw_desk.proofs.Entries.{same_number}
use Rattle.dw_desk.proofs.CallerLemmas.{same_name}
use Rattle.dw_desk.proofs.Keeping.{before, Takes, takes_records, answers_keep}

-- the query is open as it was, and of the same events up to its snapshot
record Spares (old new : State) (caller : List ℕ) (number : ℕ) (q : OpenQuery) : Type 0 where
  stays : IsOpen new caller number q
  events : before q.snapshot new.world.events ≡ before q.snapshot old.world.events

module _ (caller : List ℕ) (number : ℕ) (q : OpenQuery) where
  spares_same : (w : State) → IsOpen w caller number q → Spares w w caller number q
  spares_same w h = record { stays = h; events = refl }

  spares_then : (a b c : State) → Spares a b caller number q → Spares b c caller number q → Spares a c caller number q
  spares_then a b c x y = record { stays = y.stays; events = y.events ∙ x.events }

  spares_either : (w : State) (b : Bool) (x y : Outcome) → Spares w x.state caller number q → Spares w y.state caller number q → Spares w (cond b x y).state caller number q
  spares_either w true x y h k = h
  spares_either w false x y h k = k

  account_at : (b : Bool) (a x : Account) → (b ≡ true → a.queries number ≡ Some q) → x.queries number ≡ Some q → (cond b a x).queries number ≡ Some q
  account_at true a x h k = h refl
  account_at false a x h k = k

  -- another account of one caller, in which the query stands where it is his
  spares_account : (w : State) (name : List ℕ) (a : Account) → IsOpen w caller number q → (name ≡ caller → a.queries number ≡ Some q)
      → let next : State = record { world = w.world; accounts = at_caller name a w.accounts } in Spares w next caller number q
  spares_account w name a h k = record {
    stays = account_at (is_same name caller) a (w.accounts caller) (λ e. k (same_name name caller e)) h;
    events = refl;
  }

  -- the query is open under its caller's name
  open_by : (w : State) (name : List ℕ) → name ≡ caller → IsOpen w caller number q → (w.accounts name).queries number ≡ Some q
  open_by w name e h = ap (λ n. (w.accounts n).queries number) e ∙ h

  -- what is said of each open query
  current_at : (w : State) → IsKept w → IsOpen w caller number q → (q.snapshot ≤ w.world.last) × (number ≤ (w.accounts caller).given)
  current_at w s h = subst (λ (o : Option OpenQuery). IfSome o (λ q. (q.snapshot ≤ w.world.last) × (number ≤ (w.accounts caller).given))) h (s.accounts caller number)

  opened_at : (query : OpenQuery) (a : Account) → number ≤ a.given → a.queries number ≡ Some q → (opened query a).queries number ≡ Some q
  opened_at query a l h = at (is_at (nat_cmp (a.given + 1)) number) refl
    where
      at : (b : Bool) → is_at (nat_cmp (a.given + 1)) number ≡ b → cond b (Some query) (a.queries number) ≡ Some q
      at true e = absurd (let n : a.given + 1 ≡ number = same_number (a.given + 1) number e in omega arith)
      at false e = h

  closed_at : (n : ℕ) (a : Account) → n ≢ number → a.queries number ≡ Some q → (closed n a).queries number ≡ Some q
  closed_at n a apart h = at (is_at (nat_cmp n) number) refl
    where
      at : (b : Bool) → is_at (nat_cmp n) number ≡ b → cond b None (a.queries number) ≡ Some q
      at true e = absurd (apart (same_number n number e))
      at false e = h

  define_spares : (w : State) (field : List ℕ) (rule : FieldRule) → IsOpen w caller number q → Spares w (defined w field rule).state caller number q
  define_spares w field rule h =
      spares_either w ((w.world.last == 0) || widens rule (rule_of w.world.dict field)) _ _ (record { stays = h; events = refl }) (spares_same w h)

  ingested_spares : (w : State) (t : Taken) → Takes (w.world.last + 1) (none_taken w.world.events) t → q.snapshot ≤ w.world.last → IsOpen w caller number q → Spares w (ingested w t).state caller number q
  ingested_spares w t x l h =
      spares_either w (nat_lt 0 t.new && (w.world.last == last_number)) _ _ (spares_same w h) (record { stays = h; events = x.keeps q.snapshot (omega arith) })

  created_spares : (w : State) (name : List ℕ) (query : OpenQuery) → IsKept w → IsOpen w caller number q → Spares w (created w name query).state caller number q
  created_spares w name query s h =
      spares_either w ((w.accounts name).given == last_number) _ _ (spares_same w h)
      (spares_account w name (opened query (w.accounts name)) h
      (λ e. opened_at query (w.accounts name) (subst (λ (n : List ℕ). number ≤ (w.accounts n).given) (sym e) (current_at w s h).1) (open_by w name e h)))

  asked_spares : (w : State) (name : List ℕ) (days : Days) (types : Types) (size : ℕ) (asked : Option (List (List ℕ))) (o : Option NQuery) → IsKept w → IsOpen w caller number q
      → Spares w (asked_for w name days types size asked o).state caller number q
  asked_spares w name days types size asked None s h = spares_same w h
  asked_spares w name days types size asked (Some b) s h = spares_either w (anchored b) _ _ (created_spares w name (query_of w.world name b days types size asked) s h) (spares_same w h)

  page_spares : (w : State) (page : ℕ) (o : Option OpenQuery) → IsOpen w caller number q → Spares w (paged w page o).state caller number q
  page_spares w page None h = spares_same w h
  page_spares w page (Some p) h = spares_same w h

  drop_spares : (w : State) (name : List ℕ) (n : ℕ) (o : Option OpenQuery) → (name ≡ caller → n ≢ number) → IsOpen w caller number q → Spares w (dropped w name n o).state caller number q
  drop_spares w name n None apart h = spares_same w h
  drop_spares w name n (Some p) apart h = spares_account w name (closed n (w.accounts name)) h (λ e. closed_at n (w.accounts name) (apart e) (open_by w name e h))

  -- a close of another query
  other_close : (name : List ℕ) (n : ℕ) → let one : Asked = Ok (Close name n) in one ≢ Ok (Close caller number) → name ≡ caller → n ≢ number
  other_close name n apart e f = apart (ap (λ c. Ok (Close c n)) e ∙ ap (λ m. Ok (Close caller m)) f)

  step_spares : (digest : Digest) (w : State) (request : Asked) → IsKept w → IsOpen w caller number q → request ≢ Ok (Close caller number) → Spares w (step digest w request).state caller number q
  unfolding step
  step_spares digest w (Err why) s h apart = spares_same w h
  step_spares digest w (Ok (Define field rule)) s h apart = define_spares w field rule h
  step_spares digest w (Ok (Grant name names)) s h apart = record { stays = h; events = refl }
  step_spares digest w (Ok (Ingest records)) s h apart =
      ingested_spares w (with_records digest (w.world.last + 1) (none_taken w.world.events) records) (takes_records digest (w.world.last + 1) (none_taken w.world.events) records) (current_at w s h).0 h
  step_spares digest w (Ok (Create name query days types size asked)) s h apart = asked_spares w name days types size asked (bound w.world.dict query) s h
  step_spares digest w (Ok (Page name n page)) s h apart = page_spares w page ((w.accounts name).queries n) h
  step_spares digest w (Ok (Close name n)) s h apart = drop_spares w name n ((w.accounts name).queries n) (other_close name n apart) h

  answers_spare : (digest : Digest) (w next : State) (request : Asked) (text : List ℕ) (faults : ℕ) → IsKept w → IsOpen w caller number q → request ≢ Ok (Close caller number)
      → Answers digest w request text next faults → Spares w next caller number q
  answers_spare digest w next request text faults s h apart (inl a) = subst (λ (v : State). Spares w v caller number q) (sym a.1) (step_spares digest w request s h apart)
  answers_spare digest w next request text faults s h apart (inr (inl a)) = subst (λ (v : State). Spares w v caller number q) (sym a.1) (spares_same w h)
  answers_spare digest w next request text faults s h apart (inr (inr a)) = subst (λ (v : State). Spares w v caller number q) (sym a.1) (spares_same w h)

  session_spares : (digest : Digest) (w : State) (rs : List Asked) (texts : List (List ℕ)) (last : State) (faults : ℕ) → IsKept w → IsOpen w caller number q
      → Session digest w rs texts last faults → All (λ (r : Asked). r ≢ Ok (Close caller number)) rs → Spares w last caller number q
  session_spares digest w [] [] last faults s h x apart = subst (λ (v : State). Spares w v caller number q) (sym x.0) (spares_same w h)
  session_spares digest w [] (t ∷ ts) last faults s h x apart = absurd x
  session_spares digest w (r ∷ rs) [] last faults s h x apart = absurd x
  session_spares digest w (r ∷ rs) (t ∷ ts) last faults s h x apart =
      let one : Spares w x.0 caller number q = answers_spare digest w x.0 r t x.1 s h (All-head (λ (r : Asked). r ≢ Ok (Close caller number)) r rs apart) x.3 in
      spares_then w x.0 last one
      (session_spares digest x.0 rs ts last x.2 (answers_keep digest w x.0 r t x.1 s x.3) one.stays x.4 (All-tail (λ (r : Asked). r ≢ Ok (Close caller number)) r rs apart))

  same_answer : (old new : State) → Spares old new caller number q → answer_of q new.world.events ≡ answer_of q old.world.events
  same_answer old new x = ap (λ (es : List Event). answer q (filter (λ (s : Shown). is_seen s.view) (map (shown_of q.auths) es))) x.events

  page_is : (digest : Digest) (w : State) (page : ℕ) → IsOpen w caller number q
      → (step digest w (Ok (Page caller number page))).reply ≡ Paged (page_items (answer_of q w.world.events) q.size page) (has_more (answer_of q w.world.events) q.size page)
  unfolding step
  page_is digest w page h = ap (λ (o : Option OpenQuery). (paged w page o).reply) h

  keeps_from : (digest : Digest) (old new : State) → IsOpen old caller number q → Spares old new caller number q → KeepsQuery digest old new caller number q
  keeps_from digest old new h x = record {
    stays = x.stays;
    answer = same_answer old new x;
    replies = λ page. page_is digest new page x.stays
        ∙ ap (λ (all : List Shown). Paged (page_items all q.size page) (has_more all q.size page)) (same_answer old new x)
        ∙ sym (page_is digest old page h);
  }

pub steps_keep_queries : StepsKeepQueries
steps_keep_queries digest w request caller number q s h apart = keeps_from caller number q digest w (step digest w request).state h (step_spares caller number q digest w request s h apart)

pub sessions_keep_queries : SessionsKeepQueries
sessions_keep_queries digest w rs texts last faults caller number q s h x apart =
    keeps_from caller number q digest w last h (session_spares caller number q digest w rs texts last faults s h x apart)
