-- On what a caller can tell of two sessions.
use Rattle.std.proofs.Common.{◌≡◌, ◌+◌, ◌==◌, ◌⊎◌, ◌∷◌, [], ℕ, Bool, true, false, IsTrue, cond, List, Option, Some, None, Ok, Err, refl, sym, ap, ◌∙◌, subst, inl, inr}
use Rattle.std.specs.Ordering.{nat_cmp}
use Rattle.std.specs.BTreeMap.{is_at}
use Rattle.dw_event.specs.Texts.{is_same}
use Rattle.dw_event.specs.declared.days.Days.{Days}
use Rattle.dw_event.specs.declared.types.Types.{Types}
use Rattle.dw_event.specs.declared.reports.Shown.{Shown}
use Rattle.dw_event.specs.Seen.{seen}
use Rattle.dw_event.specs.Pages.{page_items, has_more}
use Rattle.dw_dict.specs.Dictionary.{Dictionary}
use Rattle.dw_jexl.specs.declared.query.Query.{Query}
use Rattle.dw_eval.specs.declared.nquery.NQuery.{NQuery}
use Rattle.dw_eval.specs.declared.open_query.OpenQuery.{OpenQuery}
use Rattle.dw_eval.specs.Answer.{answer}
use Rattle.dw_eval.specs.Bound.{bound}
use Rattle.dw_plan.specs.Anchored.{anchored}
use Rattle.dw_ingest.specs.Ingested.{last_number}
use Rattle.dw_derive.specs.World.{World}
use Rattle.dw_wire.specs.declared.reply.Reply.{Reply}
use Rattle.dw_wire.specs.declared.reply.Reply.TheVariants.{Created, Paged, Malformed, NotOwned, Unanchored, Spent}
use Rattle.dw_wire.specs.declared.request.Request.TheVariants.{Define, Grant, Ingest, Create, Page, Close}
use Rattle.dw_wire.specs.declared.request.Why.TheVariants.{Literal}
use Rattle.dw_wire.specs.ReplyText.{reply_text}
use Rattle.dw_desk.specs.State.{Account, State, at_caller, granted_to}
use Rattle.dw_desk.specs.Accounts.{opened, closed}
use Rattle.dw_desk.specs.Desk.{is_done}
use Rattle.dw_desk.specs.Step.{Outcome, step, refused, with_caller, asked_for, allowed, created, paged, dropped, query_of}
use Rattle.dw_desk.specs.Session.{Digest, Asked, MayFail, Answers, Session}
use Rattle.dw_desk.specs.Laws.{IsKept}
use Rattle.dw_desk.specs.Isolation.{AskAlike, AreAlike, AccountsAlike, AlikeTo, is_asked_by, is_page, Moment, moments_from, moments, seen_now, CreatesAlike, MeetsAlike, AskTheSame, SaysFailure, SameText, ToldTheSame, RepliesAreIsolated}
use Rattle.dw_desk.proofs.CallerLemmas.{same_name}
use Rattle.dw_desk.proofs.Keeping.{answers_keep}
use Rattle.dw_desk.proofs.Leaving.{Leaves, leaves_same, leaves_then, answers_leave, leaves_alike}

-- ---- the steps of the caller

-- the replies are the same, and what is kept of the caller is alike after them
record OutcomesAlike (caller : List ℕ) (x y : Outcome) : Type 0 where
  reply : x.reply ≡ y.reply
  state : AlikeTo caller x.state y.state

-- another account of the caller in each
changed_alike : (s t : State) (caller : List ℕ) (a b : Account) → is_same caller caller ≡ true → AccountsAlike s.world a t.world b
    → let next : State = record { world = s.world; accounts = at_caller caller a s.accounts } in
    let other : State = record { world = t.world; accounts = at_caller caller b t.accounts } in AlikeTo caller next other
changed_alike s t caller a b his h =
    subst (λ (x : Bool). AccountsAlike s.world (cond x a (s.accounts caller)) t.world (cond x b (t.accounts caller))) (sym his) h

module _ (v w : World) where
  alike_at : (b c : Bool) → b ≡ c → (o p r q : Option OpenQuery) → AreAlike v o w r → AreAlike v p w q → AreAlike v (cond b o p) w (cond c r q)
  alike_at true true e o p r q h k = h
  alike_at true false e o p r q h k = cc
  alike_at false true e o p r q h k = cc
  alike_at false false e o p r q h k = k

  opened_alike : (a b : Account) (p q : OpenQuery) → AskAlike v p w q → AccountsAlike v a w b → AccountsAlike v (opened p a) w (opened q b)
  opened_alike a b p q h k = record {
    given = ap (λ g. g + 1) k.given;
    queries = λ n. alike_at (is_at (nat_cmp (a.given + 1)) n) (is_at (nat_cmp (b.given + 1)) n) (ap (λ g. is_at (nat_cmp (g + 1)) n) k.given)
        (Some p) (a.queries n) (Some q) (b.queries n) h (k.queries n);
  }

  closed_alike : (a b : Account) (number : ℕ) → AccountsAlike v a w b → AccountsAlike v (closed number a) w (closed number b)
  closed_alike a b number k = record {
    given = k.given;
    queries = λ n. alike_at (is_at (nat_cmp number) n) (is_at (nat_cmp number) n) refl None (a.queries n) None (b.queries n) tt (k.queries n);
  }

module _ (s t : State) (caller : List ℕ) (his : is_same caller caller ≡ true) (h : AlikeTo caller s t) where
  refused_alike : (reply : Reply) → OutcomesAlike caller (refused s reply) (refused t reply)
  refused_alike reply = record { reply = refl; state = h }

  created_at : (p q : OpenQuery) (b c : Bool) → b ≡ c
      → let one : Outcome = record { reply = Created ((s.accounts caller).given + 1); state = with_caller s caller (opened p) } in
      let other : Outcome = record { reply = Created ((t.accounts caller).given + 1); state = with_caller t caller (opened q) } in
      (IsTrue (is_done (cond b (refused s Spent) one).reply) → AskAlike s.world p t.world q) → OutcomesAlike caller (cond b (refused s Spent) one) (cond c (refused t Spent) other)
  created_at p q true true e alike = refused_alike Spent
  created_at p q true false e alike = cc
  created_at p q false true e alike = cc
  created_at p q false false e alike = record {
    reply = ap (λ g. Created (g + 1)) h.given;
    state = changed_alike s t caller (opened p (s.accounts caller)) (opened q (t.accounts caller)) his
        (opened_alike s.world t.world (s.accounts caller) (t.accounts caller) p q (alike refl) h);
  }

  created_alike : (p q : OpenQuery) → (IsTrue (is_done (created s caller p).reply) → AskAlike s.world p t.world q) → OutcomesAlike caller (created s caller p) (created t caller q)
  created_alike p q alike = created_at p q ((s.accounts caller).given == last_number) ((t.accounts caller).given == last_number) (ap (λ g. g == last_number) h.given) alike

  anchored_alike : (b : Bool) (p q : OpenQuery)
      → (IsTrue (is_done (cond b (created s caller p) (refused s Unanchored)).reply) → AskAlike s.world p t.world q)
      → OutcomesAlike caller (cond b (created s caller p) (refused s Unanchored)) (cond b (created t caller q) (refused t Unanchored))
  anchored_alike true p q alike = created_alike p q alike
  anchored_alike false p q alike = refused_alike Unanchored

  module _ (days : Days) (types : Types) (size : ℕ) (asked : Option (List (List ℕ))) where
    query_alike : (query : NQuery) → s.world.dict ≡ t.world.dict → granted_to s.world.grants caller ≡ granted_to t.world.grants caller → seen_now s caller asked ≡ seen_now t caller asked
        → AskAlike s.world (query_of s.world caller query days types size asked) t.world (query_of t.world caller query days types size asked)
    query_alike query dict granted sees = record {
      query = refl;
      dict = dict;
      auths = ap (λ names. allowed names asked) granted;
      days = refl;
      types = refl;
      size = refl;
      sees = sees;
    }

    asked_alike : (o : Option NQuery) → CreatesAlike s t caller asked (is_done (asked_for s caller days types size asked o).reply)
        → OutcomesAlike caller (asked_for s caller days types size asked o) (asked_for t caller days types size asked o)
    asked_alike None c = refused_alike (Malformed Literal)
    asked_alike (Some query) c =
        anchored_alike (anchored query) (query_of s.world caller query days types size asked) (query_of t.world caller query days types size asked)
        (λ accepted. query_alike query c.dict c.granted (c.sees accepted))

    create_alike : (query : Query) → CreatesAlike s t caller asked (is_done (asked_for s caller days types size asked (bound s.world.dict query)).reply)
        → OutcomesAlike caller (asked_for s caller days types size asked (bound s.world.dict query)) (asked_for t caller days types size asked (bound t.world.dict query))
    create_alike query c =
        subst (λ (o : Option NQuery). OutcomesAlike caller (asked_for s caller days types size asked (bound s.world.dict query)) (asked_for t caller days types size asked o))
        (ap (λ (d : Dictionary). bound d query) c.dict) (asked_alike (bound s.world.dict query) c)

  dropped_alike : (number : ℕ) (o r : Option OpenQuery) → AreAlike s.world o t.world r → OutcomesAlike caller (dropped s caller number o) (dropped t caller number r)
  dropped_alike number None None a = refused_alike NotOwned
  dropped_alike number None (Some q) a = absurd a
  dropped_alike number (Some p) None a = absurd a
  dropped_alike number (Some p) (Some q) a = record {
    reply = refl;
    state = changed_alike s t caller (closed number (s.accounts caller)) (closed number (t.accounts caller)) his
        (closed_alike s.world t.world (s.accounts caller) (t.accounts caller) number h);
  }

-- ---- pages

-- a page of what a query sees
abbrev reply_for : OpenQuery → List Shown → ℕ → Reply
reply_for q all page = Paged (page_items (answer q all) q.size page) (has_more (answer q all) q.size page)

-- it is made of the query, its rules, days, types and size, and of what is seen
reply_alike : (v w : World) (p q : OpenQuery) (page : ℕ) → AskAlike v p w q
    → reply_for p (seen p.auths v.events p.snapshot) page ≡ reply_for q (seen q.auths w.events q.snapshot) page
reply_alike v w p q page h =
    let all : List Shown = seen p.auths v.events p.snapshot in
    ap (λ (x : NQuery). reply_for (record { query = x; dict = p.dict; auths = p.auths; snapshot = p.snapshot; days = p.days; types = p.types; size = p.size }) all page) h.query
    ∙ ap (λ (x : Dictionary). reply_for (record { query = q.query; dict = x; auths = p.auths; snapshot = p.snapshot; days = p.days; types = p.types; size = p.size }) all page) h.dict
    ∙ ap (λ (x : Days). reply_for (record { query = q.query; dict = q.dict; auths = p.auths; snapshot = p.snapshot; days = x; types = p.types; size = p.size }) all page) h.days
    ∙ ap (λ (x : Types). reply_for (record { query = q.query; dict = q.dict; auths = p.auths; snapshot = p.snapshot; days = q.days; types = x; size = p.size }) all page) h.types
    ∙ ap (λ (x : ℕ). reply_for (record { query = q.query; dict = q.dict; auths = p.auths; snapshot = p.snapshot; days = q.days; types = q.types; size = x }) all page) h.size
    ∙ ap (λ (x : List Shown). reply_for q x page) h.sees

paged_reply : (s t : State) (page : ℕ) (o r : Option OpenQuery) → AreAlike s.world o t.world r → (paged s page o).reply ≡ (paged t page r).reply
paged_reply s t page None None a = refl
paged_reply s t page None (Some q) a = absurd a
paged_reply s t page (Some p) None a = absurd a
paged_reply s t page (Some p) (Some q) a = reply_alike s.world t.world p q page a

paged_state : (s : State) (page : ℕ) (o : Option OpenQuery) → (paged s page o).state ≡ s
paged_state s page None = refl
paged_state s page (Some q) = refl

-- ---- two answers to one request of the caller

module _ (digest : Digest) (s t : State) (text other : List ℕ) (u v : State) (m n : ℕ) where
  -- a page leaves the states as they were
  page_leaves : (w next : State) (name : List ℕ) (number page : ℕ) (said : List ℕ) (faults : ℕ) → Answers digest w (Ok (Page name number page)) said next faults → next ≡ w
  unfolding step
  page_leaves w next name number page said faults (inl a) = a.1 ∙ paged_state w page ((w.accounts name).queries number)
  page_leaves w next name number page said faults (inr (inl a)) = a.1
  page_leaves w next name number page said faults (inr (inr a)) = a.1

  page_texts : (name : List ℕ) (number page : ℕ) → AlikeTo name s t → Answers digest s (Ok (Page name number page)) text u m → Answers digest t (Ok (Page name number page)) other v n
      → (text ≡ other) ⊎ (SaysFailure text ⊎ SaysFailure other)
  unfolding step
  page_texts name number page h (inl a) (inl b) = inl (a.0 ∙ ap reply_text (paged_reply s t page ((s.accounts name).queries number) ((t.accounts name).queries number) (h.queries number)) ∙ sym b.0)
  page_texts name number page h (inr (inl a)) b = inr (inl (inl a.0))
  page_texts name number page h (inr (inr a)) b = inr (inl (inr a.0))
  page_texts name number page h (inl a) (inr (inl b)) = inr (inr (inl b.0))
  page_texts name number page h (inl a) (inr (inr b)) = inr (inr (inr b.0))

  states_alike : (caller : List ℕ) (x y : State) → u ≡ x → v ≡ y → AlikeTo caller x y → AlikeTo caller u v
  states_alike caller x y e f h = subst (λ (a : State). AlikeTo caller a v) (sym e) (subst (λ (b : State). AlikeTo caller x b) (sym f) h)

  page_alike : (name : List ℕ) (number page : ℕ) → AlikeTo name s t → Answers digest s (Ok (Page name number page)) text u m → Answers digest t (Ok (Page name number page)) other v n
      → SameText true text other (AlikeTo name u v)
  page_alike name number page h a b =
      (page_texts name number page h a b, states_alike name s t (page_leaves s u name number page text m a) (page_leaves t v name number page other n b) h)

  -- a request that the store cannot fail
  sure_alike : (caller : List ℕ) (r : Asked) → (MayFail r (step digest s r).reply → ⊥) → (MayFail r (step digest t r).reply → ⊥) → OutcomesAlike caller (step digest s r) (step digest t r)
      → Answers digest s r text u m → Answers digest t r other v n → SameText false text other (AlikeTo caller u v)
  sure_alike caller r f g o (inl a) (inl b) = inl (a.0 ∙ ap reply_text o.reply ∙ sym b.0, states_alike caller (step digest s r).state (step digest t r).state a.1 b.1 o.state)
  sure_alike caller r f g o (inr (inl a)) b = inr (inl a.0)
  sure_alike caller r f g o (inr (inr a)) b = absurd (f a.3)
  sure_alike caller r f g o (inl a) (inr (inl b)) = inr (inr b.0)
  sure_alike caller r f g o (inl a) (inr (inr b)) = absurd (g b.3)

  -- by the name of the caller in the request
  own_alike : (name caller : List ℕ) (r : Asked) → is_same name caller ≡ true → AlikeTo caller s t
      → (is_same name name ≡ true → AlikeTo name s t → SameText (is_page r) text other (AlikeTo name u v)) → SameText (is_page r) text other (AlikeTo caller u v)
  own_alike name caller r his h f =
      let e : name ≡ caller = same_name name caller his in
      subst (λ (c : List ℕ). SameText (is_page r) text other (AlikeTo c u v)) e
      (f (subst (λ (c : List ℕ). is_same name c ≡ true) (sym e) his) (subst (λ (c : List ℕ). AlikeTo c s t) (sym e) h))

  answers_alike : (caller : List ℕ) (r : Asked) → is_asked_by caller r ≡ true → AlikeTo caller s t → MeetsAlike digest s t r → Answers digest s r text u m → Answers digest t r other v n
      → SameText (is_page r) text other (AlikeTo caller u v)
  unfolding step
  answers_alike caller (Err why) his h c a b = cc
  answers_alike caller (Ok (Define field rule)) his h c a b = cc
  answers_alike caller (Ok (Grant name names)) his h c a b = cc
  answers_alike caller (Ok (Ingest records)) his h c a b = cc
  answers_alike caller (Ok (Create name query days types size asked)) his h c a b =
      own_alike name caller (Ok (Create name query days types size asked)) his h (λ same alike.
      sure_alike name (Ok (Create name query days types size asked)) (λ f. cc) (λ f. cc) (create_alike s t name same alike days types size asked query c) a b)
  answers_alike caller (Ok (Page name number page)) his h c a b =
      own_alike name caller (Ok (Page name number page)) his h (λ same alike. page_alike name number page alike a b)
  answers_alike caller (Ok (Close name number)) his h c a b =
      own_alike name caller (Ok (Close name number)) his h (λ same alike.
      sure_alike name (Ok (Close name number)) (λ f. cc) (λ f. cc)
      (dropped_alike s t name same alike number ((s.accounts name).queries number) ((t.accounts name).queries number) (alike.queries number)) a b)

-- ---- sessions

-- the moments of a caller, each after what others left of him
abbrev Trace : Digest → List ℕ → State → List Moment → Type 0
Trace digest caller s [] = Unit {0}
Trace digest caller s (m ∷ ms) =
    Leaves caller s m.before × IsKept m.before × (is_asked_by caller m.request ≡ true) × Answers digest m.before m.request m.text m.next m.faults × Trace digest caller m.next ms

trace_later : (digest : Digest) (caller : List ℕ) (s next : State) (ms : List Moment) → Leaves caller s next → Trace digest caller next ms → Trace digest caller s ms
trace_later digest caller s next [] x h = tt
trace_later digest caller s next (m ∷ ms) x h = (leaves_then caller s next m.before x h.0, h.1, h.2, h.3, h.4)

traced_at : (digest : Digest) (caller : List ℕ) (s : State) (r : Asked) (text : List ℕ) (next : State) (faults : ℕ) (later : List Moment) (b : Bool) → is_asked_by caller r ≡ b → IsKept s
    → Answers digest s r text next faults → Trace digest caller next later
    → let m : Moment = record { request = r; before = s; text = text; next = next; faults = faults } in Trace digest caller s (cond b (m ∷ later) later)
traced_at digest caller s r text next faults later true e k a h = (leaves_same caller s, k, e, a, h)
traced_at digest caller s r text next faults later false e k a h = trace_later digest caller s next later (answers_leave caller digest s next r text faults e a) h

session_traced : (digest : Digest) (caller : List ℕ) (s : State) (rs : List Asked) (texts : List (List ℕ)) (last : State) (faults : ℕ) (h : Session digest s rs texts last faults) → IsKept s
    → Trace digest caller s (moments_from digest caller s rs texts last faults h)
session_traced digest caller s [] texts last faults h k = tt
session_traced digest caller s (r ∷ rs) [] last faults h k = tt
session_traced digest caller s (r ∷ rs) (t ∷ ts) last faults h k =
    traced_at digest caller s r t h.0 h.1 (moments_from digest caller h.0 rs ts last h.2 h.4) (is_asked_by caller r) refl k h.3
    (session_traced digest caller h.0 rs ts last h.2 h.4 (answers_keep digest s h.0 r t h.1 k h.3))

same_then : (b : Bool) (one other : List ℕ) (P Q : Type 0) → (P → Q) → SameText b one other P → SameText b one other Q
same_then true one other P Q f h = (h.0, f h.1)
same_then false one other P Q f (inl h) = inl (h.0, f h.1)
same_then false one other P Q f (inr h) = inr h

traces_told : (digest : Digest) (caller : List ℕ) (s t : State) (ms ns : List Moment) → IsKept s → IsKept t → AlikeTo caller s t → Trace digest caller s ms → Trace digest caller t ns
    → AskTheSame digest ms ns → ToldTheSame ms ns
traces_told digest caller s t [] [] k l h x y z = tt
traces_told digest caller s t [] (n ∷ ns) k l h x y z = z
traces_told digest caller s t (m ∷ ms) [] k l h x y z = z
traces_told digest caller s t (m ∷ ms) (n ∷ ns) k l h x y z =
    let alike : AlikeTo caller m.before n.before = leaves_alike caller s t m.before n.before x.0 y.0 k l h in
    let there : Answers digest n.before m.request n.text n.next n.faults = subst (λ (r : Asked). Answers digest n.before r n.text n.next n.faults) (sym z.0) y.3 in
    same_then (is_page m.request) m.text n.text (AlikeTo caller m.next n.next) (ToldTheSame ms ns)
    (λ next. traces_told digest caller m.next n.next ms ns (answers_keep digest m.before m.next m.request m.text m.faults x.1 x.3) (answers_keep digest n.before n.next m.request n.text n.faults y.1 there) next x.4 y.4 z.2)
    (answers_alike digest m.before n.before m.text n.text m.next n.next m.faults n.faults caller m.request x.2 alike z.1 x.3 there)

pub replies_are_isolated : RepliesAreIsolated
replies_are_isolated digest caller s t one other k l h same =
    traces_told digest caller s t (moments digest caller s one) (moments digest caller t other) k l h
    (session_traced digest caller s one.requests one.texts one.last one.faults one.is k)
    (session_traced digest caller t other.requests other.texts other.last other.faults other.is l) same
