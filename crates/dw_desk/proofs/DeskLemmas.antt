-- On what each request leaves of the desk.
use Rattle.std.proofs.Common.{◌≡◌, ◌+◌, ◌<◌, ◌==◌, ◌&&◌, ◌||◌, ℕ, Bool, true, false, cond, nat_lt, List, [], Option, Some, None, IfSome, is_some, refl, sym, ap, ◌∙◌, subst, inl}
use mathlib.Core.Path.{fun_ext}
use Rattle.std.specs.Map.{lookup}
use Rattle.std.specs.Ordering.{nat_cmp}
use Rattle.std.specs.Cmp.Lexicographic.{slice_cmp}
use Rattle.std.specs.Option.{option_map, option_map_or}
use Rattle.std.specs.BTreeMap.{BTreeMap, is_at}
use Rattle.std.proofs.lemmas.Bool.{lt-ltb, eq-eqb, ne_eqb, eqb-true}
use Rattle.dw_dict.specs.Rules.{widens}
use Rattle.dw_dict.specs.Dictionary.{rule_of}
use Rattle.dw_dict.specs.declared.rule.FieldRule.{FieldRule}
use Rattle.dw_event.specs.declared.days.Days.{Days}
use Rattle.dw_event.specs.declared.types.Types.{Types}
use Rattle.dw_wire.specs.declared.reply.Reply.{Reply}
use Rattle.dw_wire.specs.declared.reply.Reply.TheVariants.{Defined, Ingested, Created, Closed, Malformed, NotOwned, NotEmpty, Unanchored, Spent}
use Rattle.dw_wire.specs.declared.request.Why.TheVariants.{Literal}
use Rattle.dw_eval.specs.declared.nquery.NQuery.{NQuery}
use Rattle.dw_eval.specs.declared.open_query.OpenQuery.{OpenQuery}
use Rattle.dw_desk.specs.declared.caller.Caller.{Caller}
use Rattle.dw_plan.specs.Anchored.{anchored}
use Rattle.dw_ingest.specs.Ingested.{after_taken, last_number}
use Rattle.dw_derive.specs.World.{World}
use Rattle.dw_derive.specs.MetaTables.{with_rule}
use Rattle.dw_page.specs.declared.mark.Mark.{Mark}
use Rattle.dw_event.specs.Texts.{is_same}
use Rattle.dw_desk.specs.declared.kept_query.KeptQuery.{KeptQuery}
use Rattle.dw_desk.specs.State.{Account, AccountOf, State, at_caller, nobody, start}
use Rattle.dw_desk.specs.Accounts.{account, entry_account, opened, closed, marked, query_kept}
use Rattle.dw_event.specs.Take.{Taken}
use Rattle.dw_event.specs.Take.{last_after}
use Rattle.dw_desk.specs.Step.{Outcome, asked_for, created, defined, ingested, dropped, query_of, refused, with_caller, with_world}
use Rattle.dw_desk.specs.Stands.{AllStanding, AreMarked, IsMarkedIn, account_of, kept_of}
use Rattle.dw_desk.specs.Desk.{SameAccounts, Changes, Gives, IsOutcome, Meets}
use Rattle.dw_desk.proofs.Entries.{none_closed_in, opened_account, closed_account, marked_account}
use Rattle.dw_desk.proofs.CallerLemmas.{unchanged}

abbrev pub Callers : Type 0
Callers = BTreeMap (List ℕ) Caller

-- the state of a world and of what callers keep
abbrev pub state_at : World → Callers → State
state_at w callers = record { world = w; accounts = account_of callers }

abbrev accounts_in : (List ℕ → AccountOf KeptQuery) → List ℕ → Account
accounts_in f name = account (f name)

-- callers that are as before leave the state as it was
pub state_same : (w : World) (old new : Callers) → SameAccounts old new → state_at w new ≡ state_at w old
state_same w old new same = ap (λ (f : List ℕ → AccountOf KeptQuery). record { world = w; accounts = accounts_in f }) same

account_at : (b : Bool) (a c : AccountOf KeptQuery) → account (cond b a c) ≡ cond b (account a) (account c)
account_at true a c = refl
account_at false a c = refl

-- one caller that has changed changes the state so
pub state_changed : (w : World) (old new : Callers) (name : List ℕ) (f : AccountOf KeptQuery → AccountOf KeptQuery) (g : Account → Account)
    → account (f (kept_of old name)) ≡ g (account (kept_of old name)) → Changes old new name f → state_at w new ≡ with_caller (state_at w old) name g
state_changed w old new name f g is changes =
    ap (λ (k : List ℕ → AccountOf KeptQuery). record { world = w; accounts = accounts_in k }) changes
    ∙ ap (λ (k : List ℕ → Account). record { world = w; accounts = k })
    (fun_ext (λ q. account_at (is_same name q) (f (kept_of old name)) (kept_of old q) ∙ ap (λ (a : Account). cond (is_same name q) a (account_of old q)) is))

-- ---- create

created_if : (b : Bool) (w : State) (name : List ℕ) (query : OpenQuery) → ((w.accounts name).given == last_number) ≡ b
    → created w name query ≡ cond b (refused w Spent) (record { reply = Created ((w.accounts name).given + 1); state = with_caller w name (opened query) })
created_if b w name query e = rw e refl

pub created_some : (w : World) (old new : Callers) (name : List ℕ) (query : KeptQuery) (number : ℕ) → Gives old new name query (Some number)
    → IsOutcome (created (state_at w old) name (query_kept query)) (Created number) (state_at w new)
created_some w old new name query number h =
    let is = created_if false (state_at w old) name (query_kept query) (ne_eqb (kept_of old name).given last_number h.0) in (
      ap Created h.1 ∙ sym (ap (λ (o : Outcome). o.reply) is),
      state_changed w old new name (opened query) (opened (query_kept query)) (opened_account query (kept_of old name)) h.2 ∙ sym (ap (λ (o : Outcome). o.state) is),
    )

pub created_none : (w : World) (old new : Callers) (name : List ℕ) (query : KeptQuery) → Gives old new name query None
    → IsOutcome (created (state_at w old) name (query_kept query)) Spent (state_at w new)
created_none w old new name query h =
    let is = created_if true (state_at w old) name (query_kept query) (eq-eqb (kept_of old name).given last_number h.0) in
    (sym (ap (λ (o : Outcome). o.reply) is), state_same w old new h.1 ∙ sym (ap (λ (o : Outcome). o.state) is))

-- ---- a query that is asked for

anchored_if : (b : Bool) (w : State) (name : List ℕ) (days : Days) (types : Types) (size : ℕ) (asked : Option (List (List ℕ))) (query : NQuery) → anchored query ≡ b
    → asked_for w name days types size asked (Some query) ≡ cond b (created w name (query_of w.world name query days types size asked)) (refused w Unanchored)
anchored_if b w name days types size asked query e = ap (λ x. cond x (created w name (query_of w.world name query days types size asked)) (refused w Unanchored)) e

pub asked_anchored : (w next : State) (name : List ℕ) (days : Days) (types : Types) (size : ℕ) (asked : Option (List (List ℕ))) (query : NQuery) (o : Option NQuery) (reply : Reply)
    → Some query ≡ o → anchored query ≡ true → Meets true false (created w name (query_of w.world name query days types size asked)) w reply next
    → Meets true false (asked_for w name days types size asked o) w reply next
asked_anchored w next name days types size asked query o reply at is h =
    let P : Option NQuery → Type 0 = λ x. Meets true false (asked_for w name days types size asked x) w reply next in
    let Q : Outcome → Type 0 = λ x. Meets true false x w reply next in
    subst P at (subst Q (sym (anchored_if true w name days types size asked query is)) h)

pub asked_unanchored : (w : State) (name : List ℕ) (days : Days) (types : Types) (size : ℕ) (asked : Option (List (List ℕ))) (query : NQuery) (o : Option NQuery)
    → Some query ≡ o → anchored query ≡ false → Meets true false (asked_for w name days types size asked o) w Unanchored w
asked_unanchored w name days types size asked query o at is =
    let P : Option NQuery → Type 0 = λ x. Meets true false (asked_for w name days types size asked x) w Unanchored w in
    let Q : Outcome → Type 0 = λ x. Meets true false x w Unanchored w in
    subst P at (subst Q (sym (anchored_if false w name days types size asked query is)) (inl (refl, refl)))

pub asked_unbound : (w : State) (name : List ℕ) (days : Days) (types : Types) (size : ℕ) (asked : Option (List (List ℕ))) (o : Option NQuery)
    → None ≡ o → Meets true false (asked_for w name days types size asked o) w (Malformed Literal) w
asked_unbound w name days types size asked o at =
    let P : Option NQuery → Type 0 = λ x. Meets true false (asked_for w name days types size asked x) w (Malformed Literal) w in
    subst P at (inl (refl, refl))

-- ---- define

pub defined_if : (b : Bool) (w : State) (field : List ℕ) (rule : FieldRule) → ((w.world.last == 0) || widens rule (rule_of w.world.dict field)) ≡ b
    → defined w field rule ≡ cond b (record { reply = Defined; state = with_world w (with_rule w.world field rule) }) (refused w NotEmpty)
defined_if b w field rule e = rw e refl

pub defined_ok : (w next : State) (field : List ℕ) (rule : FieldRule) → ((w.world.last == 0) || widens rule (rule_of w.world.dict field)) ≡ true
    → next ≡ with_world w (with_rule w.world field rule) → IsOutcome (defined w field rule) Defined next
defined_ok w next field rule e at =
    let is = defined_if true w field rule e in
    (sym (ap (λ (o : Outcome). o.reply) is), at ∙ sym (ap (λ (o : Outcome). o.state) is))

pub defined_not : (w : State) (field : List ℕ) (rule : FieldRule) → ((w.world.last == 0) || widens rule (rule_of w.world.dict field)) ≡ false
    → IsOutcome (defined w field rule) NotEmpty w
defined_not w field rule e =
    let is = defined_if false w field rule e in
    (sym (ap (λ (o : Outcome). o.reply) is), sym (ap (λ (o : Outcome). o.state) is))

-- ---- close

some_kept : (o : Option KeptQuery) → is_some (option_map query_kept o) ≡ is_some o
some_kept None = refl
some_kept (Some k) = refl

dropped_at : (w : World) (old new : Callers) (name : List ℕ) (number : ℕ) (o : Option OpenQuery) (b : Bool)
    → (account_of old name).queries number ≡ o → state_at w new ≡ with_caller (state_at w old) name (closed number) → b ≡ is_some o
    → IsOutcome (dropped (state_at w old) name number o) (cond b Closed NotOwned) (state_at w new)
dropped_at w old new name number None true e h s = cc
dropped_at w old new name number None false e h s = (
  refl,
  h ∙ ap (λ (f : List ℕ → Account). record { world = w; accounts = f })
      (ap (λ a. at_caller name a (account_of old)) (none_closed_in number (account_of old name) e) ∙ unchanged (account_of old) name),
)
dropped_at w old new name number (Some q) true e h s = (refl, h)
dropped_at w old new name number (Some q) false e h s = cc

pub dropped_is : (w : World) (old new : Callers) (name : List ℕ) (number : ℕ) (b found : Bool)
    → Changes old new name (closed number) → found ≡ is_some ((kept_of old name).queries number) → found ≡ b
    → IsOutcome (dropped (state_at w old) name number ((account_of old name).queries number)) (cond b Closed NotOwned) (state_at w new)
dropped_is w old new name number b found h s e =
    dropped_at w old new name number ((account_of old name).queries number) b refl
    (state_changed w old new name (closed number) (closed number) (closed_account number (kept_of old name)) h)
    (sym e ∙ s ∙ sym (some_kept ((kept_of old name).queries number)))

absent_kept : (o : Option KeptQuery) → is_some o ≡ false → o ≡ None
absent_kept None e = refl
absent_kept (Some k) e = cc

-- nothing is dropped where the caller has no such query
pub dropped_none : (old new : Callers) (name : List ℕ) (number : ℕ) (found : Bool) → Changes old new name (closed number) → found ≡ is_some ((kept_of old name).queries number) → found ≡ false
    → SameAccounts old new
dropped_none old new name number found h s e =
    h ∙ ap (λ a. at_caller name a (kept_of old)) (none_closed_in number (kept_of old name) (absent_kept ((kept_of old name).queries number) (sym s ∙ e))) ∙ unchanged (kept_of old) name

-- ---- ingest

not_spent : (n last : ℕ) (b : Bool) → (last == last_number) ≡ b → (last ≡ last_number → n ≡ 0) → (nat_lt 0 n && b) ≡ false
not_spent n last true e h = ap (λ k. nat_lt 0 k && true) (h (eqb-true last last_number e))
not_spent n last false e h = and_false (nat_lt 0 n)
  where
    and_false : (x : Bool) → (x && false) ≡ false
    and_false true = refl
    and_false false = refl

abbrev pub ingested_ok : State → Taken → Outcome
ingested_ok w t = record {
  reply = Ingested (record { new = t.new; repeat = t.repeat; bad = t.bad; last = last_after w.world.last t });
  state = with_world w (after_taken w.world t);
}

ingested_if : (b : Bool) (w : State) (t : Taken) → (nat_lt 0 t.new && (w.world.last == last_number)) ≡ b
    → ingested w t ≡ cond b (refused w Spent) (ingested_ok w t)
ingested_if b w t e = rw e refl

pub ingested_from : (w : State) (t : Taken) → (w.world.last ≡ last_number → t.new ≡ 0) → IsOutcome (ingested w t) (ingested_ok w t).reply (ingested_ok w t).state
ingested_from w t h =
    let is = ingested_if false w t (not_spent t.new w.world.last (w.world.last == last_number) refl h) in
    (sym (ap (λ (o : Outcome). o.reply) is), sym (ap (λ (o : Outcome). o.state) is))

-- no batch number was left
pub ingested_spent : (w : State) (t : Taken) → 0 < t.new → w.world.last ≡ last_number → IsOutcome (ingested w t) Spent w
ingested_spent w t some at =
    let is = ingested_if true w t (and_true (nat_lt 0 t.new) (w.world.last == last_number) (lt-ltb 0 t.new some) (eq-eqb w.world.last last_number at)) in
    (sym (ap (λ (o : Outcome). o.reply) is), sym (ap (λ (o : Outcome). o.state) is))
  where
    and_true : (x y : Bool) → x ≡ true → y ≡ true → (x && y) ≡ true
    and_true x y e f = rw (e, f) refl

-- ---- a page

-- a mark changes no state
pub state_marked : (w : World) (old new : Callers) (name : List ℕ) (number : ℕ) (mark : Mark) → Changes old new name (marked number mark) → state_at w new ≡ state_at w old
state_marked w old new name number mark h =
    state_changed w old new name (marked number mark) (λ a. a) (marked_account number mark (kept_of old name)) h
    ∙ ap (λ (f : List ℕ → Account). record { world = w; accounts = f }) (unchanged (account_of old) name)

-- ---- a desk that was loaded

-- nobody has opened a query
none_kept_of : (m : Callers) → m.entries ≡ [] → kept_of m ≡ (λ _. nobody)
none_kept_of m e = fun_ext (λ q. ap (λ es. option_map_or entry_account (lookup (is_at (slice_cmp nat_cmp q)) es) nobody) e)

pub nobody_kept : (w : World) (m : Callers) → m.entries ≡ [] → state_at w m ≡ start w
nobody_kept w m e = ap (λ (f : List ℕ → AccountOf KeptQuery). record { world = w; accounts = accounts_in f }) (none_kept_of m e)

pub all_nobody : (w : World) (m : Callers) → m.entries ≡ [] → AllStanding (state_at w m)
all_nobody w m e = subst (λ (s : State). AllStanding s) (sym (nobody_kept w m e)) (λ caller number. tt)

pub none_marked_yet : (w : World) (m : Callers) → m.entries ≡ [] → AreMarked w m
none_marked_yet w m e caller number = subst (λ (f : List ℕ → AccountOf KeptQuery). IfSome ((f caller).queries number) (IsMarkedIn w)) (sym (none_kept_of m e)) tt
