-- On what each step leaves of the open queries of a world.
use Rattle.std.proofs.Common.{◌≡◌, ◌≢◌, ◌≤◌, ◌+◌, ◌==◌, ◌&&◌, ◌||◌, not, ℕ, Bool, true, false, IsTrue, cond, nat_lt, List, Option, Some, None, IfSome, Ok, Err, refl, sym, ap, ◌∙◌, subst, arith, le_trans, le_refl, unwrap_or}
use Rattle.std.specs.declared.cmp.Ordering.{Ordering}
use Rattle.std.specs.declared.cmp.Ordering.TheVariants.{Less, Equal, Greater}
use Rattle.std.specs.Ordering.{nat_cmp, eq_by_cmp, is_eq}
use Rattle.std.specs.BTreeMap.{is_at}
use Rattle.std.specs.Cmp.Lexicographic.{slice_cmp, nat_list_cmp_total}
use Rattle.std.specs.FinMap as map
use Rattle.std.specs.FinMap.{get-insert}
use Rattle.std.proofs.lemmas.Bool.{eqb-true}
use Rattle.std.proofs.lemmas.Map.Lookups.{exact_bytes}
use Rattle.dw_dict.specs.declared.rule.FieldRule.{FieldRule}
use Rattle.dw_dict.specs.Dictionary.{Dictionary, rule_of, undefined, kind_at, kind_again}
use Rattle.dw_dict.specs.Rules.{Widens, widens, kind_number}
use Rattle.dw_event.specs.declared.days.Days.{Days}
use Rattle.dw_event.specs.declared.types.Types.{Types}
use Rattle.dw_event.specs.Take.{Taken, taken, last_after}
use Rattle.dw_event.specs.Texts.{is_same}
use Rattle.dw_derive.specs.World.{World}
use Rattle.dw_derive.specs.MetaTables.{with_rule, with_grant}
use Rattle.dw_eval.specs.declared.nquery.NQuery.{NQuery}
use Rattle.dw_eval.specs.declared.open_query.OpenQuery.{OpenQuery}
use Rattle.dw_eval.specs.Bound.{bound}
use Rattle.dw_plan.specs.Anchored.{anchored}
use Rattle.dw_plan.specs.PlanLaws.{BoundAreRuled, is_ruled}
use Rattle.dw_ingest.specs.Ingested.{after_taken, last_number}
use Rattle.dw_wire.specs.declared.request.Request.TheVariants.{Define, Grant, Ingest, Create, Page, Close}
use Rattle.dw_base.specs.Callers.{is_caller}
use Rattle.dw_wire.specs.WellFormed.{are_days, are_types, is_counted_to}
use Rattle.dw_wire.specs.declared.limits.TheConstants.{MAX_SIZE}
use Rattle.dw_desk.specs.State.{Account, State, at_caller}
use Rattle.dw_desk.specs.Accounts.{opened, closed}
use Rattle.dw_desk.specs.Stands.{IsStanding, AreStanding, AllStanding}
use Rattle.dw_desk.specs.Desk.{IsFormed}
use Rattle.dw_desk.specs.Step.{Outcome, step, asked_for, defined, ingested, created, paged, dropped, query_of}
use Rattle.dw_desk.specs.Session.{Digest, Asked}
use Rattle.dw_desk.proofs.Entries.{same_number}
use Rattle.dw_desk.proofs.Keeping.{if_some_weaker}

-- ---- rules

both_true : (a b : Bool) → (a && b) ≡ true → (a ≡ true) × (b ≡ true)
both_true true true e = (refl, refl)
both_true true false e = cc
both_true false b e = cc

kept_flag : (next old : Bool) → (next || not old) ≡ true → IsTrue old → IsTrue next
kept_flag true old e h = refl
kept_flag false true e h = cc
kept_flag false false e h = cc

pub widens_true : (next old : FieldRule) → widens next old ≡ true → Widens next old
widens_true next old e =
    let last = both_true ((kind_number next.kind == kind_number old.kind) && (next.indexed || not old.indexed)) (next.reversed || not old.reversed) e in
    let first = both_true (kind_number next.kind == kind_number old.kind) (next.indexed || not old.indexed) last.0 in (
      sym (kind_again next.kind) ∙ ap kind_at (eqb-true (kind_number next.kind) (kind_number old.kind) first.0) ∙ kind_again old.kind,
      kept_flag next.indexed old.indexed first.1,
      kept_flag next.reversed old.reversed last.1,
    )

widens_then : (a b c : FieldRule) → Widens a b → Widens b c → Widens a c
widens_then a b c x y = (x.0 ∙ y.0, λ h. x.1 (y.1 h), λ h. x.2 (y.2 h))

widens_itself : (a : FieldRule) → Widens a a
widens_itself a = (refl, λ h. h, λ h. h)

equal_is : (o : Ordering) → is_eq o ≡ true → o ≡ Equal
equal_is Less e = cc
equal_is Equal e = refl
equal_is Greater e = cc

-- the rule of a field once that of one was set
rule_next : (dict : Dictionary) (field : List ℕ) (rule : FieldRule) (f : List ℕ)
    → rule_of (map.insert dict field rule) f ≡ cond (eq_by_cmp (slice_cmp nat_cmp) f field) rule (rule_of dict f)
rule_next dict field rule f =
    ap (λ (o : Option FieldRule). unwrap_or o undefined) (get-insert nat_list_cmp_total dict field rule f) ∙ at (eq_by_cmp (slice_cmp nat_cmp) f field)
  where
    at : (b : Bool) → unwrap_or (cond b (Some rule) (map.get dict f)) undefined ≡ cond b rule (unwrap_or (map.get dict f) undefined)
    at true = refl
    at false = refl

-- a rule that widens the present one widens what that widens
widened_next : (dict : Dictionary) (field : List ℕ) (rule : FieldRule) (f : List ℕ) (old : FieldRule) → Widens rule (rule_of dict field) → Widens (rule_of dict f) old
    → Widens (rule_of (map.insert dict field rule) f) old
widened_next dict field rule f old wide h =
    subst (λ (r : FieldRule). Widens r old) (sym (rule_next dict field rule f)) (at (eq_by_cmp (slice_cmp nat_cmp) f field) refl)
  where
    at : (b : Bool) → eq_by_cmp (slice_cmp nat_cmp) f field ≡ b → Widens (cond b rule (rule_of dict f)) old
    at true e =
        let same : f ≡ field = exact_bytes f field (equal_is (slice_cmp nat_cmp f field) e) in
        widens_then rule (rule_of dict f) old (subst (λ (g : List ℕ). Widens rule (rule_of dict g)) (sym same) wide) h
    at false e = h

-- ---- open queries

-- what the rules of a later world widen where a query sees a batch
abbrev KeepsRules : World → World → Type 0
KeepsRules w v = (q : OpenQuery) → q.snapshot ≤ w.last → q.snapshot ≢ 0 → (field : List ℕ) → Widens (rule_of w.dict field) (rule_of q.dict field) → Widens (rule_of v.dict field) (rule_of q.dict field)

query_later : (w v : World) (g h number : ℕ) (q : OpenQuery) → w.last ≤ v.last → g ≤ h → KeepsRules w v → IsStanding w g number q → IsStanding v h number q
query_later w v g h number q l m keeps s = record {
  stands = record { anchor = s.stands.anchor; ruled = s.stands.ruled; widened = λ some field. keeps q s.snapshot some field (s.stands.widened some field) };
  size = s.size;
  snapshot = le_trans s.snapshot l;
  numbered = le_trans s.numbered m;
}

account_later : (w v : World) (a : Account) → w.last ≤ v.last → KeepsRules w v → AreStanding w a → AreStanding v a
account_later w v a l keeps h number =
    if_some_weaker (a.queries number) (IsStanding w a.given number) (IsStanding v a.given number) (λ q. query_later w v a.given a.given number q l (le_refl a.given) keeps) (h number)

all_later : (s : State) (v : World) → s.world.last ≤ v.last → KeepsRules s.world v → AllStanding s → let next : State = record { world = v; accounts = s.accounts } in AllStanding next
all_later s v l keeps h caller = account_later s.world v (s.accounts caller) l keeps (h caller)

same_rules : (w v : World) → v.dict ≡ w.dict → KeepsRules w v
same_rules w v e q l some field h = subst (λ (d : Dictionary). Widens (rule_of d field) (rule_of q.dict field)) (sym e) h

either_stands : (b : Bool) (x y : Outcome) → AllStanding x.state → AllStanding y.state → AllStanding (cond b x y).state
either_stands true x y h k = h
either_stands false x y h k = k

-- another account of one caller
account_stands : (s : State) (caller : List ℕ) (a : Account) → AllStanding s → AreStanding s.world a
    → let next : State = record { world = s.world; accounts = at_caller caller a s.accounts } in AllStanding next
account_stands s caller a h k q = at (is_same caller q)
  where
    at : (b : Bool) → AreStanding s.world (cond b a (s.accounts q))
    at true = k
    at false = h q

opened_stands : (w : World) (query : OpenQuery) (a : Account) → IsStanding w (a.given + 1) (a.given + 1) query → AreStanding w a → AreStanding w (opened query a)
opened_stands w query a is h number = at (is_at (nat_cmp (a.given + 1)) number) refl
  where
    at : (b : Bool) → is_at (nat_cmp (a.given + 1)) number ≡ b → IfSome (cond b (Some query) (a.queries number)) (IsStanding w (a.given + 1) number)
    at true e = subst (λ (n : ℕ). IsStanding w (a.given + 1) n query) (same_number (a.given + 1) number e) is
    at false e =
        if_some_weaker (a.queries number) (IsStanding w a.given number) (IsStanding w (a.given + 1) number)
        (λ q. query_later w w a.given (a.given + 1) number q (le_refl w.last) (omega arith) (same_rules w w refl)) (h number)

closed_stands : (w : World) (n : ℕ) (a : Account) → AreStanding w a → AreStanding w (closed n a)
closed_stands w n a h number = at (is_at (nat_cmp n) number)
  where
    at : (b : Bool) → IfSome (cond b None (a.queries number)) (IsStanding w a.given number)
    at true = tt
    at false = h number

-- ---- steps

-- nothing is seen before the first batch
none_seen : (w v : World) → w.last ≡ 0 → KeepsRules w v
none_seen w v none q l some field h = absurd (some (omega (arith, l, none)))

define_stands : (s : State) (field : List ℕ) (rule : FieldRule) → AllStanding s → AllStanding (defined s field rule).state
define_stands s field rule h = at (s.world.last == 0) (widens rule (rule_of s.world.dict field)) refl refl
  where
    at : (a b : Bool) → (s.world.last == 0) ≡ a → widens rule (rule_of s.world.dict field) ≡ b → AllStanding (defined s field rule).state
    at true b e f = rw (e) (all_later s (with_rule s.world field rule) (le_refl s.world.last) (none_seen s.world (with_rule s.world field rule) (eqb-true s.world.last 0 e)) h)
    at false true e f = rw (e, f) (all_later s (with_rule s.world field rule) (le_refl s.world.last) (λ q l some g k. widened_next s.world.dict field rule g (rule_of q.dict g) (widens_true rule (rule_of s.world.dict field) f) k) h)
    at false false e f = rw (e, f) h

pub last_grows : (last : ℕ) (t : Taken) → last ≤ last_after last t
last_grows last t = at (nat_lt 0 t.new)
  where
    at : (b : Bool) → last ≤ cond b (last + 1) last
    at true = omega arith
    at false = le_refl last

ingested_stands : (s : State) (t : Taken) → AllStanding s → AllStanding (ingested s t).state
ingested_stands s t h =
    either_stands (nat_lt 0 t.new && (s.world.last == last_number)) _ _ h (all_later s (after_taken s.world t) (last_grows s.world.last t) (same_rules s.world (after_taken s.world t) refl) h)

created_stands : (s : State) (caller : List ℕ) (q : OpenQuery) → ((given : ℕ) → IsStanding s.world given given q) → AllStanding s → AllStanding (created s caller q).state
created_stands s caller q is h =
    either_stands ((s.accounts caller).given == last_number) _ _ h
    (account_stands s caller (opened q (s.accounts caller)) h (opened_stands s.world q (s.accounts caller) (is ((s.accounts caller).given + 1)) (h caller)))

asked_stands : (s : State) (caller : List ℕ) (days : Days) (types : Types) (size : ℕ) (asked : Option (List (List ℕ))) (o : Option NQuery)
    → ((q : NQuery) → o ≡ Some q → is_ruled s.world.dict q ≡ true) → IsTrue (is_counted_to MAX_SIZE size) → AllStanding s → AllStanding (asked_for s caller days types size asked o).state
asked_stands s caller days types size asked None ruled fits h = h
asked_stands s caller days types size asked (Some q) ruled fits h = at (anchored q) refl
  where
    at : (b : Bool) → anchored q ≡ b → AllStanding (asked_for s caller days types size asked (Some q)).state
    at true e = rw (e) (created_stands s caller (query_of s.world caller q days types size asked) (λ given. record {
      stands = record { anchor = e; ruled = ruled q refl; widened = λ some field. widens_itself (rule_of s.world.dict field) };
      size = fits;
      snapshot = le_refl s.world.last;
      numbered = le_refl given;
    }) h)
    at false e = rw (e) h

page_stands : (s : State) (page : ℕ) (o : Option OpenQuery) → AllStanding s → AllStanding (paged s page o).state
page_stands s page None h = h
page_stands s page (Some q) h = h

drop_stands : (s : State) (caller : List ℕ) (number : ℕ) (o : Option OpenQuery) → AllStanding s → AllStanding (dropped s caller number o).state
drop_stands s caller number None h = h
drop_stands s caller number (Some q) h = account_stands s caller (closed number (s.accounts caller)) h (closed_stands s.world number (s.accounts caller) (h caller))

last_of_four : (a b c d : Bool) → IsTrue (a && b && c && d) → IsTrue d
last_of_four true true true d h = h
last_of_four true true false d h = cc
last_of_four true false c d h = cc
last_of_four false b c d h = cc

-- each step of a well-formed request leaves open queries that stand for its world
pub steps_stand : BoundAreRuled → (digest : Digest) (s : State) (request : Asked) → IsFormed request → AllStanding s → AllStanding (step digest s request).state
unfolding step
steps_stand ruled digest s (Err why) f h = h
steps_stand ruled digest s (Ok (Define field rule)) f h = define_stands s field rule h
steps_stand ruled digest s (Ok (Grant caller names)) f h = all_later s (with_grant s.world caller names) (le_refl s.world.last) (same_rules s.world (with_grant s.world caller names) refl) h
steps_stand ruled digest s (Ok (Ingest records)) f h = ingested_stands s (taken digest s.world.events s.world.last records) h
steps_stand ruled digest s (Ok (Create caller query days types size asked)) f h =
    asked_stands s caller days types size asked (bound s.world.dict query) (λ q e. ruled s.world.dict query q e) (last_of_four (is_caller caller) (are_days days) (are_types types) (is_counted_to MAX_SIZE size) f.0) h
steps_stand ruled digest s (Ok (Page caller number page)) f h = page_stands s page ((s.accounts caller).queries number) h
steps_stand ruled digest s (Ok (Close caller number)) f h = drop_stands s caller number ((s.accounts caller).queries number) h
