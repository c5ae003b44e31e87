-- The machine: what it answers to a request, and what it is afterwards.
use Rattle.std.specs.Prelude.{ℕ, ◌+◌, ◌==◌, ◌&&◌, ◌||◌, nat_lt, List, Option, Some, None, Result, Ok, Err, if◌then◌else◌}
use Rattle.dw_vis.specs.Names.{common_names}
use Rattle.dw_dict.specs.Rules.{widens}
use Rattle.dw_dict.specs.Dictionary.{rule_of}
use Rattle.dw_dict.specs.declared.rule.FieldRule.{FieldRule}
use Rattle.dw_event.specs.declared.days.Days.{Days}
use Rattle.dw_event.specs.declared.types.Types.{Types}
use Rattle.dw_event.specs.Take.{Taken, taken, report_of}
use Rattle.dw_event.specs.Pages.{page_items, has_more}
use Rattle.dw_eval.specs.declared.nquery.NQuery.{NQuery}
use Rattle.dw_eval.specs.declared.open_query.OpenQuery.{OpenQuery}
use Rattle.dw_eval.specs.Bound.{bound}
use Rattle.dw_eval.specs.Answer.{answer_of}
use Rattle.dw_plan.specs.Anchored.{anchored}
use Rattle.dw_wire.specs.declared.request.Request.{Request}
use Rattle.dw_wire.specs.declared.request.Request.TheVariants.{Define, Grant, Ingest, Create, Page, Close}
use Rattle.dw_wire.specs.declared.request.Why.{Why}
use Rattle.dw_wire.specs.declared.request.Why.TheVariants.{Literal}
use Rattle.dw_wire.specs.declared.reply.Reply.{Reply}
use Rattle.dw_wire.specs.declared.reply.Reply.TheVariants.{Defined, Granted, Ingested, Created, Paged, Closed, Malformed, NotOwned, NotEmpty, Unanchored, Spent}
use Rattle.dw_derive.specs.World.{World}
use Rattle.dw_derive.specs.MetaTables.{with_rule, with_grant}
use Rattle.dw_ingest.specs.Ingested.{after_taken, last_number}
use Rattle.dw_desk.specs.State.{Account, State, at_caller, granted_to}
use Rattle.dw_desk.specs.Accounts.{opened, closed}

-- an answer, and the state after it
pub record Outcome : Type 0 where
  pub reply : Reply
  pub state : State

-- a refusal changes nothing
abbrev pub refused : State → Reply → Outcome
refused s reply = record { reply = reply; state = s }

-- the state with another world
abbrev pub with_world : State → World → State
with_world s w = record { world = w; accounts = s.accounts }

-- the state with what is kept of one caller changed
abbrev pub with_caller : State → List ℕ → (Account → Account) → State
with_caller s caller change = record { world = s.world; accounts = at_caller caller (change (s.accounts caller)) s.accounts }

-- the rule is set, unless a batch was taken and the rule does not widen the present one
abbrev pub defined : State → List ℕ → FieldRule → Outcome
defined s field rule =
    if (s.world.last == 0) || widens rule (rule_of s.world.dict field)
    then record { reply = Defined; state = with_world s (with_rule s.world field rule) }
    else refused s NotEmpty

-- the records were taken, unless one is new and no batch number is left
abbrev pub ingested : State → Taken → Outcome
ingested s t =
    if nat_lt 0 t.new && (s.world.last == last_number)
    then refused s Spent
    else record { reply = Ingested (report_of s.world.last t); state = with_world s (after_taken s.world t) }

-- the names that a query is for: those granted, or those of them that are asked for
abbrev pub allowed : List (List ℕ) → Option (List (List ℕ)) → List (List ℕ)
allowed names None = names
allowed names (Some asked) = common_names names asked

-- a query of what is held now, by the rules of now, for what the caller is granted now
abbrev pub query_of : World → List ℕ → NQuery → Days → Types → ℕ → Option (List (List ℕ)) → OpenQuery
query_of w caller query days types size asked =
    record { query = query; dict = w.dict; auths = allowed (granted_to w.grants caller) asked; snapshot = w.last; days = days; types = types; size = size }

-- the query has the caller's next number, unless none is left
abbrev pub created : State → List ℕ → OpenQuery → Outcome
created s caller query =
    if (s.accounts caller).given == last_number
    then refused s Spent
    else record { reply = Created ((s.accounts caller).given + 1); state = with_caller s caller (opened query) }

-- a query that is bound and anchored is created
abbrev pub asked_for : State → List ℕ → Days → Types → ℕ → Option (List (List ℕ)) → Option NQuery → Outcome
asked_for s caller days types size asked None = refused s (Malformed Literal)
asked_for s caller days types size asked (Some query) =
    if anchored query then created s caller (query_of s.world caller query days types size asked) else refused s Unanchored

-- a page of the caller's query of that number, where there is one
abbrev pub paged : State → ℕ → Option OpenQuery → Outcome
paged s page None = refused s NotOwned
paged s page (Some q) =
    let all = answer_of q s.world.events in
    record { reply = Paged (page_items all q.size page) (has_more all q.size page); state = s }

-- the caller's query of that number is dropped, where there is one
abbrev pub dropped : State → List ℕ → ℕ → Option OpenQuery → Outcome
dropped s caller number None = refused s NotOwned
dropped s caller number (Some q) = record { reply = Closed; state = with_caller s caller (closed number) }

-- one step of the machine
unfoldable pub step : (List ℕ → List ℕ) → State → Result Request Why → Outcome
step digest s (Err why) = refused s (Malformed why)
step digest s (Ok (Define field rule)) = defined s field rule
step digest s (Ok (Grant caller names)) = record { reply = Granted; state = with_world s (with_grant s.world caller names) }
step digest s (Ok (Ingest records)) = ingested s (taken digest s.world.events s.world.last records)
step digest s (Ok (Create caller query days types size asked)) = asked_for s caller days types size asked (bound s.world.dict query)
step digest s (Ok (Page caller number page)) = paged s page ((s.accounts caller).queries number)
step digest s (Ok (Close caller number)) = dropped s caller number ((s.accounts caller).queries number)
