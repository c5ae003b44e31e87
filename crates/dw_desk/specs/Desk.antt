-- How a desk answers.
use Rattle.std.specs.Prelude.{◌≡◌, ◌≢◌, ◌≤◌, ◌+◌, ◌⊎◌, ◌&&◌, not, ℕ, Bool, true, false, List, Option, Some, None, Result, Ok, Err}
use Rattle.std.specs.BTreeMap.{BTreeMap}
use Rattle.dw_outside.specs.Tables.{Tables}
use Rattle.dw_outside.specs.declared.keeper_error.KeeperError.{KeeperError}
use Rattle.dw_outside.specs.declared.keeper_error.KeeperError.TheVariants.{Failed, OutOfMemory as KeeperWants}
use Rattle.dw_derive.specs.World.{World}
use Rattle.dw_eval.specs.Answer.{answer_of}
use Rattle.dw_eval.specs.declared.open_query.OpenQuery.{OpenQuery}
use Rattle.dw_ingest.specs.Ingested.{last_number}
use Rattle.dw_ingest.specs.declared.reindexing.ReindexError.{ReindexError}
use Rattle.dw_ingest.specs.declared.reindexing.ReindexError.TheVariants.{StoreFault as RuleFault, OutOfMemory as RuleWants}
use Rattle.dw_wire.specs.declared.request.Request.{Request}
use Rattle.dw_wire.specs.declared.request.Why.{Why}
use Rattle.dw_wire.specs.declared.reply.Reply.{Reply}
use Rattle.dw_wire.specs.declared.reply.Reply.TheVariants.{Defined, Granted, Ingested, Created, Paged, Closed, Malformed, NotOwned, NotEmpty, Unanchored, Spent, StoreFault, OutOfMemory}
use Rattle.dw_wire.specs.declared.request.Request.TheVariants.{Define, Grant, Ingest, Create, Page, Close}
use Rattle.dw_wire.specs.WellFormed.{IsWellFormed}
use Rattle.dw_desk.specs.declared.caller.Caller.{Caller}
use Rattle.dw_desk.specs.declared.desk.Desk.{Desk}
use Rattle.dw_desk.specs.declared.kept_query.KeptQuery.{KeptQuery}
use Rattle.dw_desk.specs.State.{AccountOf, State, at_caller}
use Rattle.dw_desk.specs.Accounts.{opened}
use Rattle.dw_desk.specs.Stands.{Holds, Stands, kept_of, grants_of, state_of}
use Rattle.dw_desk.specs.Step.{Outcome, step}

-- what is kept of each caller is as before
abbrev pub SameAccounts : BTreeMap (List ℕ) Caller → BTreeMap (List ℕ) Caller → Type 0
SameAccounts old new = kept_of new ≡ kept_of old

-- what is kept of one caller has changed, and nothing else
abbrev pub Changes : BTreeMap (List ℕ) Caller → BTreeMap (List ℕ) Caller → List ℕ → (AccountOf KeptQuery → AccountOf KeptQuery) → Type 0
Changes old new name change = kept_of new ≡ at_caller name (change (kept_of old name)) (kept_of old)

-- the caller's next number was given to a query, or none is left and nothing changed
abbrev pub Gives : BTreeMap (List ℕ) Caller → BTreeMap (List ℕ) Caller → List ℕ → KeptQuery → Option ℕ → Type 0
Gives old new name query None = ((kept_of old name).given ≡ last_number) × SameAccounts old new
Gives old new name query (Some number) =
    ((kept_of old name).given ≢ last_number) × (number ≡ (kept_of old name).given + 1) × Changes old new name (opened query)

-- the desk has the rules, the grants and the last number that it had
pub record KeepsRules (old new : Desk) : Type 0 where
  pub dict : new.dict ≡ old.dict
  pub grants : grants_of new.grants ≡ grants_of old.grants
  pub last : new.last ≡ old.last

-- and what it kept of each caller
pub record IsSame (old new : Desk) : Type 0 where
  pub rules : KeepsRules old new
  pub accounts : SameAccounts old.callers new.callers

-- ---- replies

-- a reply that does what was asked
abbrev pub is_done : Reply → Bool
is_done Defined = true
is_done Granted = true
is_done (Ingested report) = true
is_done (Created number) = true
is_done (Paged shown more) = true
is_done Closed = true
is_done (Malformed why) = false
is_done NotOwned = false
is_done NotEmpty = false
is_done Unanchored = false
is_done Spent = false
is_done StoreFault = false
is_done OutOfMemory = false

-- the refusals that need no store
abbrev pub is_refusal : Reply → Bool
is_refusal Defined = false
is_refusal Granted = false
is_refusal (Ingested report) = false
is_refusal (Created number) = false
is_refusal (Paged shown more) = false
is_refusal Closed = false
is_refusal (Malformed why) = true
is_refusal NotOwned = true
is_refusal NotEmpty = true
is_refusal Unanchored = true
is_refusal Spent = false
is_refusal StoreFault = false
is_refusal OutOfMemory = false

-- the step gives none of those
abbrev pub is_accepted : Outcome → Bool
is_accepted out = not (is_refusal out.reply)

-- what a keeper's error is answered by
abbrev pub refusal : KeeperError → Reply
refusal Failed = StoreFault
refusal KeeperWants = OutOfMemory

-- a rule was not stored, since the keeper failed or memory was wanting
abbrev pub keeper_error : ReindexError → KeeperError
keeper_error RuleFault = Failed
keeper_error RuleWants = KeeperWants

-- this is the reply of the outcome, and this its state
abbrev pub IsOutcome : Outcome → Reply → State → Type 0
IsOutcome out reply next = (reply ≡ out.reply) × (next ≡ out.state)

-- a request that may want memory, by the step's reply to it: a malformed line and a close want none, nor does a page of a
-- query that is not the caller's
abbrev pub may_want : Result Request Why → Reply → Bool
may_want (Err why) reply = false
may_want (Ok (Define field rule)) reply = true
may_want (Ok (Grant caller names)) reply = true
may_want (Ok (Ingest records)) reply = true
may_want (Ok (Create caller query days types size asked)) reply = true
may_want (Ok (Page caller number page)) reply = not (is_refusal reply)
may_want (Ok (Close caller number)) reply = false

-- the requests for which the store is written or read
abbrev pub uses_store : Result Request Why → Bool
uses_store (Err why) = false
uses_store (Ok (Define field rule)) = true
uses_store (Ok (Grant caller names)) = true
uses_store (Ok (Ingest records)) = true
uses_store (Ok (Create caller query days types size asked)) = false
uses_store (Ok (Page caller number page)) = true
uses_store (Ok (Close caller number)) = false

-- a request which the store may fail, by the step's reply to it: one for which it is used, unless it is refused without the store
abbrev pub may_fail : Result Request Why → Reply → Bool
may_fail request reply = uses_store request && not (is_refusal reply)

-- the outcome, or the want of memory or a fault of the store, where these may come, which change nothing
abbrev pub Meets : Bool → Bool → Outcome → State → Reply → State → Type 0
Meets wants fails out s reply next =
    IsOutcome out reply next ⊎ (((reply ≡ OutOfMemory) × (next ≡ s) × (wants ≡ true)) ⊎ ((reply ≡ StoreFault) × (next ≡ s) × (fails ≡ true)))

-- the answer to a request, and the state after it: those of one step, the want of memory or a fault of the store
abbrev pub Replies : (List ℕ → List ℕ) → State → Result Request Why → Reply → State → Type 0
Replies digest s request reply next =
    Meets (may_want request (step digest s request).reply) (may_fail request (step digest s request).reply) (step digest s request) s reply next

-- ---- answers

-- a later world: no query that sees the batches of the earlier one alone has another answer
pub record IsLater (w v : World) : Type 0 where
  pub last : w.last ≤ v.last
  pub answers : (q : OpenQuery) → q.snapshot ≤ w.last → answer_of q v.events ≡ answer_of q w.events

-- the desk holds a later world, and its state is as said
pub record Does (told : Option Tables) (d : Desk) (w : World) (Is : State → Type 0) : Type 0 where
  pub next : World
  pub holds : Holds told d next
  pub later : IsLater w next
  pub is : Is (state_of next d)

-- the desk and the tables stand for a world again, and its state is as said
pub record Answered (told : Option Tables) (d : Desk) (Is : State → Type 0) : Type 0 where
  pub next : World
  pub stands : Stands told d next
  pub is : Is (state_of next d)

-- a request is well formed, where it is one
abbrev pub IsFormed : Result Request Why → Type 0
IsFormed (Err why) = Unit {0}
IsFormed (Ok request) = IsWellFormed request
