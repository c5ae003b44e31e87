-- Laws over the definitions: what holds of every state that requests leave, what becomes of an open query, the pages of
-- a query together, and what the text of an answer says.
use Rattle.std.specs.Prelude.{◌≡◌, ◌≢◌, ◌≤◌, ℕ, List, Some, Ok, IfSome, All}
use Rattle.std.specs.List.Sorted.{IsStrictlySortedBy}
use Rattle.std.specs.Map.{keys_of}
use Rattle.dw_event.specs.Places.{place_cmp}
use Rattle.dw_wire.specs.declared.request.Request.TheVariants.{Page, Close}
use Rattle.dw_wire.specs.declared.reply.Reply.TheVariants.{StoreFault, OutOfMemory}
use Rattle.dw_wire.specs.ReplyText.{reply_text}
use Rattle.dw_eval.specs.declared.open_query.OpenQuery.{OpenQuery}
use Rattle.dw_derive.specs.World.{World}
use Rattle.dw_derive.specs.Lawful.{IsWorld}
use Rattle.dw_desk.specs.State.{Account, State, start}
use Rattle.dw_eval.specs.Answer.{answer_of}
use Rattle.dw_desk.specs.Step.{step}
use Rattle.dw_desk.specs.Session.{Digest, Asked, Session}

-- ---- states

-- the events stand each place once, ascending by shard, type and uid
abbrev pub Ascends : State → Type 0
Ascends s = IsStrictlySortedBy place_cmp (keys_of s.world.events)

-- each open query sees no batch after the last one, and has a number that its caller was given
abbrev pub IsCurrent : ℕ → Account → Type 0
IsCurrent last a = (number : ℕ) → IfSome (a.queries number) (λ q. (q.snapshot ≤ last) × (number ≤ a.given))

-- what holds of each state that requests leave
pub record IsKept (s : State) : Type 0 where
  pub ascends : Ascends s
  -- each event is of a batch up to the last one
  pub batches : All (λ e. e.1.batch ≤ s.world.last) s.world.events
  pub accounts : (caller : List ℕ) → IsCurrent s.world.last (s.accounts caller)

-- each step keeps it
abbrev pub StepsKeep : Type 0
StepsKeep = (digest : Digest) (s : State) (request : Asked) → IsKept s → IsKept (step digest s request).state

-- it holds of each state that answers to requests leave, from a lawful world on
abbrev pub SessionsKeep : Type 0
SessionsKeep = (digest : Digest) (w : World) (rs : List Asked) (texts : List (List ℕ)) (last : State) (faults : ℕ) → IsWorld w → Session digest (start w) rs texts last faults → IsKept last

-- ---- open queries

-- this is the caller's open query of that number
abbrev pub IsOpen : State → List ℕ → ℕ → OpenQuery → Type 0
IsOpen s caller number q = (s.accounts caller).queries number ≡ Some q

-- the query is still open as it was, and its answer and each of its pages are what they were
pub record KeepsQuery (digest : Digest) (old new : State) (caller : List ℕ) (number : ℕ) (q : OpenQuery) : Type 0 where
  pub stays : IsOpen new caller number q
  pub answer : answer_of q new.world.events ≡ answer_of q old.world.events
  pub replies : (page : ℕ) → (step digest new (Ok (Page caller number page))).reply ≡ (step digest old (Ok (Page caller number page))).reply

-- a step keeps each open query that it does not close, whatever is taken in, granted or defined by it
abbrev pub StepsKeepQueries : Type 0
StepsKeepQueries = (digest : Digest) (s : State) (request : Asked) (caller : List ℕ) (number : ℕ) (q : OpenQuery) →
    IsKept s → IsOpen s caller number q → request ≢ Ok (Close caller number) → KeepsQuery digest s (step digest s request).state caller number q

-- so do answers to any requests of which none closes it
abbrev pub SessionsKeepQueries : Type 0
SessionsKeepQueries = (digest : Digest) (s : State) (rs : List Asked) (texts : List (List ℕ)) (last : State) (faults : ℕ) (caller : List ℕ) (number : ℕ) (q : OpenQuery) →
    IsKept s → IsOpen s caller number q → Session digest s rs texts last faults → All (λ r. r ≢ Ok (Close caller number)) rs → KeepsQuery digest s last caller number q

-- ---- texts

-- no text of a step is one of the two that say that nothing was done, and these two differ
pub record TextsTell (digest : Digest) (s : State) (request : Asked) : Type 0 where
  pub memory : reply_text (step digest s request).reply ≢ reply_text OutOfMemory
  pub store : reply_text (step digest s request).reply ≢ reply_text StoreFault
  pub apart : reply_text OutOfMemory ≢ reply_text StoreFault

abbrev pub StepsTell : Type 0
StepsTell = (digest : Digest) (s : State) (request : Asked) → TextsTell digest s request

-- so the texts tell the state and the number of faults
abbrev pub SessionsTell : Type 0
SessionsTell = (digest : Digest) (s : State) (rs : List Asked) (texts : List (List ℕ)) (one other : State) (m n : ℕ) →
    Session digest s rs texts one m → Session digest s rs texts other n → (one ≡ other) × (m ≡ n)
