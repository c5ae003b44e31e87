-- Two sessions, and one caller who cannot tell them apart: his creates, pages and closes are answered alike, whatever
-- differs in what he is not shown.
use Rattle.std.specs.Prelude.{◌≡◌, ◌⊎◌, ℕ, Bool, true, false, IsTrue, List, [], ◌∷◌, Option, Some, None, Ok, if◌then◌else◌}
use Rattle.dw_event.specs.Seen.{seen}
use Rattle.dw_event.specs.Texts.{is_same}
use Rattle.dw_event.specs.declared.reports.Shown.{Shown}
use Rattle.dw_eval.specs.declared.open_query.OpenQuery.{OpenQuery}
use Rattle.dw_derive.specs.World.{World}
use Rattle.dw_wire.specs.declared.request.Request.TheVariants.{Create, Page, Close}
use Rattle.dw_wire.specs.declared.reply.Reply.TheVariants.{StoreFault, OutOfMemory}
use Rattle.dw_wire.specs.ReplyText.{reply_text}
use Rattle.dw_desk.specs.State.{Account, State, granted_to}
use Rattle.dw_desk.specs.Step.{allowed, step}
use Rattle.dw_desk.specs.Session.{Digest, Asked, Session}
use Rattle.dw_desk.specs.Desk.{is_done}
use Rattle.dw_desk.specs.Laws.{IsKept}

-- ---- what is alike to a caller

-- two open queries ask the same, and each sees the same of its own world; the snapshots may differ
pub record AskAlike (v : World) (p : OpenQuery) (w : World) (q : OpenQuery) : Type 0 where
  pub query : p.query ≡ q.query
  pub dict : p.dict ≡ q.dict
  pub auths : p.auths ≡ q.auths
  pub days : p.days ≡ q.days
  pub types : p.types ≡ q.types
  pub size : p.size ≡ q.size
  pub sees : seen p.auths v.events p.snapshot ≡ seen q.auths w.events q.snapshot

-- no query is open in either world, or one in each, and they ask alike
abbrev pub AreAlike : World → Option OpenQuery → World → Option OpenQuery → Type 0
AreAlike v None w None = Unit {0}
AreAlike v None w (Some q) = ⊥
AreAlike v (Some p) w None = ⊥
AreAlike v (Some p) w (Some q) = AskAlike v p w q

-- two accounts were given as many numbers, and under each number the open queries are alike
pub record AccountsAlike (v : World) (a : Account) (w : World) (b : Account) : Type 0 where
  pub given : a.given ≡ b.given
  pub queries : (number : ℕ) → AreAlike v (a.queries number) w (b.queries number)

-- two states are alike to a caller: his accounts are
abbrev pub AlikeTo : List ℕ → State → State → Type 0
AlikeTo caller s t = AccountsAlike s.world (s.accounts caller) t.world (t.accounts caller)

-- ---- what a caller asks in a session

-- a create, a page or a close of this caller
abbrev pub is_asked_by : List ℕ → Asked → Bool
is_asked_by caller (Ok (Create name query days types size asked)) = is_same name caller
is_asked_by caller (Ok (Page name number page)) = is_same name caller
is_asked_by caller (Ok (Close name number)) = is_same name caller
is_asked_by caller _ = false

abbrev pub is_page : Asked → Bool
is_page (Ok (Page name number page)) = true
is_page _ = false

-- a session from this state on
pub record Run (digest : Digest) (s : State) : Type 0 where
  pub requests : List Asked
  pub texts : List (List ℕ)
  pub last : State
  pub faults : ℕ
  pub is : Session digest s requests texts last faults

-- a request, the state that it met, the text that answered it, and the state and how many faults came of it
pub record Moment : Type 0 where
  pub request : Asked
  pub before : State
  pub text : List ℕ
  pub next : State
  pub faults : ℕ

-- the moments of the caller's creates, pages and closes in a session; all other requests are passed over
abbrev pub moments_from : (digest : Digest) (caller : List ℕ) (s : State) (rs : List Asked) (texts : List (List ℕ)) (last : State) (faults : ℕ)
    → Session digest s rs texts last faults → List Moment
moments_from digest caller s [] texts last faults h = []
moments_from digest caller s (r ∷ rs) [] last faults h = []
moments_from digest caller s (r ∷ rs) (t ∷ ts) last faults h =
    let later = moments_from digest caller h.0 rs ts last h.2 h.4 in
    if is_asked_by caller r then record { request = r; before = s; text = t; next = h.0; faults = h.1 } ∷ later else later

abbrev pub moments : (digest : Digest) (caller : List ℕ) (s : State) → Run digest s → List Moment
moments digest caller s run = moments_from digest caller s run.requests run.texts run.last run.faults run.is

-- ---- the same requests

-- what a query that is created now would see of all events that are held
abbrev pub seen_now : State → List ℕ → Option (List (List ℕ)) → List Shown
seen_now s caller asked = seen (allowed (granted_to s.world.grants caller) asked) s.world.events s.world.last

-- a create meets equal dictionaries and equal grants; where it is accepted, its query sees the same in both states
pub record CreatesAlike (s t : State) (caller : List ℕ) (asked : Option (List (List ℕ))) (accepted : Bool) : Type 0 where
  pub dict : s.world.dict ≡ t.world.dict
  pub granted : granted_to s.world.grants caller ≡ granted_to t.world.grants caller
  pub sees : IsTrue accepted → seen_now s caller asked ≡ seen_now t caller asked

-- that is so, where the request is a create
abbrev pub MeetsAlike : Digest → State → State → Asked → Type 0
MeetsAlike digest s t (Ok (Create caller query days types size asked)) =
    CreatesAlike s t caller asked (is_done (step digest s (Ok (Create caller query days types size asked))).reply)
MeetsAlike digest s t _ = Unit {0}

-- the same requests in the same order, of which each create meets what is alike
abbrev pub AskTheSame : Digest → List Moment → List Moment → Type 0
AskTheSame digest [] [] = Unit {0}
AskTheSame digest [] (n ∷ ns) = ⊥
AskTheSame digest (m ∷ ms) [] = ⊥
AskTheSame digest (m ∷ ms) (n ∷ ns) = (m.request ≡ n.request) × MeetsAlike digest m.before n.before m.request × AskTheSame digest ms ns

-- ---- the same texts

-- the text says that memory was wanting
abbrev pub SaysWant : List ℕ → Type 0
SaysWant text = text ≡ reply_text OutOfMemory

-- the text says that memory was wanting, or that the store failed
abbrev pub SaysFailure : List ℕ → Type 0
SaysFailure text = SaysWant text ⊎ (text ≡ reply_text StoreFault)

-- two texts of a page are equal, unless one says a failure, and what comes later is as said; two of a create or a close are
-- equal and what comes later is as said, unless one says that memory was wanting
abbrev pub SameText : (is_page : Bool) (one other : List ℕ) (Later : Type 0) → Type 0
SameText true one other Later = ((one ≡ other) ⊎ (SaysFailure one ⊎ SaysFailure other)) × Later
SameText false one other Later = ((one ≡ other) × Later) ⊎ (SaysWant one ⊎ SaysWant other)

-- the texts are the same, up to the first create or close that is answered by want of memory in either session
abbrev pub ToldTheSame : List Moment → List Moment → Type 0
ToldTheSame [] [] = Unit {0}
ToldTheSame [] (n ∷ ns) = ⊥
ToldTheSame (m ∷ ms) [] = ⊥
ToldTheSame (m ∷ ms) (n ∷ ns) = SameText (is_page m.request) m.text n.text (ToldTheSame ms ns)

-- two sessions from states that are alike to a caller, in which he asks the same, tell him the same
abbrev pub RepliesAreIsolated : Type 0
RepliesAreIsolated = (digest : Digest) (caller : List ℕ) (s t : State) (one : Run digest s) (other : Run digest t) →
    IsKept s → IsKept t → AlikeTo caller s t →
    AskTheSame digest (moments digest caller s one) (moments digest caller t other) →
    ToldTheSame (moments digest caller s one) (moments digest caller t other)
