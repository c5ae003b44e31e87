-- Requests that are answered one after another, and the text of each answer.
use Rattle.std.specs.Prelude.{◌≡◌, ◌+◌, ◌⊎◌, ℕ, IsTrue, List, [], ◌∷◌, Result}
use Rattle.dw_wire.specs.declared.request.Request.{Request}
use Rattle.dw_wire.specs.declared.request.Why.{Why}
use Rattle.dw_wire.specs.declared.reply.Reply.{Reply}
use Rattle.dw_wire.specs.declared.reply.Reply.TheVariants.{StoreFault, OutOfMemory}
use Rattle.dw_wire.specs.ReplyText.{reply_text}
use Rattle.dw_desk.specs.State.{State}
use Rattle.dw_desk.specs.Desk.{may_fail}
use Rattle.dw_desk.specs.Step.{step}

-- how a uid is made of the canonical bytes of a record
abbrev pub Digest : Type 0
Digest = List ℕ → List ℕ

-- a request, or why what was read is none
abbrev pub Asked : Type 0
Asked = Result Request Why

-- a request which the store may fail
abbrev pub MayFail : Asked → Reply → Type 0
MayFail request reply = IsTrue (may_fail request reply)

-- the text is that of the step's reply, and the state after it the step's
abbrev pub IsStep : Digest → State → Asked → List ℕ → State → ℕ → Type 0
IsStep digest s request text next faults =
    (text ≡ reply_text (step digest s request).reply) × (next ≡ (step digest s request).state) × (faults ≡ 0)

-- the text says that memory was wanting, and the state is as it was
abbrev pub IsWant : State → List ℕ → State → ℕ → Type 0
IsWant s text next faults = (text ≡ reply_text OutOfMemory) × (next ≡ s) × (faults ≡ 0)

-- the text says that the store failed, and the state is as it was
abbrev pub IsFault : Digest → State → Asked → List ℕ → State → ℕ → Type 0
IsFault digest s request text next faults =
    (text ≡ reply_text StoreFault) × (next ≡ s) × (faults ≡ 1) × MayFail request (step digest s request).reply

-- the text that answers a request, the state after it, and how many faults of the store were told
abbrev pub Answers : Digest → State → Asked → List ℕ → State → ℕ → Type 0
Answers digest s request text next faults = IsStep digest s request text next faults ⊎ (IsWant s text next faults ⊎ IsFault digest s request text next faults)

-- these texts answer the requests in order, leave the state so, and tell of so many faults of the store
abbrev pub Session : Digest → State → List Asked → List (List ℕ) → State → ℕ → Type 0
Session digest s [] [] last faults = (last ≡ s) × (faults ≡ 0)
Session digest s [] (t ∷ ts) last faults = ⊥
Session digest s (r ∷ rs) [] last faults = ⊥
Session digest s (r ∷ rs) (t ∷ ts) last faults =
    (next : State) × (here : ℕ) × (later : ℕ) × Answers digest s r t next here × Session digest next rs ts last later × (faults ≡ here + later)
