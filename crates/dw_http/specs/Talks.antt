-- What a conversation takes, answers and writes.
use Rattle.std.specs.Prelude.{◌≡◌, ◌<◌, ◌≤◌, ◌⊎◌, ℕ, ◌^◌, List, [], ◌∷◌, ◌++◌, length, take, IfSome}
use Rattle.std.specs.Io.KnownBytes.{append_known}
use Rattle.dw_outside.specs.Faults.{Rose}
use Rattle.dw_outside.specs.Links.{Meaning}
use Rattle.dw_http.specs.Messages.{Ask, Begins, Closed, Messages, IsOpen, End, done, bad}
use Rattle.dw_http.specs.Texts.{last_reply}
use Rattle.dw_http.specs.declared.why.HttpWhy.{HttpWhy}
use Rattle.dw_http.specs.declared.talk.Ended.{Ended}
use Rattle.dw_http.specs.declared.talk.Ended.TheVariants.{Done, ReadFault, WriteFault, BadHttp, TooMuch, OutOfMemory}

-- the texts, one after the other
abbrev pub joined : List (List ℕ) → List ℕ
joined [] = []
joined (text ∷ texts) = text ++ joined texts

-- the most bytes that a conversation takes
abbrev pub most_bytes : ℕ
most_bytes = 2 ^ 40

-- the input ends there, or its first bytes tell the end whatever follows, and within the most that is taken
pub record Concludes (input : List ℕ) (asks : List Ask) (end : End) : Type 0 where
  pub taken : List ℕ
  pub rest : List ℕ
  pub input_is : input ≡ taken ++ rest
  pub few : length taken ≤ most_bytes
  pub told : ((rest ≡ []) × Messages taken asks end) ⊎ ((more : List ℕ) → Messages (taken ++ more) asks end)

-- the first messages of the input have these asks
abbrev pub Starts : List ℕ → List Ask → Type 0
Starts input asks = ((left : List ℕ) × Begins input asks left) ⊎ Closed input asks

-- after the asks nothing in the most that is taken ends the connection, and more is there
pub record Exceeds (input : List ℕ) (asks : List Ask) : Type 0 where
  pub taken : List ℕ
  pub rest : List ℕ
  pub input_is : input ≡ taken ++ rest
  pub all : length taken ≡ most_bytes
  pub more : 0 < length rest
  pub left : List ℕ
  pub begins : Begins taken asks left
  pub open_end : IsOpen left

-- the bytes that were taken have these asks
pub record Stopped (input left : List ℕ) (asks : List Ask) : Type 0 where
  pub taken : List ℕ
  pub input_is : input ≡ taken ++ left
  pub end : End
  pub messages : Messages taken asks end

module _ {H : Type 0} (answers : H → Ask → List ℕ → H → Type 0) (stays : H → H → Type 0) where
  -- the asks were answered in order with these texts
  abbrev pub Answered : H → List Ask → List (List ℕ) → H → Type 0
  Answered before [] [] after = after ≡ before
  Answered before (ask ∷ asks) (text ∷ texts) after = (next : H) × answers before ask text next × Answered next asks texts after
  Answered before [] (text ∷ texts) after = ⊥
  Answered before (ask ∷ asks) [] after = ⊥

  -- the asks were answered, and what was written is their texts and then a last one
  pub record Wrote (before : Meaning) (start : H) (asks : List Ask) (last : List ℕ) (after : Meaning) (state : H) : Type 0 where
    pub texts : List (List ℕ)
    pub answered : Answered start asks texts state
    pub written : after.writing.bytes ≡ append_known before.writing.bytes (joined texts ++ last)

  -- a write failed: in the response to the last ask, or in the last reply
  pub record WroteLess (before : Meaning) (start : H) (after : Meaning) (state : H) : Type 0 where
    pub asks : List Ask
    pub texts : List (List ℕ)
    pub answered : Answered start asks texts state
    pub sent : List (List ℕ)
    pub last : List ℕ
    pub count : ℕ
    pub written : after.writing.bytes ≡ append_known before.writing.bytes (joined sent ++ take count last)
    pub which : ((texts ≡ sent ++ last ∷ []) × IfSome before.reading.bytes (λ input. Starts input asks))
        ⊎ ((texts ≡ sent) × ((why : HttpWhy) × (last ≡ last_reply why) × IfSome before.reading.bytes (λ input. Concludes input asks (bad why))))

  -- there was no memory: before the next ask was answered, or in its answer, of which nothing was written
  pub record Wanted (before : Meaning) (start : H) (after : Meaning) (state : H) : Type 0 where
    pub asks : List Ask
    pub mid : H
    pub wrote : Wrote before start asks [] after mid
    pub starts : IfSome before.reading.bytes (λ input. Starts input asks)
    pub next : (state ≡ mid) ⊎ ((ask : Ask) × IfSome before.reading.bytes (λ input. Starts input (asks ++ ask ∷ [])) × (stays mid state ⊎ ((text : List ℕ) × answers mid ask text state)))

  -- how a conversation ended, and what it did until then
  abbrev pub Conversed : Meaning → H → Ended → Meaning → H → Type 0
  Conversed before start Done after state =
      (asks : List Ask) × Wrote before start asks [] after state × IfSome before.reading.bytes (λ input. Concludes input asks done)
  Conversed before start (BadHttp why) after state =
      (asks : List Ask) × Wrote before start asks (last_reply why) after state × IfSome before.reading.bytes (λ input. Concludes input asks (bad why))
  Conversed before start ReadFault after state =
      (asks : List Ask) × Wrote before start asks [] after state × Rose before.reading.faults after.reading.faults
      × IfSome before.reading.bytes (λ input. IfSome after.reading.bytes (λ left. Stopped input left asks))
  Conversed before start TooMuch after state =
      (asks : List Ask) × Wrote before start asks [] after state × IfSome before.reading.bytes (λ input. Exceeds input asks)
  Conversed before start WriteFault after state = WroteLess before start after state × Rose before.writing.faults after.writing.faults
  Conversed before start OutOfMemory after state = Wanted before start after state
