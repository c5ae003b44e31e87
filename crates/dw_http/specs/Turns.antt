-- A conversation up to some message.
use Rattle.std.specs.Prelude.{◌≡◌, ◌<◌, ◌≤◌, ◌⊎◌, ℕ, ◌+◌, List, [], ◌∷◌, ◌++◌, length, take, Option, Some, None}
use Rattle.std.specs.Io.KnownBytes.{append_known, prepend_known}
use Rattle.dw_outside.specs.Faults.{Rose}
use Rattle.dw_outside.specs.Links.{Meaning}
use Rattle.dw_http.specs.Held.{Held, StoppedBy, Gathered}
use Rattle.dw_http.specs.Messages.{Ask, Begins}
use Rattle.dw_http.specs.Talks.{Wrote, Conversed, most_bytes}
use Rattle.dw_http.specs.Texts.{last_reply}
use Rattle.dw_http.specs.declared.why.HttpWhy.{HttpWhy}
use Rattle.dw_http.specs.declared.talk.Ended.{Ended}
use Rattle.dw_http.specs.declared.talk.Ended.TheVariants.{BadHttp, WriteFault, OutOfMemory, Done, ReadFault, TooMuch}

-- nothing more was taken, or some more was
abbrev pub Goes : Meaning → Held → Held → Meaning → Type 0
Goes before old new after = ((new ≡ old) × (after ≡ before)) ⊎ ((old.stop ≡ None) × Gathered before old new after)

-- the last reply was written, or a part of it, or there was no memory for it
abbrev pub Refuses : Meaning → HttpWhy → Ended → Meaning → Type 0
Refuses before why (BadHttp w) after = (w ≡ why) × (after.writing.bytes ≡ append_known before.writing.bytes (last_reply why))
Refuses before why WriteFault after =
    Rose before.writing.faults after.writing.faults × ((n : ℕ) × (after.writing.bytes ≡ append_known before.writing.bytes (take n (last_reply why))))
Refuses before why OutOfMemory after = after ≡ before
Refuses before why Done after = ⊥
Refuses before why ReadFault after = ⊥
Refuses before why TooMuch after = ⊥

module _ {H : Type 0} (answers : H → Ask → List ℕ → H → Type 0) (stays : H → H → Type 0) where
  -- the asks so far were answered, and what was taken after them is held
  pub record SoFar (before : Meaning) (start : H) (asks : List Ask) (held : Held) (now : Meaning) (state : H) : Type 0 where
    pub taken : List ℕ
    pub lost : List ℕ
    pub begins : Begins taken asks held.bytes
    pub count : length taken + held.budget ≡ most_bytes
    pub reading : before.reading.bytes ≡ prepend_known (taken ++ lost) now.reading.bytes
    pub stopped : StoppedBy held.stop held.budget lost before now
    pub read_counted : before.reading.faults ≤ now.reading.faults
    pub write_counted : before.writing.faults ≤ now.writing.faults
    pub wrote : Wrote answers stays before start asks [] now state

  -- after one more message, or at the end
  abbrev pub Turns : Meaning → Held → H → Option Ended → Held → Meaning → H → Type 0
  Turns now held state None held' now' state' =
      (before : Meaning) (start : H) (asks : List Ask) → SoFar before start asks held now state
      → (ask : Ask) × SoFar before start (asks ++ ask ∷ []) held' now' state' × (length held'.bytes + held'.budget < length held.bytes + held.budget)
  Turns now held state (Some ended) held' now' state' =
      (before : Meaning) (start : H) (asks : List Ask) → SoFar before start asks held now state → Conversed answers stays before start ended now' state'

  -- the same where the conversation ends
  abbrev pub Ends : Meaning → Held → H → Ended → Meaning → H → Type 0
  Ends now held state ended now' state' =
      (before : Meaning) (start : H) (asks : List Ask) → SoFar before start asks held now state → Conversed answers stays before start ended now' state'
