-- A run: the requests that the input is read as, one after another, and what was written.
use Rattle.std.specs.Prelude.{◌≡◌, ◌≤◌, ◌⊎◌, ◌+◌, ℕ, Option, Some, List, [], ◌∷◌, ◌++◌, length, take}
use Rattle.std.specs.List.{concat}
use Rattle.std.specs.Io.KnownBytes.{append_known, prepend_known, IsAtEnd}
use Rattle.datawave.specs.declared.status.Status.{Status}
use Rattle.datawave.specs.declared.status.Status.TheVariants.{Done, BadWords, ReadFault, WriteFault, StoreFault, OutOfMemory, TooMuch}
use Rattle.dw_derive.specs.World.{World}
use Rattle.dw_derive.specs.Tables.{tables}
use Rattle.dw_derive.specs.Lawful.{IsWorld}
use Rattle.dw_desk.specs.State.{State, start}
use Rattle.dw_desk.specs.Session.{Digest, Asked, Session}
use Rattle.datawave.specs.Faults.{RoseBy}
use Rattle.datawave.specs.Outside.{Outside}

-- the requests were answered, in order, and the bytes are the joined texts of the answers
pub record AllAnswered (digest : Digest) (s : State) (rs : List Asked) (written : List ℕ) (last : State) (faults : ℕ) : Type 0 where
  pub texts : List (List ℕ)
  pub session : Session digest s rs texts last faults
  pub joined : written ≡ concat texts

-- the same, but the bytes lack an end of the last text, or all of it
pub record LastLacks (digest : Digest) (s : State) (rs : List Asked) (written : List ℕ) (last : State) (faults : ℕ) : Type 0 where
  pub texts : List (List ℕ)
  pub part : List ℕ
  pub missing : List ℕ
  pub session : Session digest s rs (texts ++ (part ++ missing) ∷ []) last faults
  pub joined : written ≡ concat texts ++ part

-- the requests were answered, and at most an end of the last text is lacking
abbrev pub FrontAnswered : Digest → State → List Asked → List ℕ → State → ℕ → Type 0
FrontAnswered digest s rs written last faults = AllAnswered digest s rs written last faults ⊎ LastLacks digest s rs written last faults

-- a front of the requests was answered so, and none of those after it
pub record SomeAnswered (digest : Digest) (s : State) (rs : List Asked) (written : List ℕ) (last : State) (faults : ℕ) : Type 0 where
  pub front : List Asked
  pub rest : List Asked
  pub split : rs ≡ front ++ rest
  pub answered : FrontAnswered digest s front written last faults

-- what the bytes of an input ask for
pub record Reading : Type 0 where
  -- by what is whole in them, whatever follows
  pub whole : List ℕ → List Asked
  -- all that they ask for, where the input ends
  pub all : List ℕ → List Asked
  -- the most bytes that are taken
  pub most : ℕ

-- a run that broke off answered what is whole alone, unless the input had come to its end
abbrev pub BrokeOff : Digest → Reading → State → Option (List ℕ) → List ℕ → List ℕ → State → ℕ → Type 0
BrokeOff digest reading s left taken written last faults =
    SomeAnswered digest s (reading.whole taken) written last faults ⊎ (IsAtEnd left × SomeAnswered digest s (reading.all taken) written last faults)

-- nothing was taken, nothing was written, and the state is as it was
abbrev pub Untouched : State → List ℕ → List ℕ → State → ℕ → Type 0
Untouched s taken written last faults = (taken ≡ []) × (written ≡ []) × (last ≡ s) × (faults ≡ 0)

-- at each end of a run from a state: what is left of the input, what was taken of it, what was written to the output, the state that
-- the requests answered leave, and how many of their texts tell of a fault of the store
abbrev pub Exchanged : Digest → Reading → Status → State → Option (List ℕ) → List ℕ → List ℕ → State → ℕ → Type 0
Exchanged digest reading Done s left taken written last faults =
    IsAtEnd left × (length taken ≤ reading.most) × AllAnswered digest s (reading.all taken) written last faults
Exchanged digest reading BadWords s left taken written last faults = ⊥
Exchanged digest reading ReadFault s left taken written last faults =
    (length taken ≤ reading.most) × AllAnswered digest s (reading.whole taken) written last faults
Exchanged digest reading WriteFault s left taken written last faults =
    (length taken ≤ reading.most) × BrokeOff digest reading s left taken written last faults
Exchanged digest reading StoreFault s left taken written last faults = Untouched s taken written last faults
Exchanged digest reading OutOfMemory s left taken written last faults =
    (length taken ≤ reading.most) × BrokeOff digest reading s left taken written last faults
Exchanged digest reading TooMuch s left taken written last faults =
    (length taken ≡ reading.most + 1) × AllAnswered digest s (reading.whole (take reading.most taken)) written last faults

-- a run from the tables of a world: what was taken stood at the front of the input, and what was written stands at the end of the
-- output, where input and output tell their bytes; at the end the tables are those of the world that the requests answered leave, and
-- the keeper had the faults that their texts tell of
pub record Runs (digest : Digest) (reading : Reading) (status : Status) (w : World) (left_before left_after : Option (List ℕ)) (before after : Outside) : Type 0 where
  pub taken : List ℕ
  pub written : List ℕ
  pub last : State
  pub faults : ℕ
  pub input : left_before ≡ prepend_known taken left_after
  pub output : after.out ≡ append_known before.out written
  pub tables : after.told ≡ Some (tables last.world)
  pub lawful : IsWorld last.world
  pub rose : RoseBy faults before.faults after.faults
  pub exchanged : Exchanged digest reading status (start w) left_after taken written last faults
