-- What parts of a run leave of the desk, the tables and the output.
use Rattle.std.specs.Prelude.{◌≡◌, ◌≤◌, ℕ, Option, Some, None, List, [], ◌∷◌, ◌++◌, length, option_map, Result}
use Rattle.std.specs.Io.KnownBytes.{append_known, prepend_known}
use Rattle.csv.specs.Records.{Row, fields_of}
use Rattle.dw_event.specs.declared.records.Record.{Record}
use Rattle.dw_event.specs.declared.reports.BadRecord.{BadRecord}
use Rattle.dw_outside.specs.Tables.{Tables}
use Rattle.dw_derive.specs.World.{World}
use Rattle.dw_groups.specs.Batches.{rows_records}
use Rattle.dw_desk.specs.State.{start}
use Rattle.dw_desk.specs.Stands.{Stands, state_of}
use Rattle.dw_desk.specs.Session.{Digest, Asked, Answers}
use Rattle.dw_desk.specs.declared.desk.Desk.{Desk}
use Rattle.datawave.specs.Faults.{RoseBy}
use Rattle.datawave.specs.Outside.{Outside}
use Rattle.datawave.specs.Asking.{Gathered}
use Rattle.datawave.specs.Session.{Reading, AllAnswered, SomeAnswered}

-- a request was answered by this text, from a world that the desk stood for; the desk and the tables stand for a world again
pub record RequestAnswered (digest : Digest) (w : World) (d : Desk) (before : ℕ) (request : Asked) (text : List ℕ) (now : Desk) (told : Option Tables) (after : ℕ) : Type 0 where
  pub next : World
  pub faults : ℕ
  pub stands : Stands told now next
  pub answers : Answers digest (state_of w d) request text (state_of next now) faults
  pub rose : RoseBy faults before after

-- and its text was put
pub record RequestPut (digest : Digest) (w : World) (d : Desk) (before : Outside) (request : Asked) (now : Desk) (after : Outside) : Type 0 where
  pub text : List ℕ
  pub answered : RequestAnswered digest w d before.faults request text now after.told after.faults
  pub output : after.out ≡ append_known before.out text

-- or a part of its text
pub record RequestLacks (digest : Digest) (w : World) (d : Desk) (before : Outside) (request : Asked) (now : Desk) (after : Outside) : Type 0 where
  pub part : List ℕ
  pub missing : List ℕ
  pub answered : RequestAnswered digest w d before.faults request (part ++ missing) now after.told after.faults
  pub output : after.out ≡ append_known before.out part

-- requests were answered from the first state of a world on, and their texts were put; the desk and the tables stand for the world
-- that they leave
pub record RequestsPut (digest : Digest) (w : World) (before : Outside) (rs : List Asked) (now : Desk) (after : Outside) : Type 0 where
  pub written : List ℕ
  pub faults : ℕ
  pub last : World
  pub stands : Stands after.told now last
  pub answered : AllAnswered digest (start w) rs written (state_of last now) faults
  pub rose : RoseBy faults before.faults after.faults
  pub output : after.out ≡ append_known before.out written

-- some of the requests were answered, and what was put lacks at most an end of the last text; the desk and the tables stand for the
-- world that those leave
pub record RequestsLack (digest : Digest) (w : World) (before : Outside) (rs : List Asked) (now : Desk) (after : Outside) : Type 0 where
  pub written : List ℕ
  pub faults : ℕ
  pub last : World
  pub stands : Stands after.told now last
  pub answered : SomeAnswered digest (start w) rs written (state_of last now) faults
  pub rose : RoseBy faults before.faults after.faults
  pub output : after.out ≡ append_known before.out written

-- a part of a text was put
pub record PartPut (out : Option (List ℕ)) (text : List ℕ) (after : Option (List ℕ)) : Type 0 where
  pub part : List ℕ
  pub missing : List ℕ
  pub whole : text ≡ part ++ missing
  pub output : after ≡ append_known out part

-- a desk was loaded that stands for the first state of a world; nothing was put, and the keeper may have had faults
pub record Begun (w : World) (before : Outside) (now : Desk) (after : Outside) : Type 0 where
  pub stands : Stands after.told now w
  pub first : state_of w now ≡ start w
  pub counted : before.faults ≤ after.faults
  pub output : before.out ≡ after.out

-- between two pieces of the input: what was taken so far, of which what is whole was answered, and the rest is held
pub record Progress (digest : Digest) (reading : Reading) (Held : List ℕ → Type 0) (w : World) (left_before left : Option (List ℕ)) (before : Outside) (now : Desk) (after : Outside) (total : ℕ) : Type 0 where
  pub taken : List ℕ
  pub input : left_before ≡ prepend_known taken left
  pub count : length taken ≡ total
  pub puts : RequestsPut digest w before (reading.whole taken) now after
  pub held : Held taken

-- the first of a list
abbrev pub first : {A : Type 0} → List A → Option A
first [] = None
first (x ∷ xs) = Some x

-- between two rows of a table: the first is its header, and the others were gathered
pub record Tabled (rows : List (List (List ℕ))) (header : Option Row) (group : List (Result Record BadRecord)) : Type 0 where
  pub named : option_map fields_of header ≡ first rows
  pub records : Gathered (rows_records rows) group
