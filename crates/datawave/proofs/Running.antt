-- On a run as a whole: how it begins, goes on with each piece, and ends.
use Rattle.std.proofs.Common.{◌≡◌, ◌≤◌, ◌+◌, ◌++◌, [], ℕ, List, Option, Some, length, take, sym, ap, ◌∙◌, subst, inl, inr, length-append, arith, refl}
use Rattle.std.proofs.Math.Seq.{take-append_seam}
use Rattle.std.proofs.lemmas.Grind.{common_steps}
use Rattle.std.specs.Io.KnownBytes.{prepend_known, IsAtEnd}
use Rattle.datawave.specs.declared.status.Status.{Status}
use Rattle.datawave.specs.declared.status.Status.TheVariants.{Done, ReadFault, OutOfMemory, TooMuch}
use Rattle.datawave.specs.declared.exchange.Broken.{Broken}
use Rattle.datawave.specs.declared.exchange.Broken.TheVariants as broken
use Rattle.datawave.specs.Statuses.{status_at_start, status_of}
use Rattle.datawave.specs.declared.command.Form.TheVariants.{Json, Csv}
use Rattle.datawave.specs.declared.command.Command.{Command}
use Rattle.datawave.specs.declared.command.Command.TheVariants.{Exec, Ingest}
use Rattle.datawave.specs.Readings.{reading_of}
use Rattle.dw_outside.specs.declared.keeper_error.KeeperError.{KeeperError}
use Rattle.dw_outside.specs.declared.keeper_error.KeeperError.TheVariants as keeper
use Rattle.dw_derive.specs.World.{World}
use Rattle.dw_derive.specs.Tables.{tables}
use Rattle.dw_derive.specs.Lawful.{IsWorld}
use Rattle.dw_desk.specs.State.{State, start}
use Rattle.dw_desk.specs.Stands.{state_of}
use Rattle.dw_desk.specs.Session.{Digest, Asked}
use Rattle.dw_desk.specs.declared.desk.Desk.{Desk}
use Rattle.datawave.specs.Outside.{Outside}
use Rattle.datawave.specs.Session.{Reading, AllAnswered, SomeAnswered, BrokeOff, Exchanged, Runs}
use Rattle.datawave.specs.Exchange.{Begun, RequestsPut, RequestsLack, Progress}
use Rattle.datawave.proofs.Rising.{rose_none}
use Rattle.datawave.proofs.Sessions.{put_none, prepend_then, prepend_nothing, some_all, answered_none, known_nothing}

-- a run begins with nothing taken and nothing written
pub progress_start : (digest : Digest) (reading : Reading) (Held : List ℕ → Type 0) (w : World) (left : Option (List ℕ)) (before after : Outside) (d : Desk) → Begun w before d after → reading.whole [] ≡ [] → Held []
    → Progress digest reading Held w left left before d after 0
progress_start digest reading Held w left before after d begun begins held = record {
  taken = [];
  input = prepend_nothing left;
  count = refl;
  puts = subst (λ (rs : List Asked). RequestsPut digest w before rs d after) (sym begins) (put_none digest w before after d begun);
  held = held;
}

-- a piece of which what is whole was answered
pub progress_piece : (digest : Digest) (reading : Reading) (Held Held' : List ℕ → Type 0) (w : World) (first left rest : Option (List ℕ)) (before between after : Outside) (d now : Desk) (total n : ℕ) (piece : List ℕ)
    → (p : Progress digest reading Held w first left before d between total) → left ≡ prepend_known piece rest → length piece ≡ n
    → Held' (p.taken ++ piece) × RequestsPut digest w before (reading.whole (p.taken ++ piece)) now after
    → Progress digest reading Held' w first rest before now after (total + n)
progress_piece digest reading Held Held' w first left rest before between after d now total n piece p took long puts = record {
  taken = p.taken ++ piece;
  input = p.input ∙ ap (prepend_known p.taken) took ∙ prepend_then rest p.taken piece;
  count = length-append p.taken piece ∙ ap (λ k. k + length piece) p.count ∙ ap (λ k. total + k) long;
  puts = puts.1;
  held = puts.0;
}

-- nothing more was taken
pub progress_same : (digest : Digest) (reading : Reading) (Held : List ℕ → Type 0) (w : World) (first left rest : Option (List ℕ)) (before after : Outside) (d : Desk) (total : ℕ)
    → Progress digest reading Held w first left before d after total → left ≡ prepend_known [] rest → Progress digest reading Held w first rest before d after total
progress_same digest reading Held w first left rest before after d total p e =
    subst (λ (l : Option (List ℕ)). Progress digest reading Held w first l before d after total) (e ∙ sym (prepend_nothing rest)) p

-- a run that ends where requests were answered
ends_put : (digest : Digest) (reading : Reading) (status : Status) (w : World) (first left : Option (List ℕ)) (before after : Outside) (d : Desk) (rs : List Asked) (taken : List ℕ) (puts : RequestsPut digest w before rs d after)
    → first ≡ prepend_known taken left → Exchanged digest reading status (start w) left taken puts.written (state_of puts.last d) puts.faults → Runs digest reading status w first left before after
ends_put digest reading status w first left before after d rs taken puts took exchanged = record {
  taken = taken;
  written = puts.written;
  last = state_of puts.last d;
  faults = puts.faults;
  input = took;
  output = puts.output;
  tables = puts.stands.holds.tables;
  lawful = puts.stands.holds.lawful;
  rose = puts.rose;
  exchanged = exchanged;
}

-- or where the answers broke off
ends_lack : (digest : Digest) (reading : Reading) (status : Status) (w : World) (first left : Option (List ℕ)) (before after : Outside) (d : Desk) (rs : List Asked) (taken : List ℕ) (lack : RequestsLack digest w before rs d after)
    → first ≡ prepend_known taken left → Exchanged digest reading status (start w) left taken lack.written (state_of lack.last d) lack.faults → Runs digest reading status w first left before after
ends_lack digest reading status w first left before after d rs taken lack took exchanged = record {
  taken = taken;
  written = lack.written;
  last = state_of lack.last d;
  faults = lack.faults;
  input = took;
  output = lack.output;
  tables = lack.stands.holds.tables;
  lawful = lack.stands.holds.lawful;
  rose = lack.rose;
  exchanged = exchanged;
}

-- the input failed between two pieces
pub ends_read_fault : (digest : Digest) (reading : Reading) (Held : List ℕ → Type 0) (w : World) (first left rest : Option (List ℕ)) (before after : Outside) (d : Desk) (total : ℕ)
    → Progress digest reading Held w first left before d after total → left ≡ prepend_known [] rest → total ≤ reading.most
    → Runs digest reading ReadFault w first rest before after
ends_read_fault digest reading Held w first left rest before after d total p e most =
    let q = progress_same digest reading Held w first left rest before after d total p e in
    ends_put digest reading ReadFault w first rest before after d (reading.whole q.taken) q.taken q.puts q.input (subst (λ (k : ℕ). k ≤ reading.most) (sym q.count) most, q.puts.answered)

-- what was left at the end of the input was answered
pub ends_done : (digest : Digest) (reading : Reading) (Held : List ℕ → Type 0) (w : World) (first left : Option (List ℕ)) (before between after : Outside) (d now : Desk) (total : ℕ)
    → (p : Progress digest reading Held w first left before d between total) → IsAtEnd left → total ≤ reading.most
    → RequestsPut digest w before (reading.all p.taken) now after → Runs digest reading Done w first left before after
ends_done digest reading Held w first left before between after d now total p end most puts =
    ends_put digest reading Done w first left before after now (reading.all p.taken) p.taken puts p.input (end, subst (λ (k : ℕ). k ≤ reading.most) (sym p.count) most, puts.answered)

exchanged_broken : (digest : Digest) (reading : Reading) (b : Broken) (s : State) (left : Option (List ℕ)) (taken written : List ℕ) (last : State) (faults : ℕ) → length taken ≤ reading.most
    → BrokeOff digest reading s left taken written last faults → Exchanged digest reading (status_of b) s left taken written last faults
exchanged_broken digest reading broken.WriteFault s left taken written last faults most off = (most, off)
exchanged_broken digest reading broken.OutOfMemory s left taken written last faults most off = (most, off)

-- the answers to what was left at the end broke off
pub ends_last_broken : (digest : Digest) (reading : Reading) (Held : List ℕ → Type 0) (b : Broken) (w : World) (first left : Option (List ℕ)) (before between after : Outside) (d now : Desk) (total : ℕ)
    → (p : Progress digest reading Held w first left before d between total) → IsAtEnd left → total ≤ reading.most
    → RequestsLack digest w before (reading.all p.taken) now after → Runs digest reading (status_of b) w first left before after
ends_last_broken digest reading Held b w first left before between after d now total p end most lack =
    ends_lack digest reading (status_of b) w first left before after now (reading.all p.taken) p.taken lack p.input
    (exchanged_broken digest reading b (start w) left p.taken lack.written (state_of lack.last now) lack.faults (subst (λ (k : ℕ). k ≤ reading.most) (sym p.count) most) (inr (end, lack.answered)))

-- the answers to a piece broke off
pub ends_piece_broken : (digest : Digest) (reading : Reading) (Held : List ℕ → Type 0) (b : Broken) (w : World) (first left rest : Option (List ℕ)) (before between after : Outside) (d now : Desk) (total n : ℕ) (piece : List ℕ)
    → (p : Progress digest reading Held w first left before d between total) → left ≡ prepend_known piece rest → length piece ≡ n → total + n ≤ reading.most
    → RequestsLack digest w before (reading.whole (p.taken ++ piece)) now after → Runs digest reading (status_of b) w first rest before after
ends_piece_broken digest reading Held b w first left rest before between after d now total n piece p took long most lack =
    let taken : List ℕ = p.taken ++ piece in
    let count : length taken ≡ total + n = length-append p.taken piece ∙ ap (λ k. k + length piece) p.count ∙ ap (λ k. total + k) long in
    ends_lack digest reading (status_of b) w first rest before after now (reading.whole taken) taken lack (p.input ∙ ap (prepend_known p.taken) took ∙ prepend_then rest p.taken piece)
    (exchanged_broken digest reading b (start w) rest taken lack.written (state_of lack.last now) lack.faults (subst (λ (k : ℕ). k ≤ reading.most) (sym count) most) (inl lack.answered))

-- one byte more than a run takes
pub ends_too_much : (digest : Digest) (reading : Reading) (Held : List ℕ → Type 0) (w : World) (first left rest : Option (List ℕ)) (before after : Outside) (d : Desk) (total n : ℕ) (piece : List ℕ)
    → (p : Progress digest reading Held w first left before d after total) → left ≡ prepend_known piece rest → length piece ≡ n → total ≡ reading.most → n ≡ 1
    → Runs digest reading TooMuch w first rest before after
ends_too_much digest reading Held w first left rest before after d total n piece p took long at one =
    let all : length p.taken ≡ reading.most = p.count ∙ at in
    let front : p.taken ≡ take reading.most (p.taken ++ piece) = sym (take-append_seam p.taken piece) ∙ ap (λ k. take k (p.taken ++ piece)) all in
    ends_put digest reading TooMuch w first rest before after d (reading.whole p.taken) (p.taken ++ piece) p.puts (p.input ∙ ap (prepend_known p.taken) took ∙ prepend_then rest p.taken piece) (
      length-append p.taken piece ∙ ap (λ k. k + length piece) all ∙ ap (λ k. reading.most + k) (long ∙ one),
      subst (λ (bytes : List ℕ). AllAnswered digest (start w) (reading.whole bytes) p.puts.written (state_of p.puts.last d) p.puts.faults) front p.puts.answered,
    )

pub whole_piece : (n : ℕ) (xs : List ℕ) → n ≤ length xs → length (take n xs) ≡ n
whole_piece n xs h = grind (arith, common_steps)

-- ---- a run that ends before anything is taken

untaken : (digest : Digest) (reading : Reading) (e : KeeperError) (s : State) (left : Option (List ℕ)) → reading.whole [] ≡ [] → Exchanged digest reading (status_at_start e) s left [] [] s 0
untaken digest reading keeper.Failed s left begins = (refl, refl, refl, refl)
untaken digest reading keeper.OutOfMemory s left begins = (
  omega arith,
  inl (subst (λ (rs : List Asked). SomeAnswered digest s rs [] s 0) (sym begins) (some_all digest s s [] [] 0 (answered_none digest s))),
)

-- the tables are as they were, and nothing was written
pub ends_at_start : (digest : Digest) (reading : Reading) (e : KeeperError) (w : World) (left : Option (List ℕ)) (before after : Outside) → IsWorld w → after.told ≡ Some (tables w) → before.faults ≤ after.faults → before.out ≡ after.out
    → reading.whole [] ≡ [] → Runs digest reading (status_at_start e) w left left before after
ends_at_start digest reading e w left before after lawful told counted same begins = record {
  taken = [];
  written = [];
  last = start w;
  faults = 0;
  input = prepend_nothing left;
  output = sym same ∙ known_nothing before.out;
  tables = told;
  lawful = lawful;
  rose = rose_none before.faults after.faults counted;
  exchanged = untaken digest reading e (start w) left begins;
}

-- no memory was left to begin with what was read of the input
pub ends_begun : (digest : Digest) (reading : Reading) (w : World) (left : Option (List ℕ)) (before after : Outside) (d : Desk) → Begun w before d after → reading.whole [] ≡ [] → Runs digest reading OutOfMemory w left left before after
ends_begun digest reading w left before after d begun begins =
    ends_at_start digest reading keeper.OutOfMemory w left before after begun.stands.holds.lawful begun.stands.holds.tables begun.counted begun.output begins

whole_none : (c : Command) → (reading_of c).whole [] ≡ []
whole_none Exec = refl
whole_none (Ingest Json) = refl
whole_none (Ingest Csv) = refl

-- the same of each command
pub command_at_start : (digest : Digest) (c : Command) (e : KeeperError) (w : World) (left : Option (List ℕ)) (before after : Outside) → IsWorld w → after.told ≡ Some (tables w) → before.faults ≤ after.faults → before.out ≡ after.out
    → Runs digest (reading_of c) (status_at_start e) w left left before after
command_at_start digest c e w left before after lawful told counted same = ends_at_start digest (reading_of c) e w left before after lawful told counted same (whole_none c)
