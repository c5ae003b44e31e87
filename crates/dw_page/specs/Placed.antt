-- What a search of a slot promises, and how outputs are given to slots.
use Rattle.std.specs.Prelude.{◌≡◌, ◌++◌, ℕ, List, [], ◌∷◌, Bool, true, false, Option, Some, None, is_some, Result, Ok, Err, IfSome, IfOk, All}
use Rattle.std.specs.List.{AllByRecursion}
use Rattle.std.specs.declared.alloc.AllocError.{AllocError}
use Rattle.dw_event.specs.declared.reports.Shown.{Shown}
use Rattle.dw_derive.specs.World.{World}
use Rattle.dw_tablet.specs.Held.{Held}
use Rattle.dw_scan.specs.declared.ask.Ask.{Ask}
use Rattle.dw_scan.specs.declared.ask.Batch.{Batch}
use Rattle.dw_scan.specs.declared.ask.Resume.{Resume}
use Rattle.dw_scan.specs.Batches.{IsOfWorld}
use Rattle.dw_page.specs.declared.slot.Slot.{Slot}
use Rattle.dw_page.specs.Remains.{left, slot_rest}

-- the shard has not ended
abbrev pub is_open : Slot → Bool
is_open s = is_some s.tablet

-- an event is of a shard
abbrev pub IsOf : List ℕ → Shown → Type 0
IsOf shard x = x.shard ≡ shard

-- the tablet that a slot holds is one of the world's, and all that it has yet to give is of its shard
pub record SlotGood (ask : Ask) (w : World) (s : Slot) : Type 0 where
  pub held : IfSome s.tablet (λ t. IsOfWorld t ask w)
  pub own : AllByRecursion (IsOf s.resume.shard) (slot_rest ask w s)

abbrev pub SlotsGood : Ask → World → List Slot → Type 0
SlotsGood ask w slots = All (SlotGood ask w) slots

-- what a search of a tablet from a resume ensures, for each world that the tablet is of
pub record Scanned (ask : Ask) (t : Held) (r : Resume) (b : Batch) : Type 0 where
  pub shard : b.resume.shard ≡ r.shard
  pub rest : (w : World) → IsOfWorld t ask w → b.found ++ left ask w b.resume ≡ left ask w r
  pub over : (w : World) → IsOfWorld t ask w → b.ended ≡ true → left ask w b.resume ≡ []

-- the tablet, or none where the shard has ended
abbrev pub tablet_after : Bool → Option Held → Option Held
tablet_after true t = None
tablet_after false t = t

-- a slot took a batch
pub record Accepts (s : Slot) (b : Batch) (n : Slot) : Type 0 where
  pub found : n.found ≡ s.found ++ b.found
  pub resume : n.resume ≡ b.resume
  pub tablet : n.tablet ≡ tablet_after b.ended s.tablet
  pub missing : n.missing ≡ b.missing

-- an output is one of a search of this slot
abbrev pub IsScanOf : Ask → Slot → Result Batch AllocError → Type 0
IsScanOf ask s out = IfSome s.tablet (λ t. IfOk out (λ b. Scanned ask t s.resume b))

-- the outputs that are left after a slot
abbrev pub outs_after : Option Held → List (Result Batch AllocError) → List (Result Batch AllocError)
outs_after None outs = outs
outs_after (Some t) [] = []
outs_after (Some t) (out ∷ outs) = outs

-- an ended slot stays, and an open one takes the next batch
abbrev pub Took : Option Held → List (Result Batch AllocError) → Slot → Slot → Type 0
Took None outs s n = n ≡ s
Took (Some t) [] s n = ⊥
Took (Some t) (Ok b ∷ outs) s n = Accepts s b n
Took (Some t) (Err e ∷ outs) s n = ⊥

-- the new slots are the old ones in order, each open one with the next batch
abbrev pub Placed : List Slot → List (Result Batch AllocError) → List Slot → Type 0
Placed [] outs news = news ≡ []
Placed (s ∷ slots) outs [] = ⊥
Placed (s ∷ slots) outs (n ∷ news) = Took s.tablet outs s n × Placed slots (outs_after s.tablet outs) news
