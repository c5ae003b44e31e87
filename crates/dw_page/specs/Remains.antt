-- What remains of an answer.
use Rattle.std.specs.Prelude.{◌≡◌, ◌++◌, ◌-◌, ℕ, List, [], ◌∷◌, Option, Some, None, IsSome, length, drop, map}
use Rattle.std.specs.List.{flat_map}
use Rattle.dw_event.specs.declared.reports.Shown.{Shown}
use Rattle.dw_derive.specs.World.{World}
use Rattle.dw_tablet.specs.Held.{Held}
use Rattle.dw_scan.specs.declared.ask.Ask.{Ask}
use Rattle.dw_scan.specs.declared.ask.Resume.{Resume}
use Rattle.dw_scan.specs.WorldAnswers.{answer_in}
use Rattle.dw_page.specs.declared.slot.Slot.{Slot}

-- the events of the answer that a resume has yet to come to
unfoldable pub left : Ask → World → Resume → List Shown
left ask w r = answer_in ask w r.shard r.after

-- a shard from its first event on
abbrev pub at_start : List ℕ → Resume
at_start shard = record { shard = shard; after = None }

-- a list where a tablet is held, and nothing where the shard has ended
abbrev pub if_held : Option Held → List Shown → List Shown
if_held None xs = []
if_held (Some t) xs = xs

-- what a slot has yet to give: what it found, and what is left of its shard
abbrev pub slot_rest : Ask → World → Slot → List Shown
slot_rest ask w s = s.found ++ if_held s.tablet (left ask w s.resume)

-- what remains of an answer: that of each slot, then that of each shard that waits
abbrev pub remains : Ask → World → List Slot → List Resume → List Shown
remains ask w slots waiting = flat_map (slot_rest ask w) slots ++ flat_map (left ask w) waiting

-- the shards of some resumes
abbrev pub shards_of : List Resume → List (List ℕ)
shards_of waiting = map (λ r. r.shard) waiting

-- the shards of the slots, then those that wait
abbrev pub open_shards : List Slot → List Resume → List (List ℕ)
open_shards slots waiting = map (λ s. s.resume.shard) slots ++ shards_of waiting

-- those are the last of some shards
abbrev pub AreLast : List (List ℕ) → List Slot → List Resume → Type 0
AreLast all slots waiting = open_shards slots waiting ≡ drop (length all - length (open_shards slots waiting)) all

-- there is no slot, or the first one is searched on and has nothing to give
abbrev pub IsFlushed : List Slot → Type 0
IsFlushed [] = Unit {0}
IsFlushed (s ∷ slots) = IsSome s.tablet × (s.found ≡ [])

-- no shard is open, and none waits
pub record IsOver (slots : List Slot) (waiting : List Resume) : Type 0 where
  pub no_slot : slots ≡ []
  pub none_waits : waiting ≡ []
