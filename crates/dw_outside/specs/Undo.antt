-- How puts are taken back.
use Rattle.std.specs.Prelude.{ℕ, List, [], ◌∷◌, IsSome, Option, Some, None}
use Rattle.std.specs.FinMap as map
use Rattle.dw_outside.specs.Tables.{Tables}
use Rattle.dw_outside.specs.declared.slot.Slot.{Slot}
use Rattle.dw_outside.specs.declared.store.Before.{Before}

-- a slot given back what it had before
abbrev pub restored : Tables → Slot → Option (List ℕ) → Tables
restored m slot None = map.remove m slot
restored m slot (Some content) = map.insert m slot content

-- each slot given back what it had, the newest put first
abbrev pub undone : List Before → Tables → Tables
undone [] m = m
undone (b ∷ bs) m = undone bs (restored m b.slot b.content)

-- each can be given back without a new entry, so without memory
abbrev pub CanUndo : List Before → Tables → Type 0
CanUndo [] m = Unit {0}
CanUndo (b ∷ bs) m = (IsSome b.content → IsSome (map.get m b.slot)) × CanUndo bs (restored m b.slot b.content)
