-- The ends of a span, as slots.
use Rattle.std.specs.Prelude.{ℕ, ◌+◌, List, [], ◌∷◌, map as list_map}
use Rattle.std.specs.FinMap as map
use Rattle.std.specs.BTreeMap.Range.{entries_between}
use Rattle.std.specs.declared.ops.Bound.TheVariants.{Included, Excluded}
use Rattle.dw_outside.specs.declared.slot.Slot.{Slot}
use Rattle.dw_outside.specs.Tables.{Tables, slot_cmp}

-- the first slot past the keys of a table below `before`, where an empty `before` is no bound
abbrev pub span_end : ℕ → List ℕ → Slot
span_end table [] = record { table = table + 1; key = [] }
span_end table (b ∷ bs) = record { table = table; key = b ∷ bs }

-- the cells from a slot on and below another, ascending
abbrev pub cells_between : Slot → Slot → Tables → List (List ℕ × List ℕ)
cells_between lo hi m = list_map (λ e. (e.0.key, e.1)) (entries_between slot_cmp (Included lo) (Excluded hi) (map.entries m))
