-- What a reader sees of an event.
use Rattle.std.specs.Prelude.{◌≡◌, ◌↔◌, ℕ, List, map, filter}
use Rattle.std.proofs.Common.{ap}
use Rattle.std.specs.Ordering.{nat_cmp, on, then_cmp}
use Rattle.std.specs.Cmp.Lexicographic.{slice_cmp}
use Rattle.std.specs.List.{Contains}
use Rattle.std.specs.declared.cmp.Ordering.{Ordering}
use Rattle.std.specs.declared.cmp.Ordering.TheVariants.{Equal}
use Rattle.std.proofs.lemmas.Map.Lookups as found
use Rattle.dw_base.specs.Ascending as set
use Rattle.dw_vis.specs.Sight.{sees}
use Rattle.dw_vis.specs.Grammar.{Sees}
use Rattle.dw_event.specs.declared.cells.EventCell.{EventCell}
use Rattle.dw_event.specs.declared.views.Pair.{Pair}

-- by the bytes of the field, and then by those of the raw value
abbrev pub pair_cmp : Pair → Pair → Ordering
pair_cmp = then_cmp (on (λ p. p.field) (slice_cmp nat_cmp)) (on (λ p. p.raw) (slice_cmp nat_cmp))

-- pairs that are ordered alike are equal
pub exact_pairs : (p q : Pair) → pair_cmp p q ≡ Equal → p ≡ q
exact_pairs p q e =
    ap (λ (x : List ℕ × List ℕ). record { field = x.0; raw = x.1 })
    (found.exact_pairs (slice_cmp nat_cmp) (slice_cmp nat_cmp) found.exact_bytes found.exact_bytes (p.field, p.raw) (q.field, q.raw) e)

-- each pair is below those after it
abbrev pub IsAscending : List Pair → Type 0
IsAscending pairs = set.IsAscending pair_cmp pairs

-- the field and the raw value of a cell
abbrev pub pair_of : EventCell → Pair
pair_of cell = record { field = cell.field; raw = cell.raw }

-- the pairs of field and raw value of the cells that the names see
abbrev pub seen_pairs : List (List ℕ) → List EventCell → List Pair
seen_pairs names cells = map pair_of (filter (λ c. sees c.vis names) cells)

-- the set of the pairs of field and raw value that have a cell which the names see
abbrev pub view_of : List (List ℕ) → List EventCell → List Pair
view_of names cells = set.set_of pair_cmp (seen_pairs names cells)

-- some cell of this field and raw value is seen by the names
abbrev pub IsShown : List (List ℕ) → List EventCell → Pair → Type 0
IsShown names cells pair = (cell : EventCell) × Contains cells cell × Sees cell.vis names × (pair_of cell ≡ pair)

-- a view ascends, and has the pairs that are shown and no others
abbrev pub ViewsAreExact : Type 0
ViewsAreExact = (names : List (List ℕ)) (cells : List EventCell) →
    IsAscending (view_of names cells) × ((pair : Pair) → Contains (view_of names cells) pair ↔ IsShown names cells pair)
