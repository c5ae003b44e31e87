-- The cells of an event, a set kept as a list that ascends.
use Rattle.std.specs.Prelude.{◌≡◌, ℕ, nat_eq, Bool, List}
use Rattle.std.proofs.Common.{ap}
use Rattle.std.specs.Ordering.{nat_cmp, on, then_cmp, eq_of_both}
use Rattle.std.specs.Cmp.Lexicographic.{pointwise, slice_cmp}
use Rattle.std.specs.declared.cmp.Ordering.{Ordering}
use Rattle.std.specs.declared.cmp.Ordering.TheVariants.{Equal}
use Rattle.std.proofs.lemmas.Map.Lookups as found
use Rattle.dw_base.specs.Ascending as set
use Rattle.dw_event.specs.declared.cells.EventCell.{EventCell}

-- by the bytes of the field, then by those of the raw value, and then by those of the visibility's text
abbrev pub cell_cmp : EventCell → EventCell → Ordering
cell_cmp = then_cmp (on (λ c. c.field) (slice_cmp nat_cmp)) (then_cmp (on (λ c. c.raw) (slice_cmp nat_cmp)) (on (λ c. c.vis) (slice_cmp nat_cmp)))

-- each cell is below those after it
abbrev pub IsAscending : List EventCell → Type 0
IsAscending cells = set.IsAscending cell_cmp cells

-- the cells with one more at its place, unless an equal one is there
abbrev pub with_cell : List EventCell → EventCell → List EventCell
with_cell cells cell = set.with_item cell_cmp cells cell

-- the fields are equal, and so are the raw values and the visibilities
abbrev pub cell_eq : EventCell → EventCell → Bool
cell_eq = eq_of_both (on (λ c. c.field) (pointwise nat_eq)) (eq_of_both (on (λ c. c.raw) (pointwise nat_eq)) (on (λ c. c.vis) (pointwise nat_eq)))

-- two sets have the same cells, one for one
abbrev pub cells_eq : List EventCell → List EventCell → Bool
cells_eq = pointwise cell_eq

-- cells that are ordered alike are equal
pub exact_cells : (c d : EventCell) → cell_cmp c d ≡ Equal → c ≡ d
exact_cells c d e =
    ap (λ (p : List ℕ × (List ℕ × List ℕ)). record { field = p.0; raw = p.1.0; vis = p.1.1 })
    (found.exact_pairs (slice_cmp nat_cmp) _ found.exact_bytes (found.exact_pairs (slice_cmp nat_cmp) (slice_cmp nat_cmp) found.exact_bytes found.exact_bytes)
    (c.field, (c.raw, c.vis)) (d.field, (d.raw, d.vis)) e)
