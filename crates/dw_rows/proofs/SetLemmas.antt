-- Sets of cells, and to give them up when they have too many.
use Rattle.std.proofs.Common.{◌≡◌, ◌≤◌, Bool, true, false, List, [], ◌∷◌, ◌++◌, length, nat_le, refl, sym, ap, ◌∙◌, arith, Option, Some, option_and_then}
use Rattle.std.specs.Cmp.{IsTotalOrder}
use Rattle.std.specs.Cmp.Rules.{comparing}
use Rattle.std.proofs.Common.{rules}
use Rattle.std.specs.Ordering.{match_ordering}
use Rattle.std.specs.declared.cmp.Ordering.{Ordering}
use Rattle.std.specs.declared.cmp.Ordering.TheVariants.{Less, Equal, Greater}
use Rattle.std.proofs.lemmas.Bool.{leb-false, lt-leb}
use Rattle.dw_base.specs.Ascending.{with_items, set_of}
use Rattle.dw_base.proofs.Search.{ascending_none}
use Rattle.dw_base.proofs.Members.{set_of_members, ascending_with_items}
use Rattle.dw_event.specs.Cells.{cell_cmp, with_cell, exact_cells, IsAscending}
use Rattle.dw_event.specs.declared.cells.EventCell.{EventCell}
use Rattle.dw_rows.specs.Values.{guarded}
use Rattle.dw_rows.specs.Sets.{few, with_few, with_all_few}

pub cells_total : IsTotalOrder cell_cmp
cells_total = search (comparing, rules)

-- the set of cells ascends
pub set_ascends : (cells : List EventCell) → IsAscending (set_of cell_cmp cells)
set_ascends cells = ascending_with_items cells_total exact_cells [] cells (ascending_none cell_cmp)

-- a list that ascends is the set of its cells
pub set_of_set : (cells : List EventCell) → IsAscending cells → cells ≡ set_of cell_cmp cells
set_of_set cells up = set_of_members cells_total exact_cells cells cells (ascending_none cell_cmp) up (λ x. ((λ h. h), λ h. h))

items_append : (set xs ys : List EventCell) → with_items cell_cmp set (xs ++ ys) ≡ with_items cell_cmp (with_items cell_cmp set xs) ys
items_append set [] ys = refl
items_append set (x ∷ xs) ys = items_append (with_cell set x) xs ys

at_ordering : (o : Ordering) (c d : EventCell) (ds more : List EventCell) → length ds ≤ length more
    → length (d ∷ ds) ≤ length (match_ordering o (c ∷ d ∷ ds) (d ∷ ds) (d ∷ more))
at_ordering Less c d ds more h = omega arith
at_ordering Equal c d ds more h = omega arith
at_ordering Greater c d ds more h = omega arith

pub put_grows : (cells : List EventCell) (c : EventCell) → length cells ≤ length (with_cell cells c)
put_grows [] c = omega arith
put_grows (d ∷ ds) c = at_ordering (cell_cmp c d) c d ds (with_cell ds c) (put_grows ds c)

with_few_at : (b : Bool) (set : List EventCell) (c : EventCell) → nat_le (length set) 4096 ≡ b
    → option_and_then (λ s. few (with_cell s c)) (guarded b (Some set)) ≡ few (with_cell set c)
with_few_at true set c e = refl
with_few_at false set c e = rw (lt-leb (length (with_cell set c)) 4096 (omega (arith, leb-false (length set) 4096 e, put_grows set c))) refl

-- a set that was given up for its size would have too many cells with one more too
pub few_with : (set : List EventCell) (c : EventCell) → with_few (few set) c ≡ few (with_cell set c)
few_with set c = with_few_at (nat_le (length set) 4096) set c refl

-- one cell more at the end of the list
pub pushed : (cells : List EventCell) (c : EventCell) → with_few (few (set_of cell_cmp cells)) c ≡ few (set_of cell_cmp (cells ++ c ∷ []))
pushed cells c = few_with (set_of cell_cmp cells) c ∙ ap few (sym (items_append [] cells (c ∷ [])))

-- to give a set up on the way is to do so at the end
pub all_few : (set cs : List EventCell) → with_all_few (few set) cs ≡ few (with_items cell_cmp set cs)
all_few set [] = refl
all_few set (c ∷ cs) = ap (λ o. with_all_few o cs) (few_with set c) ∙ all_few (with_cell set c) cs

pub all_few_append : (o : Option (List EventCell)) (xs ys : List EventCell) → with_all_few o (xs ++ ys) ≡ with_all_few (with_all_few o xs) ys
all_few_append o [] ys = refl
all_few_append o (x ∷ xs) ys = all_few_append (with_few o x) xs ys
