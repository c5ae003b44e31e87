use Rattle.std.proofs.Common.{◌≡◌, ◌≢◌, ◌≤◌, All, IsTrue, map, vec_len}
use Rattle.std.specs.Ordering.{nat_cmp}
use Rattle.std.specs.Cmp.Lexicographic.{slice_cmp}
use Rattle.std.specs.List.Sorted.{IsStrictlySortedBy}
use Rattle.dw_outside.specs.declared.cell.Cell.{Cell}
use Rattle.dw_outside.specs.Tables.{is_in_span}
use Rattle.dw_sqlite.proofs.within.checked_cells.Given as goal

abbrev pub invariant-loop-row : goal.invariant-loop-row
invariant-loop-row l = record {
  ascending : IsStrictlySortedBy (slice_cmp nat_cmp) (map (λ (c : Cell). c.key) l.cells.items);
  bounds : All (λ (c : Cell). IsTrue (is_in_span l.from l.before c.key)) l.cells.items;
  few : l.limit ≢ 0 → vec_len l.cells ≤ l.limit;
}
