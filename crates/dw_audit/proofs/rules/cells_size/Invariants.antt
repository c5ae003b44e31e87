use Rattle.std.proofs.Common.{◌≡◌, ◌+◌, ◌-◌, ◌^◌, ◌<◌, drop, length}
use Rattle.std.specs.Prelude.{min}
use Rattle.dw_event.specs.Records.{cells_canon}
use Rattle.dw_audit.proofs.rules.cells_size.Given as goal

abbrev pub invariant-loop-cell : goal.invariant-loop-cell
invariant-loop-cell l = record {
  total : min (l.size + length (cells_canon (drop l.cell-index l.cells))) (2 ^ 64 - 1) ≡ min (length (cells_canon l.cells)) (2 ^ 64 - 1);
  fits : l.size < 2 ^ 64;
}
