use Rattle.std.proofs.Common.{◌+◌, ◌-◌, ◌^◌, length, ap, arith}
use Rattle.std.specs.Prelude.{min}
use Rattle.dw_event.specs.Records.{cells_canon}
use Rattle.dw_ingest.proofs.Items.{drop_past}
use Rattle.dw_audit.proofs.rules.cells_size.Goals as goal

pub returns : goal.returns
returns c =
    let none = drop_past c.args.cells.now c.loop-cell.cell-index c.loop-cell-test.false in
    let e = ap (λ xs. min (c.loop-cell.size + length (cells_canon xs)) (2 ^ 64 - 1)) none in
    let all = c.loop-cell.invariant.total in
    omega (arith, e, all)
