use Rattle.std.proofs.Common.{◌∙◌}
use Rattle.csv.specs.Records.{fields_of}
use Rattle.dw_groups.proofs.InOrder.{rows_step}
use Rattle.dw_groups.proofs.tables.read_rows.Goals as goal

pub loop-row-preserved : goal.loop-row-preserved
loop-row-preserved c =
    rw c.in_ok-put.ensures.ok
    (c.loop-row.invariant
    ∙ rows_step (fields_of c.args.header.now) c.loop-row.records c.in_ok-rec.rec c.args.rows.now c.loop-row.row-index c.row-item.result c.loop-row-test.true c.row-item.is c.in_ok-rec.ensures)
