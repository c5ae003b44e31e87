use Rattle.std.proofs.Common.{◌∙◌}
use Rattle.dw_groups.proofs.InOrder.{batch_step}
use Rattle.dw_groups.proofs.batches.read_records.Goals as goal

pub loop-value-preserved : goal.loop-value-preserved
loop-value-preserved c =
    rw c.in_ok-put.ensures.ok
    (c.loop-value.invariant
    ∙ batch_step c.loop-value.records c.in_ok-rec.rec c.args.items.now c.loop-value.value-index c.value-item.result c.loop-value-test.true c.value-item.is c.in_ok-rec.ensures)
