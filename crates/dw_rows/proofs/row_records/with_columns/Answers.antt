use Rattle.std.proofs.Common.{ap, sym, ◌∙◌, map, drop, []}
use Rattle.dw_rows.specs.Gathering.{with_entries}
use Rattle.dw_rows.proofs.ColumnSteps.{columns_step_at, columns_short}
use Rattle.dw_rows.proofs.row_records.with_columns.Goals as goal

pub loop-i-preserved : goal.loop-i-preserved
loop-i-preserved c =
    c.loop-i.invariant
    ∙ columns_step_at c.args.vis.now c.loop-i.gathered c.in_ok-gathered.gathered c.args.header.now c.args.row.now c.loop-i.i (record { ref_ptr = (0, 0); now = [] }) c.loop-i-test.true c.if-i-row.false c.in_ok-gathered.ensures

pub returns-then-i-row : goal.returns-then-i-row
returns-then-i-row c =
    sym (c.loop-i.invariant ∙ ap (with_entries c.loop-i.gathered) (columns_short c.args.vis.now (map (λ n. n.now) (drop c.loop-i.i c.args.header.now)) c.args.row.now c.loop-i.i c.if-i-row.true))
