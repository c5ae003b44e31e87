use Rattle.std.proofs.Common.{sym, arith}
use Rattle.dw_http.proofs.Counted.{passed_line}
use Rattle.dw_http.proofs.lines.past_lines.Goals as goal

pub loop-line-preserved : goal.loop-line-preserved
loop-line-preserved c = passed_line c.args.count c.loop-line._line c.args.bytes.now c.loop-line.rest.now c.in_ok-rest.rest.now (omega (arith, c.loop-line-test.true)) c.loop-line.invariant (sym c.in_ok-rest.ensures)
