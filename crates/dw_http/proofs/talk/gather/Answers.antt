use Rattle.std.proofs.Common.{◌∙◌}
use Rattle.dw_http.proofs.Soon.{none_by, goes_then}
use Rattle.dw_http.proofs.talk.gather.Goals as goal

pub loop-intake-preserved : goal.loop-intake-preserved
loop-intake-preserved g c = record {
  goes = goes_then (g.L.Link.meaning c.args.link.now) c.args.intake.now c.loop-intake.intake (g.L.Link.meaning c.loop-intake.link) c.fill.new.self (g.L.Link.meaning c.fill.new.link) (none_by c.stop.result c.loop-intake.intake.stop c.is_none.result c.stop.ensures c.is_none.ensures c.loop-intake-test.true) c.loop-intake.invariant.goes c.in_ok-fill.ensures.ok;
  writing = c.in_ok-fill.ensures.writing ∙ c.loop-intake.invariant.writing;
}
