use Rattle.std.proofs.Common.{sym, ◌∙◌}
use Rattle.dw_nest.specs.Shapes.{shape}
use Rattle.dw_scan.specs.Stops.{SomeLacks}
use Rattle.dw_scan.proofs.Batches.{lacks_still, place_still, enough, scanned}
use Rattle.dw_scan.proofs.searching.search.Goals as goal

pub returns-clause-scanned : goal.returns-clause-scanned
returns-clause-scanned g c = λ content all shard.
    let before = SomeLacks g.I.DocIter.made g.I.Gaps.lacks (shape c.args.tree.now) in
    let now = SomeLacks g.I.DocIter.made g.I.Gaps.lacks (shape c.walk_on.new.tree) in
    let walked = c.in_ok-walk.ensures in
    scanned before c.args.ask.now c.args.tablet.now content all c.args.resume.now.after c.args.want _ c.args.steps.now c.walk_on.new.steps c.args.budget c.requires.budget c.requires.want
    (walked.searched content all shard) (walked.counted content all shard) c.in_ok-walk.walk.stop (walked.stopped content all shard) walked.cause
    (place_still before now c.args.tablet.now (lacks_still g.I.DocIter.made g.I.Gaps.lacks (shape c.args.tree.now) (shape c.walk_on.new.tree) walked.made) c.in_ok-walk.walk.stop c.in_ok-missing.missing c.in_ok-missing.ensures)
    c.is_end-ended.ensures

pub returns-clause-full : goal.returns-clause-full
returns-clause-full g c = λ going none.
    enough (SomeLacks g.I.DocIter.made g.I.Gaps.lacks (shape c.walk_on.new.tree)) c.args.tablet.now c.args.steps.now c.walk_on.new.steps c.args.budget _ c.args.want c.in_ok-walk.walk.stop c.in_ok-missing.missing
    c.in_ok-walk.ensures.cause c.in_ok-missing.ensures (sym c.is_end-ended.ensures ∙ going) none
