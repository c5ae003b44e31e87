use Rattle.std.proofs.Common.{[], ◌∷◌, ◌++◌}
use Rattle.dw_http.proofs.Soon.{so_far_start}
use Rattle.dw_http.proofs.talk.converse.Goals as goal

pub loop-ended-init : goal.loop-ended-init
loop-ended-init g c = ([], so_far_start g.H.Service.answers g.H.Service.stays (g.L.Link.meaning c.args.link.now) c.args.service.now c.new-intake.result c.new-intake.ensures.bytes c.new-intake.ensures.budget c.new-intake.ensures.stop)

pub loop-ended-smaller : goal.loop-ended-smaller
loop-ended-smaller g c =
    let so_far = c.loop-ended.invariant in
    (c.in-None.ensures (g.L.Link.meaning c.args.link.now) c.args.service.now so_far.0 so_far.1).2

pub loop-ended-preserved : goal.loop-ended-preserved
loop-ended-preserved g c =
    let so_far = c.loop-ended.invariant in
    let next = c.in-None.ensures (g.L.Link.meaning c.args.link.now) c.args.service.now so_far.0 so_far.1 in
    (so_far.0 ++ next.0 ∷ [], next.1)
