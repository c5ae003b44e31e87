use Rattle.std.proofs.Common.{ap, length, arith}
use Rattle.std.proofs.lemmas.List.{length-map}
use Rattle.dw_pool.proofs.Passes.{room_before_claim, left_falls}
use Rattle.dw_pool.proofs.wave.work_through.Goals as goal

pub push_reserved-requires : goal.push_reserved-requires
push_reserved-requires g c =
    let w = c.loop-number.worker in
    let before = room_before_claim w.pass c.claim.new.pass c.in-Some.number c.args.claims.now.jobs c.in-Some.ensures.some.3 c.claim.ensures.climbs in
    omega (arith, ap length c.loop-number.invariant.numbers, length-map w.pairs.items (λ p. p.0), c.loop-number.invariant.room, c.requires.jobs, w.pairs.ok.0)

pub loop-number-smaller : goal.loop-number-smaller
loop-number-smaller g c =
    left_falls c.loop-number.worker.pass c.claim.new.pass c.in-Some.number c.args.claims.now.jobs _ c.in-Some.ensures.some.3 c.claim.ensures.climbs c.requires.jobs
