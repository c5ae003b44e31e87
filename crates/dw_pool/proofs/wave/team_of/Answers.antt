use Rattle.std.proofs.Common.{[], ◌∷◌, arith, length-append}
use Rattle.dw_pool.proofs.Waves.{all_works_push}
use Rattle.dw_pool.proofs.wave.team_of.Goals as goal

pub loop-pass-preserved : goal.loop-pass-preserved
loop-pass-preserved g c =
    let w = c.in_ok-worker_of.field-0 in
    let before = c.loop-pass.invariant in (
      tt,
      tt,
      omega (arith, c.in_ok-push.ensures.len, c.push.new.self.ok.0, c.loop-pass.team.ok.0, length-append c.loop-pass.yielded (c.in-Some.pass ∷ []), before.2),
      rw c.in_ok-push.ensures.items (all_works_push g.J.Job.gives c.args.jobs.now c.args.claims.now c.loop-pass.team.items w before.3 c.in_ok-worker_of.ensures),
    )
