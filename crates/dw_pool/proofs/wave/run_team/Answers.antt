use Rattle.std.proofs.Common.{◌≡◌, length, sym, subst, ◌∙◌}
use Rattle.std.specs.List.{All}
use Rattle.std.proofs.lemmas.List.{with_items_is}
use Rattle.dw_pool.specs.Waves.{HasWorked}
use Rattle.dw_pool.proofs.wave.run_team.Goals as goal

pub in_order-requires-clause-worked : goal.in_order-requires-clause-worked
in_order-requires-clause-worked g c κs within =
    let long : length c.work_side_by_side.new.team ≡ c.args.team.len = c.work_side_by_side.auto.team ∙ c.as_mut_slice.ensures.len in
    subst (λ ws. All (HasWorked g.J.Job.gives c.args.jobs.now c.args.claims) ws) (sym (with_items_is c.args.team c.work_side_by_side.new.team long)) c.work_side_by_side.ensures
