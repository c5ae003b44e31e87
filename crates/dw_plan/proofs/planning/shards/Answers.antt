use Rattle.std.proofs.Common.{◌∙◌}
use Rattle.dw_plan.proofs.Hitting.{found_hits}
use Rattle.dw_plan.proofs.planning.shards.Goals as goal

pub returns-clause-hits : goal.returns-clause-hits
returns-clause-hits g c t is =
    c.from_vec.ensures ∙ c.into_vec.ensures.same
    ∙ found_hits t c.args.auths.now c.args.types.now c.args.query.now c.args.days.now c.in_ok-found.found c.requires c.into_vec.ensures.ascending (c.in_ok-found.ensures.hits t is)
