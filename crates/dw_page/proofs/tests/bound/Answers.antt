use Rattle.std.proofs.lemmas.Result.{IfOk-weaker}
use Rattle.dw_plan.proofs.Ruled.{bound_are_ruled}
use Rattle.dw_page.proofs.tests.bound.Goals as goal

pub returns : goal.returns
returns c = IfOk-weaker c.bind.result _ _ (λ q e. bound_are_ruled c.args.dict.now c.args.query.now q e) c.bind.ensures.ok
