use Rattle.std.proofs.Common.{◌≡◌, ◌&&◌, ap, ◌∙◌}
use Rattle.dw_norm.specs.Reversal.{rev}
use Rattle.dw_plan.specs.Hit.{is_in_days}
use Rattle.dw_plan.proofs.Backward.{ends_alike}
use Rattle.dw_plan.proofs.hits.backward_shards.Goals as goal

pub returns-clause-hits : goal.returns-clause-hits
returns-clause-hits g c t is = λ s.
    let front : c.as_str-2.result.now ≡ rev c.args.text.now = c.as_str-2.ensures.value ∙ c.in_ok-front.ensures ∙ ap rev c.as_str.ensures.same in
    c.in_ok-shards.ensures.hits t is s
    ∙ ap (λ b. is_in_days c.args.scope.now.days.now s && b)
    (ends_alike c.reversal_takes_back.ensures c.ends_are_fronts_reversed.ensures c.args.scope.now.auths.now c.args.scope.now.types.now s c.args.field.now c.args.text.now c.as_str.ensures.utf8 t c.as_str-2.result.now front)
