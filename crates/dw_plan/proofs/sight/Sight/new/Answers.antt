use Rattle.std.proofs.Common.{◌≡◌, ◌&&◌, [], true, sym, ap, subst, ◌∙◌, ℕ, List}
use Rattle.dw_vis.specs.Sight.{sees}
use Rattle.dw_vis.specs.Test.{is_vis}
use Rattle.dw_vis.specs.Verdict.{IsVis}
use Rattle.dw_plan.specs.Cells.{is_open}
use Rattle.dw_plan.proofs.sight.Sight.new.Goals as goal

pub invariant_of-result : goal.invariant_of-result
invariant_of-result c =
    let empty : is_vis [] ≡ true = (c.visibilities_are_tested.ensures []).1 (subst IsVis (c.sees.view_is ∙ c.everyone.ensures) c.sees.invariant) in
    record {
      known = c.sees-seen.ensures.value ∙ ap (λ (t : List ℕ). sees t c.args.auths.now) c.everyone.ensures
          ∙ ap (λ b. b && sees [] c.args.auths.now) (sym empty)
          ∙ ap (is_open c.args.auths.now) (sym c.new.ensures);
    }
