use Rattle.std.proofs.Common.{sym, subst}
use Rattle.dw_vis.specs.Verdict.{IsVis}
use Rattle.dw_vis.proofs.Verdicts.{empty_kept}
use Rattle.dw_vis.proofs.vis.Vis.everyone.Goals as goal

pub invariant_of-result : goal.invariant_of-result
invariant_of-result c = subst IsVis (sym c.new.ensures.items) empty_kept
