use Rattle.std.proofs.Common.{sym, ◌∙◌}
use Rattle.dw_audit.proofs.Differing.{heads_differ}
use Rattle.dw_audit.proofs.comparing.first_difference.Goals as goal

pub returns-in-Some-2 : goal.returns-in-Some-2
returns-in-Some-2 c =
    sym (sym c.loop-cell.invariant
    ∙ heads_differ c.args.lists c.loop-cell.left.now c.loop-cell.right.now c.in-Some.cells.now c.in-Some-split_first.others.now c.in-Some.cell.now c.in-Some-split_first.other.now c.in-Some-2.difference
    c.in-Some.ensures.cases.0 c.in-Some-split_first.ensures.cases.0 (sym c.in_ok-difference.ensures ∙ c.in-Some-2.is))
