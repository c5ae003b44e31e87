use Rattle.std.proofs.Common.{List, map, ap, sym, ◌∙◌}
use Rattle.dw_outside.specs.declared.cell.Cell.{Cell}
use Rattle.dw_outside.specs.Tables.{cell_pair}
use Rattle.dw_audit.specs.Meta.{sum_of, all_said}
use Rattle.dw_audit.proofs.SaidLemmas.{last_said}
use Rattle.dw_audit.proofs.meta.meta_in.Goals as goal

pub loop-cell-preserved : goal.loop-cell-preserved
loop-cell-preserved c =
    let front = c.in-Some.front.now in
    let m = sum_of c.loop-cell.meta in
    ap (all_said (map cell_pair front)) c.in_ok-take.ensures
    ∙ sym (last_said front c.in-Some.cell.now m)
    ∙ ap (λ (cs : List Cell). all_said (map cell_pair cs) m) (sym c.in-Some.ensures.cases.0)
    ∙ c.loop-cell.invariant
