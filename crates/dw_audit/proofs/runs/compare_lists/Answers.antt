use Rattle.std.proofs.Common.{List, ℕ, ap, sym, ◌∙◌}
use Rattle.dw_audit.specs.Runs.{difference_from}
use Rattle.dw_audit.proofs.ReadingRuns.{run_is, whole_compared}
use Rattle.dw_audit.proofs.runs.compare_lists.Goals as goal

pub returns-in-None-clause-compared : goal.returns-in-None-clause-compared
returns-in-None-clause-compared g c t told =
    let k = c.args.table in
    let u = c.args.wanted.now in
    let o = c.in_ok-difference.difference in
    whole_compared k t u o
    (sym (c.runs.invariant.from t told)
    ∙ ap (λ (from : List ℕ). difference_from k from t u) (sym c.as_slice.ensures)
    ∙ run_is k c.as_slice.result.now t u o c.in_ok-difference.next c.in-None.is (c.in_ok-difference.ensures.run t (c.runs.invariant.same ∙ told)))
