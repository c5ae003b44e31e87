use Rattle.std.proofs.Common.{◌≡◌, List, [], map, take, ap, sym, ◌∙◌, true}
use Rattle.dw_outside.specs.declared.cell.Cell.{Cell}
use Rattle.dw_outside.specs.Tables.{cell_pair, span_of}
use Rattle.dw_audit.specs.Comparing.{first_difference}
use Rattle.dw_audit.proofs.ReadingRuns.{run_some, run_says, run_fewer}
use Rattle.dw_audit.proofs.runs.compare_run.Goals as goal

pub returns-in-Some-clause-run : goal.returns-in-Some-clause-run
returns-in-Some-clause-run g c t told =
    let pairs = λ (xs : List Cell). map cell_pair xs in
    let es = span_of c.args.table c.args.from.now [] t in
    let fs = span_of c.args.table c.args.from.now [] c.args.wanted.now in
    let found : pairs c.as_slice.result.now ≡ take 1024 es = ap pairs c.as_slice.ensures.value ∙ c.in_ok-found.ensures.cells t told in
    let others : pairs c.as_slice-2.result.now ≡ take 1024 fs = ap pairs c.as_slice-2.ensures.value ∙ c.in_ok-others.ensures.cells in
    run_some true 1024 es fs c.in-Some.difference (sym (λ i. first_difference true (found i) (others i)) ∙ sym c.in_ok-difference.ensures ∙ c.in-Some.is)

pub returns-clause-run : goal.returns-clause-run
returns-clause-run g c t told =
    let pairs = λ (xs : List Cell). map cell_pair xs in
    let es = span_of c.args.table c.args.from.now [] t in
    let fs = span_of c.args.table c.args.from.now [] c.args.wanted.now in
    let found : pairs c.as_slice.result.now ≡ take 1024 es = ap pairs c.as_slice.ensures.value ∙ c.in_ok-found.ensures.cells t told in
    let others : pairs c.as_slice-2.result.now ≡ take 1024 fs = ap pairs c.as_slice-2.ensures.value ∙ c.in_ok-others.ensures.cells in
    run_says c.args.table c.args.from.now c.args.wanted.now c.as_slice-in-None.result.now (ap pairs c.as_slice-in-None.ensures.value ∙ c.in_ok-others.ensures.cells) t c.in_ok-next-in-None.next
    (sym (λ i. first_difference true (found i) (others i)) ∙ sym c.in_ok-difference.ensures ∙ c.in-None.is) c.in_ok-next-in-None.ensures

pub returns-clause-less : goal.returns-clause-less
returns-clause-less g c =
    let pairs = λ (xs : List Cell). map cell_pair xs in
    run_fewer c.args.table c.args.from.now c.args.wanted.now c.as_slice-in-None.result.now (ap pairs c.as_slice-in-None.ensures.value ∙ c.in_ok-others.ensures.cells) c.in_ok-next-in-None.next c.in_ok-next-in-None.ensures
