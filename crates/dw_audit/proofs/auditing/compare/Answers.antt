use Rattle.std.proofs.Common.{◌≡◌, [], List, map, ap, subst, sym, ◌∙◌}
use Rattle.std.proofs.lemmas.Result.{IfOk-weaker}
use Rattle.dw_outside.specs.declared.cell.Cell.{Cell}
use Rattle.dw_outside.specs.Tables.{cell_pair, span_of}
use Rattle.dw_audit.specs.Comparing.{first_difference}
use Rattle.dw_audit.proofs.Differing.{Verdict, walked}
use Rattle.dw_audit.proofs.TableSpans.{span_sorted, compared}
use Rattle.dw_audit.proofs.auditing.compare.Goals as goal

pub returns : goal.returns
returns c t is =
    let k = c.args.table in
    let lists = c.args.lists in
    let u = c.args.wanted.now in
    let es = span_of k [] [] t in
    let fs = span_of k [] [] u in
    let others : map cell_pair c.as_slice.result.now ≡ fs = ap (λ (xs : List Cell). map cell_pair xs) c.as_slice.ensures.value ∙ c.in_ok-others.ensures.cells in
    IfOk-weaker c.first_difference.result _ _
    (λ o h. compared k lists t u o (subst (Verdict lists es fs) (sym (h ∙ (λ i. first_difference lists (is i) (others i)))) (walked lists es fs (span_sorted k t) (span_sorted k u))))
    c.first_difference.ensures
