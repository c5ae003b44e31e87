use Rattle.std.proofs.Common.{◌≡◌, List, [], map, ap, sym, subst, ◌∙◌}
use Rattle.dw_outside.specs.declared.cell.Cell.{Cell}
use Rattle.dw_outside.specs.Tables.{cell_pair, span_of}
use Rattle.dw_audit.specs.Found.{IsVerdict}
use Rattle.dw_audit.proofs.Judging.{first_found, first_ready}
use Rattle.dw_audit.proofs.auditing.judge.Goals as goal

pub returns-in-None-clause-verdict : goal.returns-in-None-clause-verdict
returns-in-None-clause-verdict g c t told =
    let pairs = λ (xs : List Cell). map cell_pair xs in
    let cells : pairs c.in_ok-meta.meta.items ≡ span_of 3 [] [] t = c.in_ok-meta.ensures.cells t told in
    let shard : pairs c.in_ok-shard.shard.items ≡ span_of 0 [] [] t = c.in_ok-shard.ensures.cells t (c.in_ok-meta.ensures.same ∙ told) in
    let wanted = c.in_ok-wanted.ensures t (ap pairs c.as_slice.ensures.value ∙ shard) (ap pairs c.as_slice-2.ensures.value ∙ cells) in
    c.judge_indexes.ensures.verdict t (c.in_ok-shard.ensures.same ∙ c.in_ok-meta.ensures.same ∙ told) (ap pairs c.as_slice-in-None.ensures.value ∙ cells)
    (first_ready c.codes_tell_keys.ensures t c.in_ok-wanted.wanted c.in_ok-difference.difference (c.in_ok-meta.ensures.four t told) wanted c.in-None.is
    (c.in_ok-difference.ensures t (ap pairs c.as_slice-3.ensures.value ∙ shard)))

pub returns-clause-verdict : goal.returns-clause-verdict
returns-clause-verdict g c t told =
    let pairs = λ (xs : List Cell). map cell_pair xs in
    let cells : pairs c.in_ok-meta.meta.items ≡ span_of 3 [] [] t = c.in_ok-meta.ensures.cells t told in
    let shard : pairs c.in_ok-shard.shard.items ≡ span_of 0 [] [] t = c.in_ok-shard.ensures.cells t (c.in_ok-meta.ensures.same ∙ told) in
    let wanted = c.in_ok-wanted.ensures t (ap pairs c.as_slice.ensures.value ∙ shard) (ap pairs c.as_slice-2.ensures.value ∙ cells) in
    subst (IsVerdict t) (sym c.damaged.ensures)
    (first_found c.codes_tell_keys.ensures t c.in_ok-wanted.wanted c.in_ok-difference.difference c.in-Some.difference wanted c.in-Some.is (c.in_ok-difference.ensures t (ap pairs c.as_slice-3.ensures.value ∙ shard)))
