use Rattle.std.proofs.Common.{sym, subst, arith}
use Rattle.dw_audit.specs.Found.{IsVerdict}
use Rattle.dw_audit.proofs.Judging.{next_found, next_ready, lists_compared}
use Rattle.dw_audit.proofs.auditing.judge_index.Goals as goal

pub returns-in-None-clause-judged : goal.returns-in-None-clause-judged
returns-in-None-clause-judged g c t told ready =
    let tell = c.codes_tell_keys.ensures in
    let u = c.args.wanted.now in
    let k = c.args.table in
    let o = c.in_ok-compare_lists.field-0 in
    next_ready tell t u k o (omega (arith, c.requires.below)) ready c.in-None.is (lists_compared t u k o c.requires.above c.requires.below (c.in_ok-compare_lists.ensures.compared t told))

pub returns-in-Some-clause-judged : goal.returns-in-Some-clause-judged
returns-in-Some-clause-judged g c t told ready =
    let tell = c.codes_tell_keys.ensures in
    let u = c.args.wanted.now in
    let k = c.args.table in
    let o = c.in_ok-compare_lists.field-0 in
    let d = c.in-Some.difference in
    subst (IsVerdict t) (sym c.damaged.ensures) (next_found tell t u k o d (omega (arith, c.requires.below)) ready c.in-Some.is (lists_compared t u k o c.requires.above c.requires.below (c.in_ok-compare_lists.ensures.compared t told)))
