use Rattle.std.proofs.Common.{sym, subst, arith}
use Rattle.dw_audit.specs.Found.{IsVerdict}
use Rattle.dw_audit.proofs.Judging.{next_found, next_ready, all_ready}
use Rattle.dw_audit.proofs.auditing.judge_meta.Goals as goal

pub returns-in-None : goal.returns-in-None
returns-in-None c t cells ready =
    let tell = c.codes_tell_keys.ensures in
    let o = c.in_ok-compare.field-0 in
    all_ready t c.args.wanted.now (next_ready tell t c.args.wanted.now 3 o (omega arith) ready c.in-None.is (c.in_ok-compare.ensures t cells))

pub returns-in-Some : goal.returns-in-Some
returns-in-Some c t cells ready =
    let tell = c.codes_tell_keys.ensures in
    let o = c.in_ok-compare.field-0 in
    let d = c.in-Some.difference in
    subst (IsVerdict t) (sym c.damaged.ensures) (next_found tell t c.args.wanted.now 3 o d (omega arith) ready c.in-Some.is (c.in_ok-compare.ensures t cells))
