use Rattle.dw_desk.proofs.Granting.{put_back_same}
use Rattle.dw_desk.proofs.grants.store_grant.Goals as goal

pub returns-in-Err-clause-kept : goal.returns-in-Err-clause-kept
returns-in-Err-clause-kept g c =
    put_back_same c.args.grants.now c.put_names.new.grants c.put_back.new.grants c.args.caller.now _ c.in_ok-before.before
    c.in_ok-before.ensures.put c.in_ok-before.ensures.before c.put_back.ensures
