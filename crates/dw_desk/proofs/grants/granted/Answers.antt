use Rattle.std.proofs.Common.{sym, ◌∙◌}
use Rattle.dw_desk.proofs.Granting.{get_granted}
use Rattle.dw_desk.proofs.grants.granted.Goals as goal

pub returns : goal.returns
returns c = c.get.ensures.value ∙ sym (get_granted c.args.grants.now c.args.caller.now)
