use Rattle.dw_desk.proofs.Entries.{account_is}
use Rattle.dw_desk.proofs.caller.Caller.close.Goals as goal

pub returns-clause-closed : goal.returns-clause-closed
returns-clause-closed c = account_is c.args.self.now.given _ _ c.remove.ensures.updates.0
