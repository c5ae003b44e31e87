use Rattle.dw_vis.proofs.Order.{with_members}
use Rattle.dw_vis.proofs.auths.Auths.add.Goals as goal

pub returns-clause-members : goal.returns-clause-members
returns-clause-members c other =
    rw (c.in_ok-put.ensures.ok, c.self.view_is, c.in_ok-name.ensures) (with_members c.args.name.now c.args.self.now other)
