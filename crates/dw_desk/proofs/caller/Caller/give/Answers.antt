use Rattle.std.proofs.Common.{◌+◌, refl, arith}
use Rattle.dw_desk.proofs.Entries.{account_is}
use Rattle.dw_desk.proofs.caller.Caller.give.Goals as goal

pub returns-clause-given : goal.returns-clause-given
returns-clause-given c = (
  λ e. absurd (omega (arith, e, c.if-self-ge-LAST_NUMBER.false)),
  refl,
  account_is (c.args.self.now.given + 1) _ _ c.in_ok-insert.ensures.updates.0,
)
