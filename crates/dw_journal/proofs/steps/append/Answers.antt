use Rattle.std.proofs.Common.{inl, inr}
use Rattle.dw_journal.proofs.Results.{on_err_more}
use Rattle.dw_journal.proofs.Gates.{since_settling, since_adding}
use Rattle.dw_journal.proofs.steps.append.Goals as goal

pub returns-in_err-settle-clause-moments : goal.returns-in_err-settle-clause-moments
returns-in_err-settle-clause-moments g c frames doubt body same stands = since_settling frames doubt body _ _ (c.settle.ensures.moments frames doubt stands)

pub returns-clause-added : goal.returns-clause-added
returns-clause-added g c frames doubt body same stands = c.add.ensures.added frames body same (c.in_ok-settle.ensures.settled frames doubt stands)

pub returns-clause-refused : goal.returns-clause-refused
returns-clause-refused g c frames doubt body same stands =
    on_err_more c.add.result _ _ (λ either. inr either) (c.add.ensures.refused frames body same (c.in_ok-settle.ensures.settled frames doubt stands))

pub returns-clause-moments : goal.returns-clause-moments
returns-clause-moments g c frames doubt body same stands =
    since_adding frames doubt body _ _ _ (c.settle.ensures.moments frames doubt stands) (c.add.ensures.moments frames body same (c.in_ok-settle.ensures.settled frames doubt stands))
