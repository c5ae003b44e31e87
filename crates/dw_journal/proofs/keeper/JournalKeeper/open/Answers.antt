use Rattle.dw_journal.proofs.Moments.{now_more}
use Rattle.dw_journal.proofs.Opening.{opened_four}
use Rattle.dw_journal.proofs.Unlike.{holds_not_bad}
use Rattle.dw_journal.proofs.keeper.JournalKeeper.open.Goals as goal

pub returns-in-Ok-clause-good : goal.returns-in-Ok-clause-good
returns-in-Ok-clause-good g c = now_more _ _ (g.D.Disk.model c.args.disk) (λ s opened at bad. holds_not_bad opened.batches s.seen at opened.reads bad) c.in-Ok.ensures.opened

pub invariant_of-result : goal.invariant_of-result
invariant_of-result g c = (c.in-Ok.ensures.placed, opened_four (g.D.Disk.model c.args.disk) (g.D.Disk.model c.open_disk.new.disk) c.in-Ok.store c.in-Ok.gate c.in-Ok.ensures.opened c.open_disk.ensures.moments)
