use Rattle.std.proofs.Common.{arith}
use Rattle.dw_journal.proofs.Moments.{now_more}
use Rattle.dw_journal.proofs.Results.{on_ok_more}
use Rattle.dw_journal.proofs.reading.fill.Goals as goal

pub returns-clause-enough : goal.returns-clause-enough
returns-clause-enough g c = on_ok_more c.read_from.result _ _ (λ told. now_more _ _ (g.D.Disk.model c.args.disk.now) (λ s all le. all c.args.need (omega arith) le) told) c.read_from.ensures.enough
