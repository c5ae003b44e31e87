use Rattle.std.proofs.Common.{arith}
use Rattle.std.proofs.lemmas.Grind.{common_steps}
use Rattle.dw_page.proofs.SizeLemmas.{size_some}
use Rattle.dw_page.proofs.settings.Settings.batch_at.Goals as goal

pub returns-clause-some : goal.returns-clause-some
returns-clause-some c = size_some c.args.self.now.batches c.as_slice-sizes.result.now c.min-at.result c.args.self.now.sized c.as_slice-sizes.ensures (grind (arith, common_steps))
