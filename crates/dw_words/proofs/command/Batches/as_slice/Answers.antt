use Rattle.std.proofs.Common.{rules}
use Rattle.dw_words.proofs.Numbers.{sizes_are_some}
use Rattle.dw_words.proofs.command.Batches.as_slice.Goals as goal

pub returns-clause-some : goal.returns-clause-some
returns-clause-some c = sizes_are_some c.args.self.now (search rules)
