use Rattle.dw_journal.proofs.Unlike.{holds_not_bad}
use Rattle.dw_journal.proofs.laws.batches_are_never_bad.Goals as goal

pub returns : goal.returns
returns c = holds_not_bad
