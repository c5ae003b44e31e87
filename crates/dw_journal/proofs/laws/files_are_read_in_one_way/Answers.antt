use Rattle.dw_journal.proofs.Unlike.{one_reading}
use Rattle.dw_journal.proofs.laws.files_are_read_in_one_way.Goals as goal

pub returns : goal.returns
returns c = one_reading
