use Rattle.dw_journal.proofs.Unlike.{one_bad_place}
use Rattle.dw_journal.proofs.laws.bad_gates_are_one.Goals as goal

pub returns : goal.returns
returns c = one_bad_place
