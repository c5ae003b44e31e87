use Rattle.dw_derive.proofs.Rereading.{never_meet}
use Rattle.dw_derive.proofs.reader_laws.rows_never_meet.Goals as goal

pub returns : goal.returns
returns c = never_meet
