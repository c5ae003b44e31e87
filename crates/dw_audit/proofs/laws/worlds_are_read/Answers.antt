use Rattle.dw_audit.proofs.WholeAgain.{worlds_read}
use Rattle.dw_audit.proofs.laws.worlds_are_read.Goals as goal

pub returns : goal.returns
returns c = worlds_read c.meta_is_read.ensures
