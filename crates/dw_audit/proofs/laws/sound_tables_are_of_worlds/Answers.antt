use Rattle.dw_audit.proofs.WholeAgain.{sound_tables}
use Rattle.dw_audit.proofs.laws.sound_tables_are_of_worlds.Goals as goal

pub returns : goal.returns
returns c = sound_tables c.meta_is_read.ensures
