use Rattle.dw_derive.proofs.Growing.{one_more}
use Rattle.dw_derive.proofs.table_laws.tables_of_one_more.Goals as goal

pub returns : goal.returns
returns c = one_more c.codes_tell_keys.ensures
