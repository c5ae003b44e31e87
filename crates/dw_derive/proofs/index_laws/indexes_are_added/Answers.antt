use Rattle.dw_derive.proofs.IndexLemmas.{indexes_added}
use Rattle.dw_derive.proofs.index_laws.indexes_are_added.Goals as goal

pub returns : goal.returns
returns c = indexes_added c.codes_tell_keys.ensures
