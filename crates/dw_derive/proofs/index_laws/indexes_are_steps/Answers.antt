use Rattle.dw_derive.proofs.IndexLemmas.{index_steps}
use Rattle.dw_derive.proofs.index_laws.indexes_are_steps.Goals as goal

pub returns : goal.returns
returns c = index_steps c.codes_tell_keys.ensures
