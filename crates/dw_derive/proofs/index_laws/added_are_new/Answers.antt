use Rattle.dw_derive.proofs.IndexLemmas.{added_are_new}
use Rattle.dw_derive.proofs.index_laws.added_are_new.Goals as goal

pub returns : goal.returns
returns c = added_are_new c.codes_tell_keys.ensures
