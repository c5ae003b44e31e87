use Rattle.dw_lucene.proofs.Made.{spells_made}
use Rattle.dw_lucene.proofs.laws.queries_of_texts_are_well_made.Goals as goal

pub returns : goal.returns
returns c = spells_made c.fields_fold.ensures
