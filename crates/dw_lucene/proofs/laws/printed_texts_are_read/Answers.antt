use Rattle.dw_lucene.proofs.Again.{printed_read}
use Rattle.dw_lucene.proofs.laws.printed_texts_are_read.Goals as goal

pub returns : goal.returns
returns c = printed_read c.queries_of_texts_are_well_made.ensures
