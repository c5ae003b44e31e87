use Rattle.dw_lucene.proofs.Verdict.{spells_one}
use Rattle.dw_lucene.proofs.laws.texts_tell_queries.Goals as goal

pub returns : goal.returns
returns c = spells_one
