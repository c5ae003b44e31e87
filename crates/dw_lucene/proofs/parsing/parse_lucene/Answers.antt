use Rattle.dw_lucene.proofs.Verdict.{answers_only, answers_refuses}
use Rattle.dw_lucene.proofs.Made.{answers_made, answers_again}
use Rattle.dw_lucene.proofs.parsing.parse_lucene.Goals as goal

pub returns-clause-only : goal.returns-clause-only
returns-clause-only c = λ q s. answers_only c.args.text.now c.read.result q c.read.ensures s

pub returns-clause-well_made : goal.returns-clause-well_made
returns-clause-well_made c = answers_made c.fields_fold.ensures c.args.text.now c.read.result c.read.ensures

pub returns-clause-again : goal.returns-clause-again
returns-clause-again c = answers_again c.fields_fold.ensures c.well_made_queries_are_read.ensures c.args.text.now c.read.result c.read.ensures

pub returns-clause-refuses : goal.returns-clause-refuses
returns-clause-refuses c = λ r b. answers_refuses c.args.text.now c.read.result r c.read.ensures b
