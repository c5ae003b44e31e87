use Rattle.dw_jexl.proofs.Verdict.{answers_only, answers_refuses}
use Rattle.dw_jexl.proofs.Again.{answers_again}
use Rattle.dw_jexl.proofs.Made.{answers_made}
use Rattle.dw_jexl.proofs.parsing.parse.Goals as goal

pub returns-clause-only : goal.returns-clause-only
returns-clause-only c = λ q s. answers_only c.args.text.now c.read.result q c.read.ensures s

pub returns-clause-refuses : goal.returns-clause-refuses
returns-clause-refuses c = λ r b. answers_refuses c.args.text.now c.read.result r c.read.ensures b

pub returns-clause-again : goal.returns-clause-again
returns-clause-again c = answers_again c.args.text.now c.read.result c.read.ensures

pub returns-clause-well_made : goal.returns-clause-well_made
returns-clause-well_made c = answers_made c.args.text.now c.read.result c.read.ensures
