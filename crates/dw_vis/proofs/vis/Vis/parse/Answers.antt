use Rattle.dw_vis.proofs.Testing.{tested}
use Rattle.dw_vis.proofs.Verdicts.{parsed_kept, parsed_broken}
use Rattle.dw_vis.proofs.vis.Vis.parse.Goals as goal

pub returns-clause-broken : goal.returns-clause-broken
returns-clause-broken c = λ e b. parsed_broken c.args.text.now c.read.result e c.read.ensures b

pub returns-clause-kept : goal.returns-clause-kept
returns-clause-kept c = λ k. parsed_kept c.args.text.now c.read.result c.read.ensures k

pub returns-clause-tested : goal.returns-clause-tested
returns-clause-tested c = tested c.args.text.now c.read.result c.read.ensures
