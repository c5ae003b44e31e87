use Rattle.std.proofs.Common.{◌≡◌, ◌∙◌, sym}
use Rattle.dw_iter.proofs.SetTops.{left_in, left_met, left_none}
use Rattle.dw_iter.proofs.set.SetLeafDocIter.top.Goals as goal

pub returns-in-Some-clause-known : goal.returns-in-Some-clause-known
returns-in-Some-clause-known c = left_in c.args.self.now.bound c.args.self.now.keys c.in-Some.key (sym c.in-Some.ensures)

pub returns-in-Some-clause-met : goal.returns-in-Some-clause-met
returns-in-Some-clause-met c = left_met c.args.self.now.bound c.args.self.now.keys c.in-Some.key (sym c.in-Some.ensures)

pub returns-in-None-clause-end : goal.returns-in-None-clause-end
returns-in-None-clause-end c = λ _ all s. left_none c.args.self.now.bound c.args.self.now.keys all (sym c.in-None.ensures) s.0
