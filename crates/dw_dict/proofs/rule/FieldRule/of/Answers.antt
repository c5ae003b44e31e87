use Rattle.dw_dict.specs.Rules.{rule_found}
use Rattle.dw_dict.proofs.rule.FieldRule.of.Goals as goal

pub returns : goal.returns
returns c = rule_found c.args.kind c.args.indexed c.args.reversed _
