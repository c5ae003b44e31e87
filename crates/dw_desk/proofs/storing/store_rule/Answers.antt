use Rattle.std.proofs.Common.{◌∙◌}
use Rattle.dw_desk.proofs.storing.store_rule.Goals as goal

pub returns-then-last-eq0-clause-ok : goal.returns-then-last-eq0-clause-ok
returns-then-last-eq0-clause-ok g c = λ w world dict last told. c.store_first_rule.ensures.ok w world (last ∙ c.if-last-eq0.true) told
