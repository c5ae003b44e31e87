use Rattle.std.proofs.Common.{Ok, Err, ap, sym}
use Rattle.dw_wire.proofs.QueryLaws.{one_answer}
use Rattle.dw_wire.proofs.reading.queries.read_query.Goals as goal

pub returns-in-Ok : goal.returns-in-Ok
returns-in-Ok c = sym (one_answer c.args.text.now (Ok c.in-Ok.query) c.in-Ok.ensures.spelt)

pub returns-in-Err-Rule : goal.returns-in-Err-Rule
returns-in-Err-Rule c = sym (one_answer c.args.text.now (Err c.in-Err-Rule.rule) (c.in-Err-Rule.ensures.refused c.in-Err-Rule.rule (ap Err c.in-Err-Rule.field-0-is)))
