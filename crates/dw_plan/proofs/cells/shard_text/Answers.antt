use Rattle.std.proofs.Common.{sym, ◌∙◌}
use Rattle.dw_plan.proofs.Sighted.{name_utf8}
use Rattle.dw_plan.proofs.cells.shard_text.Goals as goal

pub returns-in-Err : goal.returns-in-Err
returns-in-Err c = absurd (c.in-Err.ensures.cases.0 (name_utf8 c.args.name.now (sym c.is_shard_name.ensures ∙ c.if-not-is_shard_name.false)))
