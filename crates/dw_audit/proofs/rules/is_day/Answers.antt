use Rattle.std.proofs.Common.{ap, ◌∙◌}
use Rattle.std.specs.Option.{is_some}
use Rattle.dw_base.specs.Days.{day_digits}
use Rattle.dw_audit.proofs.ShardNames.{no_day, day_read}
use Rattle.dw_audit.proofs.rules.is_day.Goals as goal

pub returns-in-None : goal.returns-in-None
returns-in-None c = no_day c.args.digits.now c.in-None.ensures

pub returns-in_ok-read_day-in-Some : goal.returns-in_ok-read_day-in-Some
returns-in_ok-read_day-in-Some c =
    c.is_some.ensures ∙ ap is_some (c.in_ok-read_day-in-Some.ensures ∙ ap day_digits c.in-Some.ensures.1) ∙ day_read c.args.digits.now c.requires
