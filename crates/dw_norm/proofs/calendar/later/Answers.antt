use Rattle.std.proofs.Common.{sym}
use Rattle.std.proofs.lemmas.Bool.{true≢false}
use Rattle.dw_norm.proofs.Civil.{found_later, none_later}
use Rattle.dw_norm.proofs.calendar.later.Goals as goal

pub returns-in_default : goal.returns-in_default
returns-in_default c = none_later c.args.from c.args.by _ c.requires c.seconds.ensures (λ h. true≢false (sym (c.in_default.ensures.succeeds.1 h)))

pub returns : goal.returns
returns c = found_later c.args.from c.in-Ok.moment c.args.by _ c.requires c.seconds.ensures c.in-Ok.ensures.value
