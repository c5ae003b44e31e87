use Rattle.std.proofs.Common.{sym, ap, ◌∙◌, not}
use Rattle.dw_norm.proofs.ReadDates.{named_digits}
use Rattle.dw_norm.proofs.days.read_day.Goals as goal

pub put_digits-requires : goal.put_digits-requires
put_digits-requires c = named_digits c.in-Some.digits (sym c.date_of.ensures.exists ∙ c.is_none.ensures ∙ ap not c.if-is_none.false)
