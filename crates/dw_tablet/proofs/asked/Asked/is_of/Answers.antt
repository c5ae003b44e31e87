use Rattle.std.proofs.Common.{sym, ap, ◌∙◌}
use Rattle.std.specs.Option.{option_map}
use Rattle.dw_tablet.specs.Values.{is_of}
use Rattle.dw_tablet.proofs.asked.Asked.is_of.Goals as goal

pub returns-in-Some : goal.returns-in-Some
returns-in-Some c = c.want.ensures ∙ ap (λ o. is_of (option_map (λ t. t.now) o) c.args.dtype.now) (sym c.in-Some.is)
