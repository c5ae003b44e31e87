use Rattle.std.proofs.Common.{sym, ap, ◌∙◌}
use Rattle.std.specs.Option.{option_map}
use Rattle.dw_tablet.specs.Values.{is_only}
use Rattle.dw_tablet.proofs.asked.Asked.is_only.Goals as goal

pub returns-in-Some : goal.returns-in-Some
returns-in-Some c = c.eq.ensures ∙ ap (λ o. is_only (option_map (λ v. v.now) o) c.args.value.now) (sym c.in-Some.is)
