use Rattle.std.proofs.Common.{◌≡◌, sym, ◌∙◌, subst, arith}
use Rattle.std.specs.Option.{IfSome}
use Rattle.dw_base.specs.Days.{is_day}
use Rattle.dw_norm.specs.Calendar.{Day}
use Rattle.dw_norm.specs.Civil.{plain_day}
use Rattle.dw_norm.proofs.ReadDates.{day_few, day_is, day_named}
use Rattle.dw_norm.proofs.days.date_of.Goals as goal

pub date-requires-clause-day : goal.date-requires-clause-day
date-requires-clause-day c =
    let few = day_few c.args.digits.now c.requires (sym c.if-not-are_digits.ensures) in
    omega (arith, c.numeral-day.ensures, day_is c.args.digits.now)

pub returns-clause-exists : goal.returns-clause-exists
returns-clause-exists c =
    let day = c.numeral-day.ensures ∙ day_is c.args.digits.now in
    c.date.ensures.exists
    ∙ (λ i. is_day (c.numeral-year.ensures i) (c.numeral-month.ensures i) (day i))
    ∙ sym (day_named c.args.digits.now c.requires (sym c.if-not-are_digits.ensures))

pub returns-clause-day : goal.returns-clause-day
returns-clause-day c =
    let day = c.numeral-day.ensures ∙ day_is c.args.digits.now in
    let P : Day → Type 0 = λ n. IfSome c.date.result (λ d. plain_day d ≡ n) in
    subst P (λ i. record { year = c.numeral-year.ensures i; month = c.numeral-month.ensures i; day = day i }) c.date.ensures.day
