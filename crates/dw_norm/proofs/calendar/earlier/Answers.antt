use Rattle.std.proofs.Common.{arith, sym, pos, ◌<ℤ◌, ◌≤ℤ◌}
use Rattle.std.proofs.lemmas.Bool.{true≢false}
use Rattle.jiff.proofs.SpanFacts.{signed_arith}
use Rattle.dw_norm.proofs.Civil.{fits_earlier, found_earlier, none_earlier}
use Rattle.dw_norm.proofs.calendar.earlier.Goals as goal

pub returns-in_default : goal.returns-in_default
returns-in_default c = absurd (true≢false (sym (c.in_default.ensures.succeeds.1 (fits_earlier c.args.from c.args.by _ c.requires.from c.requires.by c.seconds.ensures))))

pub returns-then-year-lt1 : goal.returns-then-year-lt1
returns-then-year-lt1 c =
    let early : c.in-Ok.moment.date.year <ℤ pos 1 = omega (arith, signed_arith) in
    none_earlier c.args.from c.in-Ok.moment c.args.by _ c.requires.from c.seconds.ensures early c.in-Ok.ensures.value

pub returns-else-year-lt1 : goal.returns-else-year-lt1
returns-else-year-lt1 c =
    let late : pos 1 ≤ℤ c.in-Ok.moment.date.year = omega (arith, signed_arith) in
    found_earlier c.args.from c.in-Ok.moment c.args.by _ c.requires.from c.seconds.ensures late c.in-Ok.ensures.value
