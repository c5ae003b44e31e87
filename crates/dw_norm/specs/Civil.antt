-- What dates and times of the crate `jiff` say.
use Rattle.std.specs.Prelude.{◌≡◌, ◌+◌, ◌*◌, pos, ◌≤ℤ◌, unsigned_abs}
use Rattle.jiff.specs.Types.{Date, DateTime}
use Rattle.dw_norm.specs.Calendar.{Day, Moment}

-- the day of a date, whose year is from 1 on
abbrev pub plain_day : Date → Day
plain_day d = record { year = unsigned_abs d.year; month = d.month; day = d.day }

-- and its second, without the fraction
abbrev pub plain_moment : DateTime → Moment
plain_moment t = record { day = plain_day t.date; second = t.time.hour * 3600 + t.time.minute * 60 + t.time.second }

-- a whole second, in a year from 1 on
pub record IsSecond (t : DateTime) : Type 0 where
  pub year_from : pos 1 ≤ℤ t.date.year
  pub whole : t.time.subsec_nanosecond ≡ 0
