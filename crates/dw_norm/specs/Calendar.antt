-- The days of the calendar one after another, and the seconds of each.
use Rattle.std.specs.Prelude.{ℕ, zero, suc, ◌+◌, ◌-◌, ◌*◌, ◌/◌, ◌%◌, ◌<◌, ◌≤◌, ◌&&◌, nat_lt, nat_le, if◌then◌else◌, Option, Some, None}
use Rattle.dw_base.specs.Days.{month_days}

-- a day by its year, its month from 1 and its day from 1
pub record Day : Type 0 where
  pub year : ℕ
  pub month : ℕ
  pub day : ℕ

-- a second of a day, from 0 to 86,399
pub record Moment : Type 0 where
  pub day : Day
  pub second : ℕ

-- a day of the calendar
pub record IsDay (d : Day) : Type 0 where
  pub year_from : 1 ≤ d.year
  pub month_from : 1 ≤ d.month
  pub month_to : d.month ≤ 12
  pub day_from : 1 ≤ d.day
  pub day_to : d.day ≤ month_days d.year d.month

-- the days of the first so many months of a year
unfoldable pub days_of_months : ℕ → ℕ → ℕ
days_of_months year zero = 0
days_of_months year (suc month) = days_of_months year month + month_days year (suc month)

-- the days of the first so many years
unfoldable pub days_of_years : ℕ → ℕ
days_of_years zero = 0
days_of_years (suc year) = days_of_years year + days_of_months (suc year) 12

-- the number of a day, where 1 January of the year 1 is day 1 (Rata Die)
unfoldable pub day_number : Day → ℕ
day_number d = days_of_years (d.year - 1) + days_of_months d.year (d.month - 1) + d.day

-- the day after a day
abbrev pub next_day : Day → Day
next_day d =
    if nat_lt d.day (month_days d.year d.month)
    then record { year = d.year; month = d.month; day = d.day + 1 }
    else (if nat_lt d.month 12 then record { year = d.year; month = d.month + 1; day = 1 } else record { year = d.year + 1; month = 1; day = 1 })

-- the day so many days after 1 January of the year 1
unfoldable pub nth_day : ℕ → Day
nth_day zero = record { year = 1; month = 1; day = 1 }
nth_day (suc n) = next_day (nth_day n)

-- the instant of a moment in UTC: the seconds since the start of the day before 1 January of the year 1
abbrev pub instant : Moment → ℕ
instant m = day_number m.day * 86_400 + m.second

-- a second of a day of the years 1 to 9999
pub record IsMoment (m : Moment) : Type 0 where
  pub is_day : IsDay m.day
  pub year_to : m.day.year ≤ 9999
  pub second_to : m.second < 86_400

-- the moment in UTC of an instant; none outside the years 1 to 9999
unfoldable pub moment_at : ℕ → Option Moment
moment_at t = if nat_le 86_400 t && nat_le (nth_day (t / 86_400 - 1)).year 9999 then Some (record { day = nth_day (t / 86_400 - 1); second = t % 86_400 }) else None
