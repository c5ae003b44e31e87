-- The days of the Gregorian calendar, carried back to the year 1, and how they are written.
use Rattle.std.specs.Prelude.{ℕ, ◌%◌, Bool, ◌&&◌, ◌||◌, not, nat_le, ◌==◌, if◌then◌else◌, List, ◌++◌, length, take, drop, slice_index, Option, Some, None}
use Rattle.std.specs.List.{list_all}
use Rattle.std.specs.Char.{is_ascii_digit}
use Rattle.std.specs.Str.Parse.{digits_value}

-- a year that 4 divides, and 100 does not unless 400 does
abbrev pub is_leap_year : ℕ → Bool
is_leap_year year = (year % 4 == 0) && (not (year % 100 == 0) || (year % 400 == 0))

-- how many days a month of a year has
abbrev pub month_days : ℕ → ℕ → ℕ
month_days year month =
    if month == 2 then (if is_leap_year year then 29 else 28)
    else (if (month == 4) || (month == 6) || (month == 9) || (month == 11) then 30 else 31)

-- a day of the years 0001 to 9999
abbrev pub is_day : ℕ → ℕ → ℕ → Bool
is_day year month day =
    nat_le 1 year && nat_le year 9999 && nat_le 1 month && nat_le month 12 && nat_le 1 day && nat_le day (month_days year month)

-- eight digits, four of the year, two of the month and two of the day, that name a day
abbrev pub names_day : List ℕ → Bool
names_day date =
    (length date == 8) && list_all is_ascii_digit date
    && is_day (digits_value 10 (take 4 date)) (digits_value 10 (take 2 (drop 4 date))) (digits_value 10 (drop 6 date))

-- ten bytes, with `-` behind the fourth and the seventh
abbrev pub is_dashed : List ℕ → Bool
is_dashed text = (length text == 10) && (slice_index text 4 == 45) && (slice_index text 7 == 45)

-- such a text without the two `-`
abbrev pub without_dashes : List ℕ → List ℕ
without_dashes text = take 4 text ++ take 2 (drop 5 text) ++ drop 8 text

-- the eight digits of the day that a text `yyyyMMdd` or `yyyy-MM-dd` names
abbrev pub day_digits : List ℕ → Option (List ℕ)
day_digits text =
    let digits = if is_dashed text then without_dashes text else text in
    if names_day digits then Some digits else None
