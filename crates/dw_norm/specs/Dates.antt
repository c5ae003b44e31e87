-- Dates as they are written, and their normal form.
use Rattle.std.specs.Prelude.{ℕ, ◌+◌, ◌-◌, ◌*◌, ◌/◌, ◌%◌, ◌==◌, Bool, ◌&&◌, ◌||◌, nat_le, if◌then◌else◌, List, [], ◌∷◌, ◌++◌, take, drop, slice_index, slice_range, codes, Option, None}
use Rattle.std.specs.Char.{is_ascii_digit}
use Rattle.std.specs.List.{prefix_len}
use Rattle.std.specs.Option.{option_map, is_some}
use Rattle.std.specs.Str.Parse.{digits_value}
use Rattle.dw_norm.specs.Digits.{decimal, has_layout, is_fraction}
use Rattle.dw_base.specs.Days.{is_dashed, without_dashes, day_digits}
use Rattle.dw_norm.specs.Calendar.{Day, Moment, day_number, moment_at}

-- how long the day is; 45 is `-`
abbrev pub day_len : List ℕ → ℕ
day_len raw = if slice_index raw 4 == 45 then 10 else 8

-- how long the fraction of a second is that a text begins with; 46 is the point
abbrev pub fraction_len : List ℕ → ℕ
fraction_len text = if slice_index text 0 == 46 then 1 + prefix_len is_ascii_digit (drop 1 text) else 0

-- A date is cut into four parts: its day,
abbrev pub day_part : List ℕ → List ℕ
day_part raw = take (day_len raw) raw

-- its time of day with the byte before it,
abbrev pub time_part : List ℕ → List ℕ
time_part raw = take 9 (drop (day_len raw) raw)

-- and of what stands behind that
abbrev pub behind_time : List ℕ → List ℕ
behind_time raw = drop 9 (drop (day_len raw) raw)

-- the fraction of a second in front,
abbrev pub second_part : List ℕ → List ℕ
second_part raw = take (fraction_len (behind_time raw)) (behind_time raw)

-- and the zone behind it
abbrev pub zone_part : List ℕ → List ℕ
zone_part raw = drop (fraction_len (behind_time raw)) (behind_time raw)

-- the day that eight digits name
abbrev pub day_of : List ℕ → Day
day_of digits = record { year = digits_value 10 (take 4 digits); month = digits_value 10 (take 2 (drop 4 digits)); day = digits_value 10 (drop 6 digits) }

-- the digits of a day, also where it is written with `-` between them
abbrev pub undashed : List ℕ → List ℕ
undashed text = if is_dashed text then without_dashes text else text

-- hours and minutes in seconds, written as two digits, one byte and two digits behind one byte
abbrev pub minutes_of : List ℕ → ℕ
minutes_of text = 3600 * digits_value 10 (slice_range text 1 3) + 60 * digits_value 10 (slice_range text 4 6)

-- hours to 23, and minutes to 59
abbrev pub names_minute : List ℕ → Bool
names_minute text = nat_le (digits_value 10 (slice_range text 1 3)) 23 && nat_le (digits_value 10 (slice_range text 4 6)) 59

-- the second of the day
abbrev pub second_of : List ℕ → ℕ
second_of text = minutes_of text + digits_value 10 (slice_range text 7 9)

-- nothing, or `T` or a space and then `HH:mm:ss`, each place a digit
abbrev pub has_time_layout : List ℕ → Bool
has_time_layout text = has_layout [] text || has_layout (codes "T00:00:00") text || has_layout (codes " 00:00:00") text

-- the same with hours to 23, and minutes and seconds to 59
unfoldable pub is_time_text : List ℕ → Bool
is_time_text text = has_time_layout text && names_minute text && nat_le (digits_value 10 (slice_range text 7 9)) 59

-- nothing, `Z`, `+hh:mm` or `-hh:mm`
unfoldable pub is_zone_text : List ℕ → Bool
is_zone_text text = (has_layout [] text || has_layout (codes "Z") text || has_layout (codes "+00:00") text || has_layout (codes "-00:00") text) && names_minute text

-- a day; behind it a time or nothing; and behind a time a fraction of a second, a zone, both or neither
unfoldable pub is_date : List ℕ → Bool
is_date raw = is_some (day_digits (day_part raw)) && is_time_text (time_part raw) && is_fraction (second_part raw) && is_zone_text (zone_part raw)

-- the second in which the date begins, by a clock that shows the local time, and its fraction dropped
abbrev pub local_instant : List ℕ → ℕ
local_instant raw = day_number (day_of (undashed (day_part raw))) * 86_400 + second_of (time_part raw)

-- what a clock in UTC shows when one in the zone shows a local time: the offset less where the zone is ahead; 43 is `+`
abbrev pub in_utc : List ℕ → ℕ → ℕ
in_utc zone local = if slice_index zone 0 == 43 then local - minutes_of zone else local + minutes_of zone

-- the instant that is named
unfoldable pub instant_of : List ℕ → ℕ
instant_of raw = in_utc (zone_part raw) (local_instant raw)

-- `yyyy-MM-ddTHH:mm:ssZ`
unfoldable pub moment_text : Moment → List ℕ
moment_text m = decimal 4 m.day.year ++ 45 ∷ decimal 2 m.day.month ++ 45 ∷ decimal 2 m.day.day ++ 84 ∷ decimal 2 (m.second / 3600) ++ 58 ∷ decimal 2 (m.second / 60 % 60) ++ 58 ∷ decimal 2 (m.second % 60) ++ 90 ∷ []

-- the text of the moment in UTC at which the named instant is
unfoldable pub norm_date : List ℕ → Option (List ℕ)
norm_date raw = if is_date raw then option_map moment_text (moment_at (instant_of raw)) else None
