-- The days and seconds of the library's civil times.
use Rattle.std.proofs.Common.{◌≡◌, ℕ, zero, suc, ◌+◌, ◌-◌, ◌*◌, ◌<◌, ◌≤◌, Some, None, refl, sym, ap, arith, ℤ, pos, negsuc, neg_ℤ, ◌+ℤ◌, ◌<ℤ◌, ◌≤ℤ◌, unsigned_abs}
use Rattle.std.proofs.lemmas.Int.{by_lt_z}
use Rattle.jiff.specs.Types.{Date, DateTime}
use Rattle.jiff.specs.Words.{epoch_day, civil_nanos, IsCivilNanos}
use Rattle.jiff.proofs.SpanFacts.{signed_arith}
use Rattle.jiff_core.specs.Calendar.{day_count}
use Rattle.jiff_core.specs.Calendar as jiff
use Rattle.jiff_core.proofs.CalendarLemmas.{days_from_civil-day_count, day_count-next_year, day_count-end, days_of_months_all, day_count-day_of_year, day_count-lt_year}
use Rattle.jiff_core.proofs.MarchLemmas.{day_count-early}
use Rattle.jiff_core.proofs.DateTimeLemmas.{civil_nanos-parts, civil_nanos_range}
use Rattle.dw_base.specs.Days.{month_days}
use Rattle.dw_norm.specs.Calendar.{IsMoment, days_of_months, days_of_years, day_number, instant, moment_at}
use Rattle.dw_norm.specs.Civil.{plain_day, plain_moment, IsSecond}
use Rattle.dw_norm.proofs.DayNumbers.{day_number-is, no_years, number_from, moment_found, none_before, none_late}

-- ---- day numbers: the library counts from 1970-01-01, which is day 719,163 here

months_same : (y n : ℕ) → jiff.days_of_months (pos y) n ≡ days_of_months y n
unfolding jiff.days_of_months days_of_months
months_same y zero = refl
months_same y (suc n) = ap (λ k. k + month_days y (suc n)) (months_same y n)

first_year : day_count (pos 1) 1 1 ≡ 3_652_791
first_year = day_count-early (pos 1) 10000 1 1 refl (omega arith) (omega arith) (omega arith)

years_suc : (y : ℕ) → days_of_years (suc y) ≡ days_of_years y + days_of_months (suc y) 12
unfolding days_of_years
years_suc y = refl

years_same : (y : ℕ) → day_count (pos (suc y)) 1 1 ≡ days_of_years y + 3_652_791
years_same zero = omega (arith, first_year, no_years)
years_same (suc y) =
    let next = day_count-next_year (pos (suc y)) (pos (suc (suc y))) (omega (arith, signed_arith)) (omega (arith, signed_arith)) in
    omega (arith, next, years_same y, years_suc y, months_same (suc y) 12, days_of_months_all (pos (suc y)))

all_years : days_of_years 9999 ≡ 3_652_059
all_years = omega (arith, years_same 9999, day_count-end)

count_same : (y m d : ℕ) → 1 ≤ y → 1 ≤ d → day_count (pos y) m d ≡ day_number (record { year = y; month = m; day = d }) + 3_652_790
count_same zero m d h k = absurd (omega arith)
count_same (suc y) m d h k =
    let e : suc y - 1 ≡ y = omega arith in
    let years = ap days_of_years e in
    omega (arith, day_count-day_of_year (pos (suc y)) m d k, years_same y, months_same (suc y) (m - 1), day_number-is (record { year = suc y; month = m; day = d }), years)

year_back : (z : ℤ) → pos 1 ≤ℤ z → pos (unsigned_abs z) ≡ z
year_back (pos n) h = refl
year_back (negsuc n) h = absurd (omega (arith, signed_arith))

number_same : (d : Date) → pos 1 ≤ℤ d.year → (epoch_day d +ℤ pos 719_163) ≡ pos (day_number (plain_day d))
number_same d h =
    let y = year_back d.year h in
    let count = count_same (unsigned_abs d.year) d.month d.day (omega (arith, signed_arith)) d.day_in.0 in
    let same = ap (λ z. day_count z d.month d.day) y in
    omega (arith, signed_arith, days_from_civil-day_count d.year d.month d.day, count, same)

number_early : (d : Date) → d.year <ℤ pos 1 → (epoch_day d +ℤ pos 719_163) <ℤ pos 1
number_early d h =
    let lt = day_count-lt_year d.year d.month d.day (pos 1) 1 1 (d.year_in, d.month_in, d.day_in) (omega arith) h in
    omega (arith, signed_arith, days_from_civil-day_count d.year d.month d.day, lt, first_year)

-- ---- seconds: 62,135,683,200 is 719,163 days

nanos_same : (t : DateTime) → pos 1 ≤ℤ t.date.year → (civil_nanos t +ℤ pos 62_135_683_200_000_000_000) ≡ pos (instant (plain_moment t) * 1_000_000_000 + t.time.subsec_nanosecond)
nanos_same t h = omega (arith, signed_arith, civil_nanos-parts t, number_same t.date h)

nanos_early : (t : DateTime) → t.date.year <ℤ pos 1 → (civil_nanos t +ℤ pos 62_135_683_200_000_000_000) <ℤ pos 86_400_000_000_000
nanos_early t h = omega (arith, signed_arith, civil_nanos-parts t, number_early t.date h, t.time.hour_in, t.time.minute_in, t.time.second_in, t.time.subsec_in)

is_moment : (t : DateTime) → pos 1 ≤ℤ t.date.year → IsMoment (plain_moment t)
is_moment t h = record {
  is_day = record { year_from = omega (arith, signed_arith); month_from = t.date.month_in.0; month_to = t.date.month_in.1; day_from = t.date.day_in.0; day_to = t.date.day_in.1 };
  year_to = omega (arith, signed_arith, t.date.year_in, year_back t.date.year h);
  second_to = omega (arith, t.time.hour_in, t.time.minute_in, t.time.second_in);
}

-- ---- what lies so many nanoseconds before or behind a second

whole_before : (i j s f : ℕ) → i * 1_000_000_000 ≡ j * 1_000_000_000 + f + s * 1_000_000_000 → f < 1_000_000_000 → j ≡ i - s
whole_before i j s f e h = omega arith

whole_behind : (i j s f : ℕ) → i * 1_000_000_000 + s * 1_000_000_000 ≡ j * 1_000_000_000 + f → f < 1_000_000_000 → j ≡ i + s
whole_behind i j s f e h = omega arith

pub fits_earlier : (a : DateTime) (s : ℕ) (n : ℤ) → IsSecond a → s < 86_400 → n ≡ pos (s * 1_000_000_000) → IsCivilNanos (civil_nanos a +ℤ neg_ℤ n)
fits_earlier a s n h few e =
    let at = nanos_same a h.year_from in
    let range = civil_nanos_range a in
    (omega (arith, signed_arith), omega (arith, signed_arith))

pub found_earlier : (a b : DateTime) (s : ℕ) (n : ℤ) → IsSecond a → n ≡ pos (s * 1_000_000_000) → pos 1 ≤ℤ b.date.year → civil_nanos b ≡ (civil_nanos a +ℤ neg_ℤ n) → Some (plain_moment b) ≡ moment_at (instant (plain_moment a) - s)
found_earlier a b s n h d y e =
    let from = nanos_same a h.year_from in
    let to = nanos_same b y in
    let sum : instant (plain_moment a) * 1_000_000_000 ≡ instant (plain_moment b) * 1_000_000_000 + b.time.subsec_nanosecond + s * 1_000_000_000 = omega (arith, signed_arith, h.whole) in
    sym (moment_found (plain_moment b) _ (is_moment b y) (whole_before _ _ s b.time.subsec_nanosecond sum b.time.subsec_in))

pub none_earlier : (a b : DateTime) (s : ℕ) (n : ℤ) → IsSecond a → n ≡ pos (s * 1_000_000_000) → b.date.year <ℤ pos 1 → civil_nanos b ≡ (civil_nanos a +ℤ neg_ℤ n) → None ≡ moment_at (instant (plain_moment a) - s)
none_earlier a b s n h d y e =
    let from = nanos_same a h.year_from in
    let to = nanos_early b y in
    let few : instant (plain_moment a) * 1_000_000_000 < 86_400_000_000_000 + s * 1_000_000_000 = omega (arith, signed_arith, h.whole) in
    sym (none_before _ (omega (arith, few)))

year_later : (a b : DateTime) (s : ℕ) (n : ℤ) → IsSecond a → n ≡ pos (s * 1_000_000_000) → civil_nanos b ≡ (civil_nanos a +ℤ n) → pos 1 ≤ℤ b.date.year
year_later a b s n h d e = by_lt_z b.date.year (pos 1) (λ lt. absurd (late lt)) (λ le. le)
  where
    late : b.date.year <ℤ pos 1 → ⊥
    late lt =
        let from = nanos_same a h.year_from in
        let to = nanos_early b lt in
        let one = number_from (plain_day a.date) (is_moment a h.year_from).is_day in
        omega (arith, signed_arith)

pub found_later : (a b : DateTime) (s : ℕ) (n : ℤ) → IsSecond a → n ≡ pos (s * 1_000_000_000) → civil_nanos b ≡ (civil_nanos a +ℤ n) → Some (plain_moment b) ≡ moment_at (instant (plain_moment a) + s)
found_later a b s n h d e =
    let y = year_later a b s n h d e in
    let from = nanos_same a h.year_from in
    let to = nanos_same b y in
    let sum : instant (plain_moment a) * 1_000_000_000 + s * 1_000_000_000 ≡ instant (plain_moment b) * 1_000_000_000 + b.time.subsec_nanosecond = omega (arith, signed_arith, h.whole) in
    sym (moment_found (plain_moment b) _ (is_moment b y) (whole_behind _ _ s b.time.subsec_nanosecond sum b.time.subsec_in))

pub none_later : (a : DateTime) (s : ℕ) (n : ℤ) → IsSecond a → n ≡ pos (s * 1_000_000_000) → (IsCivilNanos (civil_nanos a +ℤ n) → ⊥) → None ≡ moment_at (instant (plain_moment a) + s)
none_later a s n h d out = by_lt_z (pos 253_402_300_799_999_999_999) (civil_nanos a +ℤ n) (λ lt. sym (none_late _ (behind lt))) (λ le. absurd (out (above, le)))
  where
    above : neg_ℤ (pos 377_705_116_800_000_000_000) ≤ℤ (civil_nanos a +ℤ n)
    above = let range = civil_nanos_range a in omega (arith, signed_arith)

    behind : pos 253_402_300_799_999_999_999 <ℤ (civil_nanos a +ℤ n) → (days_of_years 9999 + 1) * 86_400 ≤ instant (plain_moment a) + s
    behind lt =
        let from = nanos_same a h.year_from in
        let sum : 315_537_984_000_000_000_000 ≤ instant (plain_moment a) * 1_000_000_000 + s * 1_000_000_000 = omega (arith, signed_arith, h.whole) in
        omega (arith, all_years, sum)
