-- Days, their numbers and the moments of instants.
use Rattle.std.proofs.Common.{◌≡◌, ℕ, zero, suc, ◌+◌, ◌-◌, ◌*◌, ◌/◌, ◌%◌, ◌<◌, ◌≤◌, true, cond, zero-add, ◌&&◌, leb, ltb, Option, Some, None, refl, sym, ap, ◌∙◌, subst, arith, inl, inr}
use Rattle.std.specs.Prelude.{◌↔◌}
use Rattle.std.specs.Ordering.{nat_cmp, ordering_then}
use Rattle.std.proofs.lemmas.Bool.{cases_lt, leb-true, le-leb, lt-leb, lt-ltb, le-ltb, and_parts}
use Rattle.std.proofs.lemmas.Option.{cond_some}
use Rattle.dw_base.specs.Days.{month_days}
use Rattle.dw_norm.specs.Calendar.{Day, Moment, IsDay, days_of_months, days_of_years, day_number, next_day, nth_day, instant, moment_at, IsMoment}
use Rattle.dw_norm.proofs.Orders.{below, above, level}

pub month_days-le : (y m : ℕ) → month_days y m ≤ 31
month_days-le y m = grind arith

month_has_days : (y m : ℕ) → 1 ≤ month_days y m
month_has_days y m = grind arith

months_suc : (y m : ℕ) → 1 ≤ m → days_of_months y m ≡ days_of_months y (m - 1) + month_days y m
unfolding days_of_months
months_suc y zero h = absurd (omega arith)
months_suc y (suc m) h = let e : suc m - 1 ≡ m = omega arith in ap (λ k. days_of_months y k + month_days y (suc m)) (sym e)

years_suc : (y : ℕ) → 1 ≤ y → days_of_years y ≡ days_of_years (y - 1) + days_of_months y 12
unfolding days_of_years
years_suc zero h = absurd (omega arith)
years_suc (suc y) h = let e : suc y - 1 ≡ y = omega arith in ap (λ k. days_of_years k + days_of_months (suc y) 12) (sym e)

months_rise : (y a n : ℕ) → days_of_months y a ≤ days_of_months y (n + a)
months_rise y a zero = let same = ap (days_of_months y) (zero-add a) in omega arith
months_rise y a (suc n) =
    let step = months_suc y (suc n + a) (omega arith) in
    let e : suc n + a - 1 ≡ n + a = omega arith in
    let same = ap (days_of_months y) e in
    let rest = months_rise y a n in
    omega arith

months_le : (y a b : ℕ) → a ≤ b → days_of_months y a ≤ days_of_months y b
months_le y a b h = let e : b - a + a ≡ b = omega arith in let same = ap (days_of_months y) e in let rise = months_rise y a (b - a) in omega arith

years_rise : (a n : ℕ) → days_of_years a ≤ days_of_years (n + a)
years_rise a zero = let same = ap days_of_years (zero-add a) in omega arith
years_rise a (suc n) =
    let step = years_suc (suc n + a) (omega arith) in
    let e : suc n + a - 1 ≡ n + a = omega arith in
    let same = ap days_of_years e in
    let rest = years_rise a n in
    omega arith

years_le : (a b : ℕ) → a ≤ b → days_of_years a ≤ days_of_years b
years_le a b h = let e : b - a + a ≡ b = omega arith in let same = ap days_of_years e in let rise = years_rise a (b - a) in omega arith

pub day_number-is : (d : Day) → day_number d ≡ days_of_years (d.year - 1) + days_of_months d.year (d.month - 1) + d.day
unfolding day_number
day_number-is d = refl

no_months : (y : ℕ) → days_of_months y 0 ≡ 0
unfolding days_of_months
no_months y = refl

pub no_years : days_of_years 0 ≡ 0
unfolding days_of_years
no_years = refl

-- the number of a day of a later month, and of a later year, is larger
month_end : (d : Day) → IsDay d → day_number d ≤ days_of_years (d.year - 1) + days_of_months d.year d.month
month_end d h = let step = months_suc d.year d.month h.month_from in let e = day_number-is d in omega arith

year_end : (d : Day) → IsDay d → day_number d ≤ days_of_years d.year
year_end d h =
    let step = years_suc d.year h.year_from in
    let months = months_le d.year d.month 12 h.month_to in
    let e = month_end d h in
    omega arith

later_year : (d e : Day) → IsDay d → IsDay e → d.year < e.year → day_number d < day_number e
later_year d e h k lt =
    let first = year_end d h in
    let between = years_le d.year (e.year - 1) (omega arith) in
    let last = day_number-is e in
    let day = k.day_from in
    omega arith

later_month : (d e : Day) → IsDay d → IsDay e → d.year ≡ e.year → d.month < e.month → day_number d < day_number e
later_month d e h k same lt =
    let first = month_end d h in
    let between = months_le d.year d.month (e.month - 1) (omega arith) in
    let months = ap (λ y. days_of_months y (e.month - 1)) same in
    let years = ap (λ y. days_of_years (y - 1)) same in
    let last = day_number-is e in
    let day = k.day_from in
    omega arith

same_month : (d e : Day) → d.year ≡ e.year → d.month ≡ e.month → day_number d + e.day ≡ day_number e + d.day
same_month d e y m =
    let years = ap (λ n. days_of_years (n - 1)) y in
    let months : days_of_months d.year (d.month - 1) ≡ days_of_months e.year (e.month - 1) = λ i. days_of_months (y i) (m i - 1) in
    let first = day_number-is d in
    let last = day_number-is e in
    omega arith

-- year, month and day compare as the number does
pub by_year_month_day : (d e : Day) → IsDay d → IsDay e → ordering_then (nat_cmp d.year e.year) (ordering_then (nat_cmp d.month e.month) (nat_cmp d.day e.day)) ≡ nat_cmp (day_number d) (day_number e)
by_year_month_day d e h k =
    elim (cases_lt d.year e.year) [
      | inl lt ↦ rw (below d.year e.year lt) (sym (below (day_number d) (day_number e) (later_year d e h k lt)))
      | inr ge ↦ elim (cases_lt e.year d.year) [
        | inl gt ↦ rw (above d.year e.year gt) (sym (above (day_number d) (day_number e) (later_year e d k h gt)))
        | inr le ↦
            let y : d.year ≡ e.year = omega arith in
            rw (level d.year e.year y) (in_year y)
      ]
    ]
  where
    in_month : d.year ≡ e.year → d.month ≡ e.month → nat_cmp d.day e.day ≡ nat_cmp (day_number d) (day_number e)
    in_month y m =
        let difference = same_month d e y m in
        elim (cases_lt d.day e.day) [
          | inl lt ↦ below d.day e.day lt ∙ sym (below (day_number d) (day_number e) (omega arith))
          | inr ge ↦ elim (cases_lt e.day d.day) [
            | inl gt ↦ above d.day e.day gt ∙ sym (above (day_number d) (day_number e) (omega arith))
            | inr le ↦ level d.day e.day (omega arith) ∙ sym (level (day_number d) (day_number e) (omega arith))
          ]
        ]

    in_year : d.year ≡ e.year → ordering_then (nat_cmp d.month e.month) (nat_cmp d.day e.day) ≡ nat_cmp (day_number d) (day_number e)
    in_year y =
        elim (cases_lt d.month e.month) [
          | inl lt ↦ rw (below d.month e.month lt) (sym (below (day_number d) (day_number e) (later_month d e h k y lt)))
          | inr ge ↦ elim (cases_lt e.month d.month) [
            | inl gt ↦ rw (above d.month e.month gt) (sym (above (day_number d) (day_number e) (later_month e d k h (sym y) gt)))
            | inr le ↦ let m : d.month ≡ e.month = omega arith in rw (level d.month e.month m) (in_month y m)
          ]
        ]

-- no two days have one number
pub same_day : (d e : Day) → IsDay d → IsDay e → day_number d ≡ day_number e → d ≡ e
same_day d e h k n =
    elim (cases_lt d.year e.year) [
      | inl lt ↦ let l = later_year d e h k lt in absurd (omega arith)
      | inr ge ↦ elim (cases_lt e.year d.year) [
        | inl gt ↦ let l = later_year e d k h gt in absurd (omega arith)
        | inr le ↦ let y : d.year ≡ e.year = omega arith in in_year y
      ]
    ]
  where
    in_year : d.year ≡ e.year → d ≡ e
    in_year y =
        elim (cases_lt d.month e.month) [
          | inl lt ↦ let l = later_month d e h k y lt in absurd (omega arith)
          | inr ge ↦ elim (cases_lt e.month d.month) [
            | inl gt ↦ let l = later_month e d k h (sym y) gt in absurd (omega arith)
            | inr le ↦
                let m : d.month ≡ e.month = omega arith in
                let s = same_month d e y m in
                let t : d.day ≡ e.day = omega arith in
                λ i. record { year = y i; month = m i; day = t i }
          ]
        ]

-- the day after a day is one, and its number is one more
pub next_day-is : (d : Day) → IsDay d → IsDay (next_day d) × (day_number (next_day d) ≡ day_number d + 1) × (d.year ≤ (next_day d).year)
next_day-is d h =
    elim (cases_lt d.day (month_days d.year d.month)) [
      | inl lt ↦ rw (lt-ltb d.day (month_days d.year d.month) lt) (
        record { year_from = h.year_from; month_from = h.month_from; month_to = h.month_to; day_from = omega arith; day_to = omega arith },
        in_month,
        omega arith,
      )
      | inr ge ↦ rw (le-ltb d.day (month_days d.year d.month) ge) (at_month_end ge)
    ]
  where
    in_month : day_number (record { year = d.year; month = d.month; day = d.day + 1 }) ≡ day_number d + 1
    in_month =
        let e = day_number-is d in
        let f = day_number-is (record { year = d.year; month = d.month; day = d.day + 1 }) in
        omega arith

    next_month : month_days d.year d.month ≤ d.day → day_number (record { year = d.year; month = d.month + 1; day = 1 }) ≡ day_number d + 1
    next_month ge =
        let e = day_number-is d in
        let f = day_number-is (record { year = d.year; month = d.month + 1; day = 1 }) in
        let m : d.month + 1 - 1 ≡ d.month = omega arith in
        let months = ap (days_of_months d.year) m in
        let step = months_suc d.year d.month h.month_from in
        let last = h.day_to in
        omega arith

    next_year : month_days d.year d.month ≤ d.day → 12 ≤ d.month → day_number (record { year = d.year + 1; month = 1; day = 1 }) ≡ day_number d + 1
    next_year ge december =
        let e = day_number-is d in
        let f = day_number-is (record { year = d.year + 1; month = 1; day = 1 }) in
        let none = no_months (d.year + 1) in
        let y : d.year + 1 - 1 ≡ d.year = omega arith in
        let years = ap days_of_years y in
        let m : d.month ≡ 12 = omega (arith, h.month_to) in
        let all = years_suc d.year h.year_from in
        let step = months_suc d.year d.month h.month_from in
        let twelve = ap (days_of_months d.year) m in
        let last = h.day_to in
        omega arith

    at_month_end : month_days d.year d.month ≤ d.day → IsDay (cond {A = Day} (ltb d.month 12) (record { year = d.year; month = d.month + 1; day = 1 }) (record { year = d.year + 1; month = 1; day = 1 })) × (day_number (cond {A = Day} (ltb d.month 12) (record { year = d.year; month = d.month + 1; day = 1 }) (record { year = d.year + 1; month = 1; day = 1 })) ≡ day_number d + 1) × (d.year ≤ (cond {A = Day} (ltb d.month 12) (record { year = d.year; month = d.month + 1; day = 1 }) (record { year = d.year + 1; month = 1; day = 1 })).year)
    at_month_end ge =
        elim (cases_lt d.month 12) [
          | inl lt ↦ rw (lt-ltb d.month 12 lt) (
            record { year_from = h.year_from; month_from = omega arith; month_to = omega arith; day_from = omega arith; day_to = month_has_days d.year (d.month + 1) },
            next_month ge,
            omega arith,
          )
          | inr december ↦ rw (le-ltb d.month 12 december) (
            record { year_from = omega arith; month_from = omega arith; month_to = omega arith; day_from = omega arith; day_to = month_has_days (d.year + 1) 1 },
            next_year ge december,
            omega arith,
          )
        ]

first_day : day_number (record { year = 1; month = 1; day = 1 }) ≡ 1
unfolding day_number days_of_years days_of_months
first_day = refl

-- the nth day is a day, and its number is n + 1
pub nth_day-is : (n : ℕ) → IsDay (nth_day n) × (day_number (nth_day n) ≡ n + 1)
unfolding nth_day
nth_day-is zero = (
  record { year_from = omega arith; month_from = omega arith; month_to = omega arith; day_from = omega arith; day_to = month_has_days 1 1 },
  first_day,
)
nth_day-is (suc n) =
    let rest = nth_day-is n in
    let next = next_day-is (nth_day n) rest.0 in
    let count : day_number (next_day (nth_day n)) ≡ suc n + 1 = omega (arith, next.1, rest.1) in
    (next.0, count)

-- a day is the one that its number gives
pub nth_day-number : (d : Day) → IsDay d → nth_day (day_number d - 1) ≡ d
nth_day-number d h =
    let nth = nth_day-is (day_number d - 1) in
    let e = day_number-is d in
    let day = h.day_from in
    same_day (nth_day (day_number d - 1)) d nth.0 h (omega (arith, nth.1))

pub number_from : (d : Day) → IsDay d → 1 ≤ day_number d
number_from d h = omega (arith, day_number-is d, h.day_from)

-- what the moment is of an instant in a day
pub moment_at-day : (d : Day) (s t : ℕ) → IsDay d → s < 86_400 → t ≡ day_number d * 86_400 + s → moment_at t ≡ cond (leb d.year 9999) (Some (record { day = d; second = s })) None
unfolding moment_at
moment_at-day d s t h fits e =
    let one = number_from d h in
    let days : t / 86_400 ≡ day_number d = omega arith in
    let seconds : t % 86_400 ≡ s = omega arith in
    let late : leb 86_400 t ≡ true = le-leb 86_400 t (omega arith) in
    let day : nth_day (t / 86_400 - 1) ≡ d = ap (λ n. nth_day (n - 1)) days ∙ nth_day-number d h in
    λ i. cond (late i && leb (day i).year 9999) (Some (record { day = day i; second = seconds i })) None

pub moment_found : (m : Moment) (t : ℕ) → IsMoment m → instant m ≡ t → moment_at t ≡ Some m
moment_found m t h e = moment_at-day m.day m.second t h.is_day h.second_to (sym e) ∙ ap (λ b. cond b (Some m) None) (le-leb m.day.year 9999 h.year_to)

-- before the first day, and in a day past the year 9999, there is none
pub none_before : (t : ℕ) → t < 86_400 → moment_at t ≡ None
unfolding moment_at
none_before t h = rw (lt-leb 86_400 t h) refl

moment_is : (t : ℕ) (m : Moment) → moment_at t ≡ Some m → IsMoment m × (instant m ≡ t)
unfolding moment_at
moment_is t m e =
    let found = cond_some (leb 86_400 t && leb (nth_day (t / 86_400 - 1)).year 9999) (record { day = nth_day (t / 86_400 - 1); second = t % 86_400 }) m e in
    let tests = and_parts (leb 86_400 t) (leb (nth_day (t / 86_400 - 1)).year 9999) found.0 in
    let late = leb-true 86_400 t tests.0 in
    let nth = nth_day-is (t / 86_400 - 1) in
    let own : IsMoment (record { day = nth_day (t / 86_400 - 1); second = t % 86_400 }) = record { is_day = nth.0; year_to = leb-true (nth_day (t / 86_400 - 1)).year 9999 tests.1; second_to = omega arith } in
    let at : instant (record { day = nth_day (t / 86_400 - 1); second = t % 86_400 }) ≡ t = omega (arith, nth.1) in
    let P : Moment → Type 0 = λ n. IsMoment n × (instant n ≡ t) in
    subst P found.1 (own, at)

pub moments_told : (t : ℕ) (m : Moment) → (moment_at t ≡ Some m) ↔ (IsMoment m × (instant m ≡ t))
moments_told t m = (moment_is t m, λ h. moment_found m t h.0 h.1)

-- none behind the last day of the year 9999
pub none_late : (t : ℕ) → (days_of_years 9999 + 1) * 86_400 ≤ t → moment_at t ≡ None
none_late t h = by (moment_at t) refl
  where
    by : (o : Option Moment) → moment_at t ≡ o → o ≡ None
    by None e = refl
    by (Some m) e =
        let told = moment_is t m e in
        let last = year_end m.day told.0.is_day in
        let years = years_le m.day.year 9999 told.0.year_to in
        absurd (omega (arith, told.0.second_to, told.1))
