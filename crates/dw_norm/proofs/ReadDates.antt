-- The parts of eight digits, and of a zone.
use Rattle.std.proofs.Common.{◌≡◌, ℕ, ◌-◌, ◌^◌, ◌<◌, true, ◌&&◌, ◌||◌, eq-eqb, List, [], length, take, drop, ap, sym, ◌∙◌, arith, subst}
use Rattle.std.specs.Prelude.{◌==◌, codes}
use Rattle.std.specs.Char.{is_ascii_digit}
use Rattle.std.specs.List.{list_all}
use Rattle.std.specs.Str.Parse.{digits_value}
use Rattle.std.proofs.lemmas.Bool.{and_parts}
use Rattle.std.proofs.lemmas.List.{length-take-le, length-drop, take_all, take-append-drop}
use Rattle.std.proofs.lemmas.List.Folds.{list_all-append}
use Rattle.dw_base.specs.Days.{is_day, names_day}
use Rattle.dw_norm.specs.Digits.{has_layout}
use Rattle.dw_norm.specs.Dates.{is_zone_text, names_minute}
use Rattle.dw_norm.proofs.Decimals.{numeral-lt}

digits_in : (k : ℕ) (ds : List ℕ) → list_all is_ascii_digit ds ≡ true → (list_all is_ascii_digit (take k ds) ≡ true) × (list_all is_ascii_digit (drop k ds) ≡ true)
digits_in k ds h =
    and_parts (list_all is_ascii_digit (take k ds)) (list_all is_ascii_digit (drop k ds))
    (sym (list_all-append is_ascii_digit (take k ds) (drop k ds)) ∙ ap (list_all is_ascii_digit) (take-append-drop k ds) ∙ h)

few_in : (ds : List ℕ) (k : ℕ) → length ds ≡ k → list_all is_ascii_digit ds ≡ true → digits_value 10 ds < 10 ^ k
few_in ds k e h = let P : ℕ → Type 0 = λ w. digits_value 10 ds < 10 ^ w in subst P e (numeral-lt ds h)

pub year_few : (ds : List ℕ) → length ds ≡ 8 → list_all is_ascii_digit ds ≡ true → digits_value 10 (take 4 ds) < 10_000
year_few ds e h = few_in (take 4 ds) 4 (length-take-le 4 ds (omega arith)) (digits_in 4 ds h).0

pub month_few : (ds : List ℕ) → length ds ≡ 8 → list_all is_ascii_digit ds ≡ true → digits_value 10 (take 2 (drop 4 ds)) < 100
month_few ds e h = few_in (take 2 (drop 4 ds)) 2 (length-take-le 2 (drop 4 ds) (omega (arith, length-drop 4 ds))) (digits_in 2 (drop 4 ds) (digits_in 4 ds h).1).0

pub day_few : (ds : List ℕ) → length ds ≡ 8 → list_all is_ascii_digit ds ≡ true → digits_value 10 (drop 6 ds) < 100
day_few ds e h = few_in (drop 6 ds) 2 (length-drop 6 ds ∙ omega arith) (digits_in 6 ds h).1

-- what stands behind the sixth digit
pub day_is : (ds : List ℕ) → digits_value 10 (take (length ds - 6) (drop 6 ds)) ≡ digits_value 10 (drop 6 ds)
day_is ds = ap (digits_value 10) (take_all (length ds - 6) (drop 6 ds) (omega (arith, length-drop 6 ds)))

pub day_named : (ds : List ℕ) → length ds ≡ 8 → list_all is_ascii_digit ds ≡ true → names_day ds ≡ is_day (digits_value 10 (take 4 ds)) (digits_value 10 (take 2 (drop 4 ds))) (digits_value 10 (drop 6 ds))
day_named ds e h =
    let eight : (length ds == 8) ≡ true = eq-eqb (length ds) 8 e in
    λ i. eight i && h i && is_day (digits_value 10 (take 4 ds)) (digits_value 10 (take 2 (drop 4 ds))) (digits_value 10 (drop 6 ds))

pub named_digits : (ds : List ℕ) → names_day ds ≡ true → list_all is_ascii_digit ds ≡ true
named_digits ds h =
    let first = and_parts ((length ds == 8) && list_all is_ascii_digit ds) (is_day (digits_value 10 (take 4 ds)) (digits_value 10 (take 2 (drop 4 ds))) (digits_value 10 (drop 6 ds))) h in
    (and_parts (length ds == 8) (list_all is_ascii_digit ds) first.0).1

pub zone_named : (text : List ℕ) → is_zone_text text ≡ true → names_minute text ≡ true
unfolding is_zone_text
zone_named text h = (and_parts (has_layout [] text || has_layout (codes "Z") text || has_layout (codes "+00:00") text || has_layout (codes "-00:00") text) (names_minute text) h).1
