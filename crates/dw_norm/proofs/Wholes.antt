-- Texts are read whole, and digits spell their numbers.
use Rattle.std.proofs.Common.{◌≡◌, ℕ, zero, suc, ◌+◌, ◌-◌, ◌*◌, ◌/◌, ◌%◌, ◌^◌, ◌<◌, ◌≤◌, true, not, ◌&&◌, leb, List, [], ◌∷◌, ◌++◌, length, min, get_or, take, drop, refl, sym, ap, ◌∙◌, arith, append_assoc}
use Rattle.std.specs.Char.{is_ascii_digit, digit_value}
use Rattle.std.specs.List.{list_all, prefix_len, position_or_len, before_first, after_first, join_with_byte}
use Rattle.std.proofs.Math.Nat as nat
use Rattle.std.proofs.lemmas.Bool.{and_parts, and_from, leb-true, not-false, eqb-true}
use Rattle.std.proofs.lemmas.List.{take-append-drop, length-take, length-drop}
use Rattle.std.proofs.lemmas.List.Folds.{list_all-append}
use Rattle.std.proofs.lemmas.List.Sums.{split_at_first, prefix_len_stops}
use Rattle.std.specs.Str.Parse.{digits_value}
use Rattle.dw_norm.specs.Digits.{decimal}
use Rattle.dw_norm.specs.Numbers.{sign_len, whole_part, fraction_part}
use Rattle.dw_norm.specs.Dates.{day_len, fraction_len, day_part, time_part, behind_time, second_part, zone_part}
use Rattle.dw_norm.specs.Addresses.{is_point, groups, is_group, is_address}
use Rattle.dw_norm.specs.Laws.{TextsAreReadWhole, DigitsSpellNumbers}
use Rattle.dw_norm.proofs.Runs.{numeral_after-append}
use Rattle.dw_norm.proofs.Decimals.{length-decimal, digit_is}

whole_date : (raw : List ℕ) → day_part raw ++ time_part raw ++ second_part raw ++ zone_part raw ≡ raw
whole_date raw =
    append_assoc (day_part raw ++ time_part raw) (second_part raw) (zone_part raw)
    ∙ ap (λ xs. day_part raw ++ time_part raw ++ xs) (take-append-drop (fraction_len (behind_time raw)) (behind_time raw))
    ∙ append_assoc (day_part raw) (time_part raw) (behind_time raw)
    ∙ ap (λ xs. day_part raw ++ xs) (take-append-drop 9 (drop (day_len raw) raw))
    ∙ take-append-drop (day_len raw) raw

whole_number : (raw : List ℕ) → take (sign_len raw) raw ++ whole_part raw ++ fraction_part raw ≡ raw
whole_number raw =
    append_assoc (take (sign_len raw) raw) (whole_part raw) (fraction_part raw)
    ∙ ap (λ xs. take (sign_len raw) raw ++ xs) (take-append-drop (prefix_len is_ascii_digit (drop (sign_len raw) raw)) (drop (sign_len raw) raw))
    ∙ take-append-drop (sign_len raw) raw

parted : (xs : List ℕ) → 1 ≤ length (after_first is_point xs) → before_first is_point xs ++ (46 ∷ after_first is_point xs) ≡ xs
parted xs some =
    let at = position_or_len is_point xs in
    let count : length (after_first is_point xs) ≡ length xs - (at + 1) = length-drop (at + 1) xs in
    let within : at < length xs = omega arith in
    let point : get_or xs at 0 ≡ 46 = eqb-true (get_or xs at 0) 46 (not-false (is_point (get_or xs at 0)) (prefix_len_stops (λ b. not (is_point b)) xs 0 within)) in
    ap (λ b. before_first is_point xs ++ (b ∷ after_first is_point xs)) (sym point) ∙ sym (split_at_first is_point xs 0 within)

some_in : (g : List ℕ) → is_group g ≡ true → 1 ≤ length g
unfolding is_group
some_in g h =
    let last = and_parts (leb 1 (length g) && leb (length g) 3 && list_all is_ascii_digit g) (leb (digits_value 10 g) 255) h in
    let third = and_parts (leb 1 (length g) && leb (length g) 3) (list_all is_ascii_digit g) last.0 in
    leb-true 1 (length g) (and_parts (leb 1 (length g)) (leb (length g) 3) third.0).0

some_behind : (xs : List ℕ) → is_group (before_first is_point xs) ≡ true → 1 ≤ length xs
some_behind xs h =
    let some = some_in (before_first is_point xs) h in
    let count : length (before_first is_point xs) ≡ min (position_or_len is_point xs) (length xs) = length-take (position_or_len is_point xs) xs in
    omega arith

whole_address : (raw : List ℕ) → is_address raw ≡ true → join_with_byte 46 (groups raw) ≡ raw
unfolding is_address
whole_address raw h =
    let second = after_first is_point raw in
    let third = after_first is_point second in
    let fourth = after_first is_point third in
    let one = and_parts (is_group (before_first is_point raw)) (list_all is_group (before_first is_point second ∷ before_first is_point third ∷ fourth ∷ [])) h in
    let two = and_parts (is_group (before_first is_point second)) (list_all is_group (before_first is_point third ∷ fourth ∷ [])) one.1 in
    let three = and_parts (is_group (before_first is_point third)) (list_all is_group (fourth ∷ [])) two.1 in
    let four = and_parts (is_group fourth) true three.1 in
    ap (λ xs. before_first is_point raw ++ (46 ∷ (before_first is_point second ++ (46 ∷ xs)))) (parted third (some_in fourth four.0))
    ∙ ap (λ xs. before_first is_point raw ++ (46 ∷ xs)) (parted second (some_behind third three.0))
    ∙ parted raw (some_behind second two.0)

pub texts_whole : TextsAreReadWhole
texts_whole raw = (whole_date raw, whole_number raw, whole_address raw)

digit_passes : (n : ℕ) → is_ascii_digit (48 + n % 10) ≡ true
digit_passes n = grind arith

numeral-decimal : (w n : ℕ) → n < 10 ^ w → digits_value 10 (decimal w n) ≡ n
unfolding decimal
numeral-decimal zero n h = omega arith
numeral-decimal (suc w) n h =
    let power = nat.pow-suc 10 w in
    let fits : n / 10 < 10 ^ w = omega arith in
    let rest = numeral-decimal w (n / 10) fits in
    let last = digit_is (48 + n % 10) (digit_passes n) in
    numeral_after-append 0 (decimal w (n / 10)) ((48 + n % 10) ∷ [])
    ∙ ap (λ k. k * 10 + digit_value (48 + n % 10)) rest
    ∙ omega (arith, last)

decimal_passes : (w n : ℕ) → list_all is_ascii_digit (decimal w n) ≡ true
unfolding decimal
decimal_passes zero n = refl
decimal_passes (suc w) n =
    list_all-append is_ascii_digit (decimal w (n / 10)) ((48 + n % 10) ∷ [])
    ∙ and_from (list_all is_ascii_digit (decimal w (n / 10))) (is_ascii_digit (48 + n % 10) && true) (decimal_passes w (n / 10)) (and_from (is_ascii_digit (48 + n % 10)) true (digit_passes n) refl)

pub digits_spell : DigitsSpellNumbers
digits_spell w n h = (length-decimal w n, decimal_passes w n, numeral-decimal w n h)
