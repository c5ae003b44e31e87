-- Numbers as they are written, and their normal form.
use Rattle.std.specs.Prelude.{ℕ, suc, ◌+◌, ◌-◌, ◌*◌, ◌^◌, ◌==◌, ℤ, pos, negsuc, neg_ℤ, Bool, ◌&&◌, ◌||◌, nat_le, if◌then◌else◌, List, ◌∷◌, ◌++◌, replicate, map, length, take, drop, slice_index, Option, Some, None}
use Rattle.std.specs.Char.{is_ascii_digit}
use Rattle.std.specs.List.{prefix_len}
use Rattle.std.specs.Str.Parse.{digits_value}
use Rattle.dw_norm.specs.Digits.{decimal, is_fraction}

-- how many bytes the sign takes; 43 is `+` and 45 is `-`
abbrev pub sign_len : List ℕ → ℕ
sign_len raw = if (slice_index raw 0 == 43) || (slice_index raw 0 == 45) then 1 else 0

-- the digits behind the sign
abbrev pub whole_part : List ℕ → List ℕ
whole_part raw = take (prefix_len is_ascii_digit (drop (sign_len raw) raw)) (drop (sign_len raw) raw)

-- what stands behind those digits
abbrev pub fraction_part : List ℕ → List ℕ
fraction_part raw = drop (prefix_len is_ascii_digit (drop (sign_len raw) raw)) (drop (sign_len raw) raw)

-- the digits behind the point
abbrev pub decimals : List ℕ → List ℕ
decimals raw = drop 1 (fraction_part raw)

-- a sign or none, 1 to 18 digits, and then nothing or a point and 1 to 9 digits
unfoldable pub is_number : List ℕ → Bool
is_number raw = nat_le 1 (length (whole_part raw)) && nat_le (length (whole_part raw)) 18 && is_fraction (fraction_part raw)

-- the number without its sign, in units of the ninth decimal
unfoldable pub magnitude : List ℕ → ℕ
magnitude raw = digits_value 10 (whole_part raw) * 10 ^ 9 + digits_value 10 (decimals raw) * 10 ^ (9 - length (decimals raw))

-- the digits before and behind the point, with zeros up to 18 and 9 digits
abbrev pub padded : List ℕ → List ℕ → List ℕ
padded whole behind = replicate (18 - length whole) 48 ++ whole ++ behind ++ replicate (9 - length behind) 48

-- the number, in units of the ninth decimal
abbrev pub number_of : List ℕ → ℤ
number_of raw = if slice_index raw 0 == 45 then neg_ℤ (pos (magnitude raw)) else pos (magnitude raw)

-- each digit taken from 9, where 48 and 57 are the codes of 0 and 9
abbrev pub nines : List ℕ → List ℕ
nines digits = map (λ d. 105 - d) digits

-- `+` and 27 digits, and below zero `!` and each of the 27 digits of the magnitude taken from 9
abbrev pub number_text : ℤ → List ℕ
number_text (pos m) = 43 ∷ decimal 27 m
number_text (negsuc k) = 33 ∷ nines (decimal 27 (suc k))

-- the text of the number that is written
unfoldable pub norm_number : List ℕ → Option (List ℕ)
norm_number raw = if is_number raw then Some (number_text (number_of raw)) else None
