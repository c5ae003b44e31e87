-- Numbers that digits spell.
use Rattle.std.proofs.Common.{◌≡◌, ℕ, ◌+◌, ◌*◌, ◌<◌, ◌≤◌, Bool, true, false, cond, List, [], ◌∷◌, length, refl, arith}
use Rattle.std.specs.Prelude.{◌&&◌, nat_le, Some, None}
use Rattle.std.specs.List.{list_all}
use Rattle.std.specs.Char.{digit_value, is_ascii_digit}
use Rattle.std.specs.Str.Parse.{digits_value, digits_value_after}
use Rattle.std.proofs.lemmas.Bool.{lt-leb}
use Rattle.dw_base.specs.Numerals.{numeral_up_to}

-- more digits spell no smaller number
pub le_digits_value_after : (n : ℕ) (bs : List ℕ) → n ≤ digits_value_after 10 n bs
le_digits_value_after n [] = omega arith
le_digits_value_after n (b ∷ bs) = omega (arith, le_digits_value_after (n * 10 + digit_value b) bs)

none_at : (a : Bool) (n : ℕ) → cond (a && false) (Some n) None ≡ None
none_at true n = refl
none_at false n = refl

-- a number above the most is none
pub none_above : (most : ℕ) (text : List ℕ) → most < digits_value 10 text → numeral_up_to most text ≡ None
none_above most text above =
    rw (lt-leb (digits_value 10 text) most above) (none_at (nat_le 1 (length text) && list_all is_ascii_digit text) (digits_value 10 text))
