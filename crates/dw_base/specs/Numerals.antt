-- Decimal numerals.
use Rattle.std.specs.Prelude.{ℕ, ◌&&◌, nat_le, if◌then◌else◌, List, length, Option, Some, None}
use Rattle.std.specs.List.{list_all}
use Rattle.std.specs.Char.{is_ascii_digit}
use Rattle.std.specs.Str.Parse.{digits_value}

-- the number that one or more digits spell, where it is at most the most
abbrev pub numeral_up_to : ℕ → List ℕ → Option ℕ
numeral_up_to most text =
    if nat_le 1 (length text) && list_all is_ascii_digit text && nat_le (digits_value 10 text) most
    then Some (digits_value 10 text) else None
