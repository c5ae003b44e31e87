-- Decimal digits, as bytes of a text; 48 is the code of the digit 0.
use Rattle.std.specs.Prelude.{ℕ, zero, suc, ◌+◌, ◌/◌, ◌%◌, ◌==◌, Bool, ◌&&◌, ◌||◌, nat_le, if◌then◌else◌, List, [], ◌∷◌, ◌++◌, length, drop, slice_index}
use Rattle.std.specs.Char.{is_ascii_digit}
use Rattle.std.specs.List.{list_all}
use Rattle.std.specs.Cmp.Lexicographic.{pointwise}

-- the lowest so many digits of a number, the highest of them first
unfoldable pub decimal : ℕ → ℕ → List ℕ
decimal zero n = []
decimal (suc width) n = decimal width (n / 10) ++ (48 + n % 10) ∷ []

-- what may stand at a place of a layout: any digit where the layout has a 0, and else the byte that it has
abbrev pub fits : ℕ → ℕ → Bool
fits place byte = if place == 48 then is_ascii_digit byte else (place == byte)

-- as long as the layout, and each byte fits its place
abbrev pub has_layout : List ℕ → List ℕ → Bool
has_layout layout text = pointwise fits layout text

-- nothing, or a point and 1 to 9 digits; 46 is the point
abbrev pub is_fraction : List ℕ → Bool
is_fraction text = (length text == 0) || ((slice_index text 0 == 46) && nat_le 2 (length text) && nat_le (length text) 10 && list_all is_ascii_digit (drop 1 text))
