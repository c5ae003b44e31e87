-- Addresses as they are written, and their normal form.
use Rattle.std.specs.Prelude.{ℕ, ◌==◌, Bool, ◌&&◌, nat_le, if◌then◌else◌, List, [], ◌∷◌, map, length, Option, Some, None}
use Rattle.std.specs.Char.{is_ascii_digit}
use Rattle.std.specs.List.{list_all, before_first, after_first, join_with_byte}
use Rattle.std.specs.Str.Parse.{digits_value}
use Rattle.dw_norm.specs.Digits.{decimal}

-- the point that parts groups
abbrev pub is_point : ℕ → Bool
is_point b = b == 46

-- what stands before the first point, before the second, before the third, and behind it
abbrev pub groups : List ℕ → List (List ℕ)
groups raw = before_first is_point raw ∷ before_first is_point (after_first is_point raw) ∷ before_first is_point (after_first is_point (after_first is_point raw)) ∷ after_first is_point (after_first is_point (after_first is_point raw)) ∷ []

-- 1 to 3 digits of a number up to 255
unfoldable pub is_group : List ℕ → Bool
is_group text = nat_le 1 (length text) && nat_le (length text) 3 && list_all is_ascii_digit text && nat_le (digits_value 10 text) 255

-- four such groups
unfoldable pub is_address : List ℕ → Bool
is_address raw = list_all is_group (groups raw)

-- the numbers of the four groups
unfoldable pub address_of : List ℕ → List ℕ
address_of raw = map (digits_value 10) (groups raw)

-- each group in three digits, parted by points
unfoldable pub norm_address : List ℕ → Option (List ℕ)
norm_address raw = if is_address raw then Some (join_with_byte 46 (map (decimal 3) (address_of raw))) else None
