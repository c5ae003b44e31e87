-- What may be the type of an event.
use Rattle.std.specs.Prelude.{ℕ, Bool, ◌&&◌, ◌||◌, not, nat_le, ◌==◌, nat_eq, List, [], ◌∷◌, ◌++◌, length, drop}
use Rattle.std.specs.List.{list_all}
use Rattle.std.specs.Cmp.Lexicographic.{pointwise}
use lib.ListN.{replicate}

-- an ASCII letter, a digit, `_`, `-` or `.`
abbrev pub is_type_byte : ℕ → Bool
is_type_byte b = (nat_le 97 b && nat_le b 122) || (nat_le 65 b && nat_le b 90) || (nat_le 48 b && nat_le b 57) || (b == 95) || (b == 45) || (b == 46)

-- 1 to 64 such bytes, and not the two bytes `fi`, which begin the family of the field index
abbrev pub is_type_name : List ℕ → Bool
is_type_name bytes = nat_le 1 (length bytes) && nat_le (length bytes) 64 && not (pointwise nat_eq bytes (102 ∷ 105 ∷ [])) && list_all is_type_byte bytes

-- the bytes, and zeros up to 64
abbrev pub padded : List ℕ → List ℕ
padded xs = xs ++ drop (length xs) (replicate 64 0)
