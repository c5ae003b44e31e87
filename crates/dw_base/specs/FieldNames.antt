-- The names of fields.
use Rattle.std.specs.Prelude.{ℕ, Bool, false, ◌&&◌, ◌||◌, not, nat_le, ◌==◌, List, [], ◌∷◌, length}
use Rattle.std.specs.List.{list_all, list_any}
use Rattle.std.specs.Char.{is_ascii_digit, is_ascii_lowercase, is_ascii_uppercase}
use Rattle.dw_base.specs.declared.limits.TheConstants.{MAX_NAME}

-- an ASCII letter, a digit or `_`
abbrev pub is_word_byte : ℕ → Bool
is_word_byte b = is_ascii_lowercase b || is_ascii_uppercase b || is_ascii_digit b || (b == 95)

-- the text begins with a digit
abbrev pub begins_with_digit : List ℕ → Bool
begins_with_digit [] = false
begins_with_digit (b ∷ bs) = is_ascii_digit b

-- 1 to 64 ASCII letters, digits and `_`, of which the first is no digit
abbrev pub is_field_name : List ℕ → Bool
is_field_name text = nat_le 1 (length text) && nat_le (length text) MAX_NAME && not (begins_with_digit text) && list_all is_word_byte text

-- such a name as it is kept, with its letters folded to upper case
abbrev pub is_folded_name : List ℕ → Bool
is_folded_name text = is_field_name text && not (list_any is_ascii_lowercase text)
