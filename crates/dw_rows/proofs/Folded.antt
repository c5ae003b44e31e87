-- A name that is folded to upper case is a folded name.
use Rattle.std.proofs.Common.{◌≡◌, ℕ, suc, true, false, not, ◌&&◌, nat_le, List, [], ◌∷◌, length, refl, arith, ap, ◌∙◌}
use Rattle.std.specs.List.{list_all, list_any}
use Rattle.std.specs.Char.{is_ascii_digit, is_ascii_lowercase, to_ascii_uppercase}
use Rattle.std.specs.Str.{str_to_ascii_uppercase}
use Rattle.std.proofs.lemmas.Bool.{and_parts, and_from, or_from}
use Rattle.dw_base.specs.FieldNames.{is_word_byte, begins_with_digit, is_field_name, is_folded_name}

word_upper : (b : ℕ) → is_word_byte b ≡ true → is_word_byte (to_ascii_uppercase b) ≡ true
word_upper b h = grind arith

lower_upper : (b : ℕ) → is_ascii_lowercase (to_ascii_uppercase b) ≡ false
lower_upper b = grind arith

digit_upper : (b : ℕ) → is_ascii_digit (to_ascii_uppercase b) ≡ is_ascii_digit b
digit_upper b = grind arith

length_upper : (text : List ℕ) → length (str_to_ascii_uppercase text) ≡ length text
length_upper [] = refl
length_upper (b ∷ bs) = ap suc (length_upper bs)

first_upper : (text : List ℕ) → begins_with_digit (str_to_ascii_uppercase text) ≡ begins_with_digit text
first_upper [] = refl
first_upper (b ∷ bs) = digit_upper b

words_upper : (text : List ℕ) → list_all is_word_byte text ≡ true → list_all is_word_byte (str_to_ascii_uppercase text) ≡ true
words_upper [] h = refl
words_upper (b ∷ bs) h =
    let p = and_parts (is_word_byte b) (list_all is_word_byte bs) h in
    and_from (is_word_byte (to_ascii_uppercase b)) (list_all is_word_byte (str_to_ascii_uppercase bs)) (word_upper b p.0) (words_upper bs p.1)

none_lower : (text : List ℕ) → list_any is_ascii_lowercase (str_to_ascii_uppercase text) ≡ false
none_lower [] = refl
none_lower (b ∷ bs) = or_from (is_ascii_lowercase (to_ascii_uppercase b)) (list_any is_ascii_lowercase (str_to_ascii_uppercase bs)) (lower_upper b) (none_lower bs)

-- a name that is folded to upper case is a folded name
pub folded : (text : List ℕ) → is_field_name text ≡ true → is_folded_name (str_to_ascii_uppercase text) ≡ true
folded text h =
    let up : List ℕ = str_to_ascii_uppercase text in
    let a = and_parts (nat_le 1 (length text) && nat_le (length text) 64 && not (begins_with_digit text)) (list_all is_word_byte text) h in
    let b = and_parts (nat_le 1 (length text) && nat_le (length text) 64) (not (begins_with_digit text)) a.0 in
    and_from (is_field_name up) (not (list_any is_ascii_lowercase up))
    (and_from (nat_le 1 (length up) && nat_le (length up) 64 && not (begins_with_digit up)) (list_all is_word_byte up)
    (and_from (nat_le 1 (length up) && nat_le (length up) 64) (not (begins_with_digit up))
    (ap (λ n. nat_le 1 n && nat_le n 64) (length_upper text) ∙ b.0)
    (ap not (first_upper text) ∙ b.1))
    (words_upper text a.1))
    (ap not (none_lower text))
