-- The name of a field is a text, and short.
use Rattle.std.proofs.Common.{◌≡◌, ℕ, zero, suc, ◌<◌, List, [], ◌∷◌, length, nat_le, Bool, true, false, not, ◌&&◌, refl, IsAscii, arith, lit<}
use Rattle.std.specs.List.{list_all}
use Rattle.std.specs.Str.{is_utf8}
use Rattle.std.proofs.lemmas.Bool.{and_parts, lt-leb, both_ways, true≢false}
use Rattle.std.proofs.lemmas.Bool.Decides.{nat_tests}
use Rattle.std.proofs.lemmas.Str.{IsUtf8-from_ascii, is_utf8-from_IsUtf8}
use Rattle.dw_base.specs.FieldNames.{is_word_byte, begins_with_digit, is_field_name}

word_byte : (b : ℕ) → is_word_byte b ≡ true → b < 128
word_byte b h = grind (arith, nat_tests)

ascii : (bytes : List ℕ) → list_all is_word_byte bytes ≡ true → IsAscii bytes
ascii [] h i = lit< tt
ascii (b ∷ bs) h zero = word_byte b (and_parts (is_word_byte b) (list_all is_word_byte bs) h).0
ascii (b ∷ bs) h (suc i) = ascii bs (and_parts (is_word_byte b) (list_all is_word_byte bs) h).1 i

utf8_name : (bytes : List ℕ) → is_field_name bytes ≡ true → is_utf8 bytes ≡ true
utf8_name bytes h = is_utf8-from_IsUtf8 bytes (IsUtf8-from_ascii bytes (ascii bytes (and_parts _ (list_all is_word_byte bytes) h).1))

-- bytes that are no text are no name
pub is_text : (bytes : List ℕ) → is_utf8 bytes ≡ false → is_field_name bytes ≡ false
is_text bytes h = at (is_field_name bytes) refl
  where
    at : (b : Bool) → is_field_name bytes ≡ b → is_field_name bytes ≡ false
    at false e = e
    at true e = absurd (both_ways (is_utf8 bytes) h (utf8_name bytes e))

-- nor are more than 64 bytes
pub is_few : (bytes : List ℕ) → 64 < length bytes → is_field_name bytes ≡ false
is_few bytes h = long (nat_le 1 (length bytes)) (nat_le (length bytes) 64) (not (begins_with_digit bytes)) (list_all is_word_byte bytes) (lt-leb (length bytes) 64 h)
  where
    long : (a b c d : Bool) → b ≡ false → (a && b && c && d) ≡ false
    long true true c d e = absurd (true≢false e)
    long true false c d e = refl
    long false b c d e = refl
