-- A type's name is a text.
use Rattle.std.proofs.Common.{◌≡◌, ℕ, zero, suc, ◌<◌, List, [], ◌∷◌, Bool, true, false, ◌&&◌, refl, IsUtf8, IsAscii, arith, lit<}
use Rattle.std.specs.List.{list_all}
use Rattle.std.proofs.lemmas.Bool.Decides.{nat_tests}
use Rattle.std.proofs.lemmas.Str.{IsUtf8-from_ascii}
use Rattle.dw_key.specs.TypeName.{is_type_byte, is_type_name}

and_left : (a b : Bool) → (a && b) ≡ true → a ≡ true
and_left true b h = refl
and_left false b h = h

and_right : (a b : Bool) → (a && b) ≡ true → b ≡ true
and_right true b h = h
and_right false b h = cc

type_byte : (b : ℕ) → is_type_byte b ≡ true → b < 128
type_byte b h = grind (arith, nat_tests)

ascii : (bytes : List ℕ) → list_all is_type_byte bytes ≡ true → IsAscii bytes
ascii [] h i = lit< tt
ascii (b ∷ bs) h zero = type_byte b (and_left (is_type_byte b) (list_all is_type_byte bs) h)
ascii (b ∷ bs) h (suc i) = ascii bs (and_right (is_type_byte b) (list_all is_type_byte bs) h) i

pub IsUtf8-type : (bytes : List ℕ) → is_type_name bytes ≡ true → IsUtf8 bytes
IsUtf8-type bytes h = IsUtf8-from_ascii bytes (ascii bytes (and_right _ (list_all is_type_byte bytes) h))
