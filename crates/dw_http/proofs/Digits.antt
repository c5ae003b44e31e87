-- Digits as text and as a number.
use Rattle.std.proofs.Common.{◌≡◌, ◌<◌, ◌≤◌, ◌^◌, ◌&&◌, ℕ, zero, suc, Bool, true, false, List, [], ◌∷◌, length, refl, arith}
use Rattle.std.specs.Prelude.{Result, Ok, Err, MatchResult, IsOk, IsUtf8}
use Rattle.std.specs.Str.{IsAscii, all_ascii_digits}
use Rattle.std.specs.Char.{is_ascii_digit}
use Rattle.std.specs.Str.Parse.{digits_value, ParsesUnsigned}
use Rattle.std.proofs.lemmas.Str.{IsUtf8-from_ascii}
use Rattle.std.proofs.lemmas.Str.Parse.{IsNumeralModel, numerals_by_value, tells_all_ascii_digits, parse_gives, digits_value_short}
use Rattle.std.proofs.lemmas.Bool.Decides.{nat_tests}
use Rattle.std.proofs.lemmas.Grind.{common_steps}

first_digit : (c : ℕ) (b : Bool) → (is_ascii_digit c && b) ≡ true → c < 128
first_digit c b e = grind (arith, nat_tests, common_steps)

other_digits : (c : ℕ) (b : Bool) → (is_ascii_digit c && b) ≡ true → b ≡ true
other_digits c true e = refl
other_digits c false e = grind (arith, nat_tests, common_steps)

ascii : (bs : List ℕ) → all_ascii_digits bs ≡ true → IsAscii bs
ascii [] e i = omega arith
ascii (c ∷ cs) e zero = first_digit c (all_ascii_digits cs) e
ascii (c ∷ cs) e (suc i) = ascii cs (other_digits c (all_ascii_digits cs) e) i

pub digits_text : (bs : List ℕ) → all_ascii_digits bs ≡ true → IsUtf8 bs
digits_text bs e = IsUtf8-from_ascii bs (ascii bs e)

pub ok_text : {T E : Type 0} (P : T → Type 0) (Q : E → Type 0) (bs : List ℕ) (r : Result T E) → MatchResult r P (λ e. ¬ (IsUtf8 bs) × Q e) → IsUtf8 bs → IsOk r
ok_text P Q bs (Ok x) h u = refl
ok_text P Q bs (Err e) h u = absurd (h.0 u)

own : IsNumeralModel (λ ds. all_ascii_digits ds ≡ true) (digits_value 10)
own = numerals_by_value (λ ds. all_ascii_digits ds ≡ true) tells_all_ascii_digits

pub digits_parse : {E : Type 0} (bs : List ℕ) (r : Result ℕ E) → ParsesUnsigned 64 10 bs r → all_ascii_digits bs ≡ true → 0 < length bs → length bs ≤ 19 → r ≡ Ok (digits_value 10 bs)
digits_parse bs r h digits some few = parse_gives own 64 bs r h digits some (let short : digits_value 10 bs < 10 ^ 19 = digits_value_short own bs 19 digits few in omega (arith, short))

pub is_ok_at : {T E : Type 0} (r : Result T E) (x : T) → r ≡ Ok x → IsOk r
is_ok_at (Ok y) x e = refl
is_ok_at (Err y) x e = absurd (cc)
