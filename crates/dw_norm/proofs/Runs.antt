-- Runs of bytes that pass a test, layouts and spelled numbers, one byte further on.
use Rattle.std.proofs.Common.{◌≡◌, ℕ, ◌+◌, ◌*◌, ◌<◌, ◌≤◌, Bool, true, false, cond, ◌&&◌, List, [], ◌∷◌, ◌++◌, length, take, drop, get_or, refl, ap, ◌∙◌}
use Rattle.std.specs.List.{prefix_len}
use Rattle.std.specs.Cmp.Lexicographic.{pointwise}
use Rattle.std.proofs.Common.{arith}
use Rattle.std.proofs.lemmas.Int.Digits.{digits_value_more}
use Rattle.std.proofs.lemmas.List.{drop_more, drop_all}
use Rattle.std.specs.Char.{digit_value}
use Rattle.std.specs.Str.Parse.{digits_value_after, digits_value}

pub run_ends : (p : ℕ → Bool) (xs : List ℕ) (i : ℕ) → i < length xs → p (get_or xs i 0) ≡ false → prefix_len p (drop i xs) ≡ 0
run_ends p xs i h e = ap (prefix_len p) (drop_more xs i 0 h) ∙ ap (λ b. cond b (1 + prefix_len p (drop (i + 1) xs)) 0) e

pub run_goes_on : (p : ℕ → Bool) (xs : List ℕ) (i : ℕ) → i < length xs → p (get_or xs i 0) ≡ true → prefix_len p (drop i xs) ≡ 1 + prefix_len p (drop (i + 1) xs)
run_goes_on p xs i h e = ap (prefix_len p) (drop_more xs i 0 h) ∙ ap (λ b. cond b (1 + prefix_len p (drop (i + 1) xs)) 0) e

-- both lists lose their first element, which decides unless it passes
pub pair_by_pair : (E : ℕ → ℕ → Bool) (xs ys : List ℕ) (i : ℕ) → i < length xs → i < length ys → pointwise E (drop i xs) (drop i ys) ≡ (E (get_or xs i 0) (get_or ys i 0) && pointwise E (drop (i + 1) xs) (drop (i + 1) ys))
pair_by_pair E xs ys i h k = λ j. pointwise E (drop_more xs i 0 h j) (drop_more ys i 0 k j)

pub pair_fails : (E : ℕ → ℕ → Bool) (xs ys : List ℕ) (i : ℕ) → i < length xs → i < length ys → E (get_or xs i 0) (get_or ys i 0) ≡ false → pointwise E (drop i xs) (drop i ys) ≡ false
pair_fails E xs ys i h k e = pair_by_pair E xs ys i h k ∙ ap (λ b. b && pointwise E (drop (i + 1) xs) (drop (i + 1) ys)) e

pub pair_passes : (E : ℕ → ℕ → Bool) (xs ys : List ℕ) (i : ℕ) → i < length xs → i < length ys → E (get_or xs i 0) (get_or ys i 0) ≡ true → pointwise E (drop i xs) (drop i ys) ≡ pointwise E (drop (i + 1) xs) (drop (i + 1) ys)
pair_passes E xs ys i h k e = pair_by_pair E xs ys i h k ∙ ap (λ b. b && pointwise E (drop (i + 1) xs) (drop (i + 1) ys)) e

pub pairs_end : (E : ℕ → ℕ → Bool) (xs ys : List ℕ) (i : ℕ) → length xs ≤ i → length ys ≤ i → pointwise E (drop i xs) (drop i ys) ≡ true
pairs_end E xs ys i h k = λ j. pointwise E (drop_all i xs h j) (drop_all i ys k j)

pub numeral_after-append : (n : ℕ) (xs ys : List ℕ) → digits_value_after 10 n (xs ++ ys) ≡ digits_value_after 10 (digits_value_after 10 n xs) ys
numeral_after-append n [] ys = refl
numeral_after-append n (x ∷ xs) ys = numeral_after-append (n * 10 + digit_value x) xs ys

pub numeral_more : (xs : List ℕ) (i : ℕ) → i < length xs → digits_value 10 (take (i + 1) xs) ≡ 10 * digits_value 10 (take i xs) + digit_value (get_or xs i 0)
numeral_more xs i h = omega (arith, digits_value_more 10 xs i h)
