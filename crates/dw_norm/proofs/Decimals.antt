-- Numbers in so many digits.
use Rattle.std.proofs.Common.{◌≡◌, ℕ, zero, suc, ◌+◌, ◌-◌, ◌*◌, ◌/◌, ◌%◌, ◌^◌, ◌<◌, ◌≤◌, true, List, [], ◌∷◌, ◌++◌, length, replicate, refl, sym, ap, ◌∙◌, arith, append_assoc, add-zero, add-suc, zero-add}
use Rattle.std.specs.Ordering.{nat_cmp, ordering_then}
use Rattle.std.specs.Char.{is_ascii_digit, digit_value}
use Rattle.std.specs.Str.Parse.{AllDigits, digits_value_after, digits_value}
use Rattle.std.specs.List.{list_all}
use Rattle.std.specs.Cmp.Lexicographic.{slice_cmp}
use Rattle.std.proofs.Math.Nat as nat
use Rattle.std.proofs.lemmas.Bool.{and_parts}
use Rattle.std.proofs.lemmas.Int.Digits.{digits_value-lt}
use Rattle.std.proofs.lemmas.Str.{digit_value_digit}
use Rattle.std.proofs.lemmas.List.{append-nil, length_push, map_push}
use Rattle.dw_norm.specs.Digits.{decimal}
use Rattle.dw_norm.specs.Numbers.{nines}
use Rattle.dw_norm.proofs.Orders.{level, then_Equal, nat_cmp-add, by_parts, slice_cmp-append}

pub length-decimal : (w n : ℕ) → length (decimal w n) ≡ w
unfolding decimal
length-decimal zero n = refl
length-decimal (suc w) n = length_push (decimal w (n / 10)) (48 + n % 10) ∙ omega (arith, length-decimal w (n / 10))

digit_bounds : (d : ℕ) → is_ascii_digit d ≡ true → (48 ≤ d) × (d ≤ 57)
digit_bounds d h = grind arith

pub digit_is : (d : ℕ) → is_ascii_digit d ≡ true → digit_value d + 48 ≡ d
digit_is d h = digit_value_digit d (digit_bounds d h)

-- the digits of a number that is spelled are those that spell it
pub decimal-numeral_after : (w n : ℕ) (ds : List ℕ) → list_all is_ascii_digit ds ≡ true → decimal (w + length ds) (digits_value_after 10 n ds) ≡ decimal w n ++ ds
unfolding decimal
decimal-numeral_after w n [] h = rw add-zero (sym (append-nil (decimal w n)))
decimal-numeral_after w n (d ∷ ds) h =
    let parts = and_parts (is_ascii_digit d) (list_all is_ascii_digit ds) h in
    let split = one_more n (digit_value d) d (digit_is d parts.0) (digit_bounds d parts.0).1 in
    ap (λ k. decimal k (digits_value_after 10 (n * 10 + digit_value d) ds)) (add-suc w (length ds) ∙ suc_first w (length ds))
    ∙ decimal-numeral_after (suc w) (n * 10 + digit_value d) ds parts.1
    ∙ (λ i. (decimal w (split.0 i) ++ split.1 i ∷ []) ++ ds)
    ∙ append_assoc (decimal w n) (d ∷ []) ds
  where
    suc_first : (a b : ℕ) → suc (a + b) ≡ suc a + b
    suc_first a b = omega arith

    one_more : (n v d : ℕ) → v + 48 ≡ d → d ≤ 57 → ((n * 10 + v) / 10 ≡ n) × (48 + (n * 10 + v) % 10 ≡ d)
    one_more n v d e h = (omega arith, omega arith)

pub decimal-numeral : (ds : List ℕ) → list_all is_ascii_digit ds ≡ true → decimal (length ds) (digits_value 10 ds) ≡ ds
unfolding decimal
decimal-numeral ds h = ap (λ w. decimal w (digits_value 10 ds)) (sym (zero-add (length ds))) ∙ decimal-numeral_after 0 0 ds h

pub numeral_after-is : (n : ℕ) (ds : List ℕ) → digits_value_after 10 n ds ≡ n * 10 ^ length ds + digits_value 10 ds
numeral_after-is n [] = omega arith
numeral_after-is n (d ∷ ds) =
    let all = numeral_after-is (n * 10 + digit_value d) ds in
    let own = numeral_after-is (0 * 10 + digit_value d) ds in
    let power = nat.pow-suc 10 (length ds) in
    split n (digit_value d) (10 ^ length ds) (10 ^ suc (length ds)) (digits_value 10 ds) (digits_value_after 10 (n * 10 + digit_value d) ds) (digits_value_after 10 (0 * 10 + digit_value d) ds) all own power
  where
    split : (n d p q s a b : ℕ) → a ≡ (n * 10 + d) * p + s → b ≡ (0 * 10 + d) * p + s → q ≡ p * 10 → a ≡ n * q + b
    split n d p q s a b e f g = rw g (omega arith)

pub numeral-zeros : (k n : ℕ) → digits_value_after 10 n (replicate k 48) ≡ n * 10 ^ k
numeral-zeros zero n = omega arith
numeral-zeros (suc k) n =
    let power = nat.pow-suc 10 k in
    let rest = numeral-zeros k (n * 10 + 0) in
    scaled n (10 ^ k) (10 ^ suc k) (digits_value_after 10 (n * 10 + 0) (replicate k 48)) rest power
  where
    scaled : (n p q a : ℕ) → a ≡ (n * 10 + 0) * p → q ≡ p * 10 → a ≡ n * q
    scaled n p q a e g = rw g (omega arith)

all_digits : (ds : List ℕ) → list_all is_ascii_digit ds ≡ true → AllDigits 10 ds
all_digits [] h = tt
all_digits (d ∷ ds) h =
    let parts = and_parts (is_ascii_digit d) (list_all is_ascii_digit ds) h in
    let small : digit_value d < 10 = omega (arith, digit_is d parts.0, (digit_bounds d parts.0).1) in
    (small, all_digits ds parts.1)

pub numeral-lt : (ds : List ℕ) → list_all is_ascii_digit ds ≡ true → digits_value 10 ds < 10 ^ length ds
numeral-lt ds h = digits_value-lt 10 ds (all_digits ds h)

-- numbers that fit their digits compare as the digits do
pub slice_cmp-decimal : (w m n : ℕ) → m < 10 ^ w → n < 10 ^ w → slice_cmp nat_cmp (decimal w m) (decimal w n) ≡ nat_cmp m n
unfolding decimal
slice_cmp-decimal zero m n p q = sym (level m n (omega arith))
slice_cmp-decimal (suc w) m n p q =
    let power = nat.pow-suc 10 w in
    let m_fits : m / 10 < 10 ^ w = omega arith in
    let n_fits : n / 10 < 10 ^ w = omega arith in
    slice_cmp-append (decimal w (m / 10)) (decimal w (n / 10)) ((48 + m % 10) ∷ []) ((48 + n % 10) ∷ []) (length-decimal w (m / 10) ∙ sym (length-decimal w (n / 10)))
    ∙ (λ i. ordering_then (slice_cmp-decimal w (m / 10) (n / 10) m_fits n_fits i) (last m n i))
    ∙ by_parts (m / 10) (n / 10) (m % 10) (n % 10) 10 (omega arith) (omega arith) m n (omega arith) (omega arith)
  where
    last : (m n : ℕ) → slice_cmp nat_cmp ((48 + m % 10) ∷ []) ((48 + n % 10) ∷ []) ≡ nat_cmp (m % 10) (n % 10)
    last m n = then_Equal (nat_cmp (48 + m % 10) (48 + n % 10)) ∙ nat_cmp-add 48 (m % 10) (n % 10)

-- the digits taken from 9 are those of the number taken from the largest
pub nines-decimal : (w m : ℕ) → m < 10 ^ w → nines (decimal w m) ≡ decimal w (10 ^ w - 1 - m)
unfolding decimal
nines-decimal zero m p = refl
nines-decimal (suc w) m p =
    let power = nat.pow-suc 10 w in
    let fits : m / 10 < 10 ^ w = omega arith in
    let high : (10 ^ suc w - 1 - m) / 10 ≡ 10 ^ w - 1 - m / 10 = omega arith in
    let low : 48 + (10 ^ suc w - 1 - m) % 10 ≡ 105 - (48 + m % 10) = omega arith in
    map_push (λ d. 105 - d) (decimal w (m / 10)) (48 + m % 10)
    ∙ (λ i. nines-decimal w (m / 10) fits i ++ sym low i ∷ [])
    ∙ (λ i. decimal w (sym high i) ++ (48 + (10 ^ suc w - 1 - m) % 10) ∷ [])
