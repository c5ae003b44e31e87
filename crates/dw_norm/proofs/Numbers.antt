-- Numbers that are written: their digits, their texts and their order.
use Rattle.std.proofs.Common.{◌≡◌, ℕ, zero, suc, ◌+◌, ◌-◌, ◌*◌, ◌^◌, ◌/◌, ◌%◌, ◌<◌, ◌≤◌, Bool, true, false, ◌&&◌, ◌||◌, not, cond, leb, eqb, List, [], ◌∷◌, ◌++◌, length, take, drop, replicate, get_or, Some, refl, sym, ap, ◌∙◌, subst, arith, inl, inr, length-append}
use Rattle.std.proofs.lemmas.List.{length-replicate}
use Rattle.std.specs.Prelude.{ℤ, pos, negsuc, neg_ℤ, nat_abs}
use Rattle.std.specs.Ordering.{nat_cmp, int_cmp}
use Rattle.std.specs.declared.cmp.Ordering.TheVariants.{Less, Equal, Greater}
use Rattle.std.specs.Cmp.{int_cmp_is}
use Rattle.std.specs.Cmp.Lexicographic.{slice_cmp}
use Rattle.std.specs.Char.{is_ascii_digit}
use Rattle.std.specs.List.{list_all, prefix_len}
use Rattle.std.proofs.Math.Nat as nat
use Rattle.std.proofs.lemmas.Int.{ints}
use Rattle.std.proofs.lemmas.Nat.{pow-add}
use Rattle.std.proofs.lemmas.Bool.{cases_lt, and_parts, leb-true, ne_eqb, eq-eqb}
use Rattle.std.proofs.lemmas.List.Folds.{list_all-append}
use Rattle.std.proofs.lemmas.Option.{cond_some}
use Rattle.std.specs.Str.Parse.{digits_value_after, digits_value}
use Rattle.dw_norm.specs.Digits.{decimal, is_fraction}
use Rattle.dw_norm.specs.Numbers.{sign_len, whole_part, fraction_part, decimals, is_number, magnitude, padded, number_of, nines, number_text, norm_number}
use Rattle.dw_norm.specs.Laws.{NumbersKeepOrder}
use Rattle.dw_norm.proofs.Runs.{numeral_after-append}
use Rattle.dw_norm.proofs.Orders.{below, above, level, nat_cmp-turned}
use Rattle.dw_norm.proofs.Decimals.{decimal-numeral, numeral_after-is, numeral-zeros, numeral-lt, slice_cmp-decimal, nines-decimal}

-- whole numbers compare as signed ones
nat_int : (m n : ℕ) → nat_cmp m n ≡ int_cmp (pos m) (pos n)
nat_int m n =
    elim (cases_lt m n) [
      | inl lt ↦ below m n lt ∙ int_cmp_is (pos m) (pos n) Less (omega (arith, ints))
      | inr ge ↦ elim (cases_lt n m) [
        | inl gt ↦ above m n gt ∙ int_cmp_is (pos m) (pos n) Greater (omega (arith, ints))
        | inr le ↦ let e : m ≡ n = omega arith in level m n e ∙ int_cmp_is (pos m) (pos n) Equal (ap pos e)
      ]
    ]

-- and those below zero the other way round
nat_negative : (j k : ℕ) → nat_cmp (suc k) (suc j) ≡ int_cmp (negsuc j) (negsuc k)
nat_negative j k =
    elim (cases_lt k j) [
      | inl lt ↦ below (suc k) (suc j) (omega arith) ∙ int_cmp_is (negsuc j) (negsuc k) Less (omega (arith, ints))
      | inr ge ↦ elim (cases_lt j k) [
        | inl gt ↦ above (suc k) (suc j) (omega arith) ∙ int_cmp_is (negsuc j) (negsuc k) Greater (omega (arith, ints))
        | inr le ↦ let e : j ≡ k = omega arith in level (suc k) (suc j) (omega arith) ∙ int_cmp_is (negsuc j) (negsuc k) Equal (ap negsuc e)
      ]
    ]

nines_order : (w m n : ℕ) → m < 10 ^ w → n < 10 ^ w → slice_cmp nat_cmp (nines (decimal w m)) (nines (decimal w n)) ≡ nat_cmp n m
nines_order w m n p q =
    (λ i. slice_cmp nat_cmp (nines-decimal w m p i) (nines-decimal w n q i))
    ∙ slice_cmp-decimal w (10 ^ w - 1 - m) (10 ^ w - 1 - n) (omega arith) (omega arith)
    ∙ nat_cmp-turned (10 ^ w - 1) m n (omega arith) (omega arith)

text_order : (z t : ℤ) → nat_abs z < 10 ^ 27 → nat_abs t < 10 ^ 27 → slice_cmp nat_cmp (number_text z) (number_text t) ≡ int_cmp z t
text_order (pos m) (pos n) p q = slice_cmp-decimal 27 m n p q ∙ nat_int m n
text_order (pos m) (negsuc k) p q = int_cmp_is (pos m) (negsuc k) Greater (omega (arith, ints))
text_order (negsuc j) (pos n) p q = int_cmp_is (negsuc j) (pos n) Less (omega (arith, ints))
text_order (negsuc j) (negsuc k) p q = nines_order 27 (suc j) (suc k) p q ∙ nat_negative j k

-- what a number that is written keeps
pub record IsWritten (whole behind : List ℕ) : Type 0 where
  pub whole_digits : list_all is_ascii_digit whole ≡ true
  pub digits_behind : list_all is_ascii_digit behind ≡ true
  pub whole_len : length whole ≤ 18
  pub len_behind : length behind ≤ 9

run_passes : (p : ℕ → Bool) (xs : List ℕ) → list_all p (take (prefix_len p xs) xs) ≡ true
run_passes p [] = refl
run_passes p (x ∷ xs) = by (run_passes p xs) (p x) refl
  where
    one_more : (n : ℕ) → 1 + n ≡ suc n
    one_more n = omega arith

    by : list_all p (take (prefix_len p xs) xs) ≡ true → (b : Bool) → p x ≡ b → list_all p (take (cond b (1 + prefix_len p xs) 0) (x ∷ xs)) ≡ true
    by rest true e = rw (one_more (prefix_len p xs)) (rw e rest)
    by rest false e = refl

fraction_digits : (f : List ℕ) → is_fraction f ≡ true → (list_all is_ascii_digit (drop 1 f) ≡ true) × (length (drop 1 f) ≤ 9)
fraction_digits [] h = (refl, omega arith)
fraction_digits (c ∷ cs) h =
    let some : eqb (length (c ∷ cs)) 0 ≡ false = ne_eqb (length (c ∷ cs)) 0 (λ (e : length (c ∷ cs) ≡ 0). omega arith) in
    let first = eqb c 46 && leb 2 (length (c ∷ cs)) && leb (length (c ∷ cs)) 10 in
    let parts = and_parts first (list_all is_ascii_digit cs) (ap (λ b. b || (first && list_all is_ascii_digit cs)) (sym some) ∙ h) in
    let count = and_parts (eqb c 46 && leb 2 (length (c ∷ cs))) (leb (length (c ∷ cs)) 10) parts.0 in
    let few = leb-true (length (c ∷ cs)) 10 count.1 in
    (parts.1, omega arith)

pub is_written : (raw : List ℕ) → is_number raw ≡ true → IsWritten (whole_part raw) (decimals raw)
unfolding is_number
is_written raw h =
    let parts = and_parts (leb 1 (length (whole_part raw)) && leb (length (whole_part raw)) 18) (is_fraction (fraction_part raw)) h in
    let count = and_parts (leb 1 (length (whole_part raw))) (leb (length (whole_part raw)) 18) parts.0 in
    let behind = fraction_digits (fraction_part raw) parts.1 in
    record {
      whole_digits = run_passes is_ascii_digit (drop (sign_len raw) raw);
      digits_behind = behind.0;
      whole_len = leb-true (length (whole_part raw)) 18 count.1;
      len_behind = behind.1;
    }

zeros_pass : (n : ℕ) → list_all is_ascii_digit (replicate n 48) ≡ true
zeros_pass zero = refl
zeros_pass (suc n) = zeros_pass n

padded_passes : (whole behind : List ℕ) → IsWritten whole behind → list_all is_ascii_digit (padded whole behind) ≡ true
padded_passes whole behind h =
    rw (
      list_all-append is_ascii_digit (replicate (18 - length whole) 48 ++ whole ++ behind) (replicate (9 - length behind) 48),
      list_all-append is_ascii_digit (replicate (18 - length whole) 48 ++ whole) behind,
      list_all-append is_ascii_digit (replicate (18 - length whole) 48) whole,
      zeros_pass (18 - length whole),
      zeros_pass (9 - length behind),
      h.whole_digits,
      h.digits_behind,
    ) refl

length-zeros : (n : ℕ) → length {A = ℕ} (replicate {A = ℕ} n 48) ≡ n
length-zeros n = length-replicate n 48

length-padded : (whole behind : List ℕ) → IsWritten whole behind → length (padded whole behind) ≡ 27
length-padded whole behind h =
    let a = length-append (replicate (18 - length whole) 48 ++ whole ++ behind) (replicate (9 - length behind) 48) in
    let b = length-append (replicate (18 - length whole) 48 ++ whole) behind in
    let c = length-append (replicate (18 - length whole) 48) whole in
    let d = length-zeros (18 - length whole) in
    let e = length-zeros (9 - length behind) in
    omega (arith, h.whole_len, h.len_behind)

numeral-padded : (whole behind : List ℕ) → IsWritten whole behind → digits_value 10 (padded whole behind) ≡ digits_value 10 whole * 10 ^ 9 + digits_value 10 behind * 10 ^ (9 - length behind)
numeral-padded whole behind h =
    numeral_after-append 0 (replicate (18 - length whole) 48 ++ whole ++ behind) (replicate (9 - length behind) 48)
    ∙ numeral-zeros (9 - length behind) (digits_value 10 (replicate (18 - length whole) 48 ++ whole ++ behind))
    ∙ ap (λ n. n * 10 ^ (9 - length behind)) (front whole behind)
    ∙ scaled (digits_value 10 whole) (digits_value 10 behind) (10 ^ length behind) (10 ^ (9 - length behind)) (10 ^ 9) power
  where
    power : 10 ^ 9 ≡ 10 ^ length behind * 10 ^ (9 - length behind)
    power = let e : length behind + (9 - length behind) ≡ 9 = omega (arith, h.len_behind) in ap (λ k. 10 ^ k) (sym e) ∙ pow-add 10 (length behind) (9 - length behind)

    none : (p : ℕ) → 0 * p ≡ 0
    none p = omega arith

    front : (whole behind : List ℕ) → digits_value 10 (replicate (18 - length whole) 48 ++ whole ++ behind) ≡ digits_value 10 whole * 10 ^ length behind + digits_value 10 behind
    front whole behind =
        numeral_after-append 0 (replicate (18 - length whole) 48 ++ whole) behind
        ∙ ap (λ n. digits_value_after 10 n behind) (numeral_after-append 0 (replicate (18 - length whole) 48) whole ∙ ap (λ n. digits_value_after 10 n whole) (numeral-zeros (18 - length whole) 0 ∙ none (10 ^ (18 - length whole))))
        ∙ numeral_after-is (digits_value 10 whole) behind

    scaled : (w b p q r : ℕ) → r ≡ p * q → (w * p + b) * q ≡ w * r + b * q
    scaled w b p q r e = rw e (grind arith)

-- the 27 digits of the magnitude are those that are written, between zeros
pub decimal-magnitude : (raw : List ℕ) → is_number raw ≡ true → decimal 27 (magnitude raw) ≡ padded (whole_part raw) (decimals raw)
unfolding magnitude
decimal-magnitude raw e =
    let h = is_written raw e in
    (λ i. decimal (sym (length-padded (whole_part raw) (decimals raw) h) i) (sym (numeral-padded (whole_part raw) (decimals raw) h) i))
    ∙ decimal-numeral (padded (whole_part raw) (decimals raw)) (padded_passes (whole_part raw) (decimals raw) h)

pub magnitude-lt : (raw : List ℕ) → is_number raw ≡ true → magnitude raw < 10 ^ 27
unfolding magnitude
magnitude-lt raw e =
    let h = is_written raw e in
    let P : ℕ → Type 0 = λ w. digits_value 10 (padded (whole_part raw) (decimals raw)) < 10 ^ w in
    let Q : ℕ → Type 0 = λ m. m < 10 ^ 27 in
    subst Q (numeral-padded (whole_part raw) (decimals raw) h) (subst P (length-padded (whole_part raw) (decimals raw) h) (numeral-lt (padded (whole_part raw) (decimals raw)) (padded_passes (whole_part raw) (decimals raw) h)))

abs_of : (raw : List ℕ) → nat_abs (number_of raw) ≡ magnitude raw
abs_of raw = by (eqb (get_or raw 0 0) 45) (magnitude raw)
  where
    by : (b : Bool) (m : ℕ) → nat_abs (cond b (neg_ℤ (pos m)) (pos m)) ≡ m
    by true zero = refl
    by true (suc m) = refl
    by false m = refl

read_number : (raw x : List ℕ) → norm_number raw ≡ Some x → (is_number raw ≡ true) × (number_text (number_of raw) ≡ x)
unfolding norm_number
read_number raw x e = cond_some (is_number raw) (number_text (number_of raw)) x e

fits_27 : (raw : List ℕ) → is_number raw ≡ true → nat_abs (number_of raw) < 10 ^ 27
fits_27 raw e = let Q : ℕ → Type 0 = λ m. m < 10 ^ 27 in subst Q (sym (abs_of raw)) (magnitude-lt raw e)

pub slice_cmp-numbers : NumbersKeepOrder
slice_cmp-numbers a b x y h k =
    let p = read_number a x h in
    let q = read_number b y k in
    (λ i. slice_cmp nat_cmp (sym p.1 i) (sym q.1 i)) ∙ text_order (number_of a) (number_of b) (fits_27 a p.0) (fits_27 b q.0)

zeros-decimal : (w m : ℕ) → m < 10 ^ w → list_all (λ d. eqb d 48) (decimal w m) ≡ eqb m 0
unfolding decimal
zeros-decimal zero m p = sym (eq-eqb m 0 (omega arith))
zeros-decimal (suc w) m p =
    let power = nat.pow-suc 10 w in
    let fits : m / 10 < 10 ^ w = omega arith in
    list_all-append (λ d. eqb d 48) (decimal w (m / 10)) ((48 + m % 10) ∷ [])
    ∙ ap (λ b. b && (eqb (48 + m % 10) 48 && true)) (zeros-decimal w (m / 10) fits)
    ∙ both m
  where
    both : (m : ℕ) → (eqb (m / 10) 0 && (eqb (48 + m % 10) 48 && true)) ≡ eqb m 0
    both m = grind arith

-- the text of a number by its sign and its digits
pub number_text-is : (raw : List ℕ) → is_number raw ≡ true → number_text (number_of raw) ≡ cond (eqb (get_or raw 0 0) 45 && not (list_all (λ d. eqb d 48) (decimal 27 (magnitude raw)))) (33 ∷ nines (decimal 27 (magnitude raw))) (43 ∷ decimal 27 (magnitude raw))
number_text-is raw e =
    by (eqb (get_or raw 0 0) 45) (magnitude raw)
    ∙ ap (λ z. cond (eqb (get_or raw 0 0) 45 && not z) (33 ∷ nines (decimal 27 (magnitude raw))) (43 ∷ decimal 27 (magnitude raw))) (sym (zeros-decimal 27 (magnitude raw) (magnitude-lt raw e)))
  where
    by : (b : Bool) (m : ℕ) → number_text (cond b (neg_ℤ (pos m)) (pos m)) ≡ cond (b && not (eqb m 0)) (33 ∷ nines (decimal 27 m)) (43 ∷ decimal 27 m)
    by false m = refl
    by true zero = refl
    by true (suc m) = ap (λ b. cond (not b) (33 ∷ nines (decimal 27 (suc m))) (43 ∷ decimal 27 (suc m))) (sym (ne_eqb (suc m) 0 (λ (e : suc m ≡ 0). omega arith)))

pub whole_few : (raw : List ℕ) → is_number raw ≡ true → length (whole_part raw) ≤ 18
whole_few raw e = (is_written raw e).whole_len

pub few_behind : (raw : List ℕ) → is_number raw ≡ true → length (decimals raw) ≤ 9
few_behind raw e = (is_written raw e).len_behind

pub magnitude_padded : (raw ds : List ℕ) → is_number raw ≡ true → ds ≡ padded (whole_part raw) (decimals raw) → ds ≡ decimal 27 (magnitude raw)
magnitude_padded raw ds e d = d ∙ sym (decimal-magnitude raw e)

pub digits_padded : (raw ds : List ℕ) → is_number raw ≡ true → ds ≡ padded (whole_part raw) (decimals raw) → list_all is_ascii_digit ds ≡ true
digits_padded raw ds e d = ap (list_all is_ascii_digit) d ∙ padded_passes (whole_part raw) (decimals raw) (is_written raw e)

pub signed_is : (raw ds : List ℕ) (b : Bool) → is_number raw ≡ true → ds ≡ decimal 27 (magnitude raw) → b ≡ (eqb (get_or raw 0 0) 45 && not (list_all (λ d. eqb d 48) ds)) → cond b (33 ∷ nines ds) (43 ∷ ds) ≡ number_text (number_of raw)
signed_is raw ds b e d f =
    (λ i. cond (f i) (33 ∷ nines ds) (43 ∷ ds))
    ∙ (λ i. cond (eqb (get_or raw 0 0) 45 && not (list_all (λ n. eqb n 48) (d i))) (33 ∷ nines (d i)) (43 ∷ d i))
    ∙ sym (number_text-is raw e)
