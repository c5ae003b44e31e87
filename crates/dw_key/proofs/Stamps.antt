-- Numbers in 8 bytes, the highest first: they compare as the numbers do, and 8 bytes are those of one number.
use Rattle.std.proofs.Common.{◌≡◌, ℕ, zero, suc, ◌-◌, ◌/◌, ◌%◌, ◌^◌, ◌<◌, List, length, get_or, refl, sym, ap, ◌∙◌, arith, inl, inr}
use Rattle.std.specs.Ordering.{nat_cmp, ordering_then}
use Rattle.std.specs.declared.cmp.Ordering.{Ordering}
use Rattle.std.specs.declared.cmp.Ordering.TheVariants.{Less, Equal, Greater}
use Rattle.std.specs.Cmp.{nat_cmp_is}
use Rattle.std.specs.Cmp.Lexicographic.{slice_cmp}
use Rattle.std.specs.Int.{w64, from_be_bytes, to_be_bytes, byte_at, bytes_high_first}
use Rattle.std.proofs.Math.Nat as nat
use Rattle.std.proofs.lemmas.Bool.{cases_lt}
use Rattle.std.proofs.lemmas.Nat.{from_be_bytes-to_be_bytes_8, be_bytes_8}
use Rattle.dw_key.specs.KeyCode.{stamp_code}
use Rattle.dw_key.proofs.Escapes.{ordering_then-assoc}

then_Equal : (a : Ordering) → ordering_then a Equal ≡ a
then_Equal Less = refl
then_Equal Equal = refl
then_Equal Greater = refl

below : (a b : ℕ) → a < b → nat_cmp a b ≡ Less
below a b lt = sym (nat_cmp_is a b Less lt)

above : (a b : ℕ) → b < a → nat_cmp a b ≡ Greater
above a b gt = sym (nat_cmp_is a b Greater gt)

level : (a b : ℕ) → a ≡ b → nat_cmp a b ≡ Equal
level a b e = sym (nat_cmp_is a b Equal e)

-- a number in base 256: its higher digits decide, and then the lowest
digits : (m n : ℕ) → ordering_then (nat_cmp (m / 256) (n / 256)) (nat_cmp (m % 256) (n % 256)) ≡ nat_cmp m n
digits m n =
    elim (cases_lt (m / 256) (n / 256)) [
      | inl lt ↦ rw (below (m / 256) (n / 256) lt, below m n (omega arith)) refl
      | inr ge ↦ elim (cases_lt (n / 256) (m / 256)) [
        | inl gt ↦ rw (above (m / 256) (n / 256) gt, above m n (omega arith)) refl
        | inr le ↦
            let same : m / 256 ≡ n / 256 = omega arith in
            rw (level (m / 256) (n / 256) same) (elim (cases_lt (m % 256) (n % 256)) [
              | inl low ↦ rw (below (m % 256) (n % 256) low, below m n (omega arith)) refl
              | inr high ↦ elim (cases_lt (n % 256) (m % 256)) [
                | inl gt ↦ rw (above (m % 256) (n % 256) gt, above m n (omega arith)) refl
                | inr not_gt ↦ rw (level (m % 256) (n % 256) (omega arith), level m n (omega arith)) refl
              ]
            ])
      ]
    ]

byte_at-div : (k n : ℕ) → byte_at k n ≡ n / 256 ^ k % 256
byte_at-div zero n = let whole : n / 1 ≡ n = omega arith in ap (λ q. q % 256) (sym whole)
byte_at-div (suc k) n = refl

higher : (k n : ℕ) → n / 256 ^ suc k ≡ n / 256 ^ k / 256
higher k n = ap (λ p. n / p) (nat.pow-suc 256 k) ∙ sym (nat.div-div-eq-div-mul n (256 ^ k) 256)

-- what is above the lowest k bytes decides, and then those k bytes
by_bytes : (k m n : ℕ) → ordering_then (nat_cmp (m / 256 ^ k) (n / 256 ^ k)) (slice_cmp nat_cmp (bytes_high_first k m) (bytes_high_first k n)) ≡ nat_cmp m n
by_bytes zero m n =
    let m_whole : m / 1 ≡ m = omega arith in
    let n_whole : n / 1 ≡ n = omega arith in
    then_Equal (nat_cmp (m / 1) (n / 1)) ∙ (λ i. nat_cmp (m_whole i) (n_whole i))
by_bytes (suc k) m n =
    let rest = slice_cmp nat_cmp (bytes_high_first k m) (bytes_high_first k n) in
    let high = nat_cmp (m / 256 ^ k / 256) (n / 256 ^ k / 256) in
    let low = nat_cmp (m / 256 ^ k % 256) (n / 256 ^ k % 256) in
    (λ i. ordering_then (nat_cmp (higher k m i) (higher k n i)) (ordering_then (nat_cmp (byte_at-div k m i) (byte_at-div k n i)) rest))
    ∙ sym (ordering_then-assoc high low rest)
    ∙ ap (λ o. ordering_then o rest) (digits (m / 256 ^ k) (n / 256 ^ k))
    ∙ by_bytes k m n

pub slice_cmp-numbers : (m n : ℕ) → m < 2 ^ 64 → n < 2 ^ 64 → slice_cmp nat_cmp (to_be_bytes w64 m) (to_be_bytes w64 n) ≡ nat_cmp m n
slice_cmp-numbers m n m_fits n_fits = rw (level (m / 256 ^ 8) (n / 256 ^ 8) (omega arith)) at (by_bytes 8 m n)

turned : (s t : ℕ) → s < 2 ^ 64 → t < 2 ^ 64 → nat_cmp (2 ^ 64 - 1 - s) (2 ^ 64 - 1 - t) ≡ nat_cmp t s
turned s t s_fits t_fits =
    elim (cases_lt s t) [
      | inl lt ↦ rw (above (2 ^ 64 - 1 - s) (2 ^ 64 - 1 - t) (omega arith), above t s lt) refl
      | inr ge ↦ elim (cases_lt t s) [
        | inl gt ↦ rw (below (2 ^ 64 - 1 - s) (2 ^ 64 - 1 - t) (omega arith), below t s gt) refl
        | inr le ↦ rw (level (2 ^ 64 - 1 - s) (2 ^ 64 - 1 - t) (omega arith), level t s (omega arith)) refl
      ]
    ]

-- the code of the larger stamp comes first
pub slice_cmp-stamps : (s t : ℕ) → s < 2 ^ 64 → t < 2 ^ 64 → slice_cmp nat_cmp (stamp_code s) (stamp_code t) ≡ nat_cmp t s
slice_cmp-stamps s t s_fits t_fits = slice_cmp-numbers (2 ^ 64 - 1 - s) (2 ^ 64 - 1 - t) (omega arith) (omega arith) ∙ turned s t s_fits t_fits

-- no two stamps share a code
pub same_stamp : (s t : ℕ) → s < 2 ^ 64 → t < 2 ^ 64 → stamp_code s ≡ stamp_code t → s ≡ t
same_stamp s t s_fits t_fits e =
    let a = from_be_bytes-to_be_bytes_8 (2 ^ 64 - 1 - s) (omega arith) in
    let b = from_be_bytes-to_be_bytes_8 (2 ^ 64 - 1 - t) (omega arith) in
    let same : 2 ^ 64 - 1 - s ≡ 2 ^ 64 - 1 - t = sym a ∙ ap (from_be_bytes w64) e ∙ b in
    omega arith

pub length-stamp_code : (s : ℕ) → length (stamp_code s) ≡ 8
length-stamp_code s = refl

-- 8 bytes are the code of a stamp
pub stamp_of : (bytes : List ℕ) → length bytes ≡ 8 → ((i : ℕ) → get_or bytes i 0 < 256) → (from_be_bytes w64 bytes < 2 ^ 64) × (bytes ≡ stamp_code (2 ^ 64 - 1 - from_be_bytes w64 bytes))
stamp_of bytes len fits =
    let small : from_be_bytes w64 bytes < 2 ^ 64 = omega (arith, fits 0, fits 1, fits 2, fits 3, fits 4, fits 5, fits 6, fits 7) in
    (small, sym (be_bytes_8 bytes _ len fits (omega arith)))
