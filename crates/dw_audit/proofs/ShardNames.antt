-- On the names of shards.
use Rattle.std.proofs.Common.{◌≡◌, ◌<◌, ◌+◌, ◌-◌, ◌==◌, ◌&&◌, ◌++◌, ℕ, zero, suc, Bool, true, false, nat_le, List, [], ◌∷◌, length, take, drop, decimal, refl, sym, ap, ◌∙◌, arith}
use Rattle.std.specs.Char.{is_ascii_digit}
use Rattle.std.specs.Fmt.{digits}
use Rattle.std.proofs.lemmas.Fmt.{decimal_digit}
use Rattle.std.specs.List.{list_all}
use Rattle.std.proofs.lemmas.Bool.Decides.{nat_tests}
use Rattle.std.proofs.lemmas.List.{take-append-drop}
use Rattle.std.proofs.Math.Seq.{drop-append_seam}
use Rattle.std.specs.Str.{is_utf8}
use Rattle.std.specs.Prelude.{slice_index, Some, None, if◌then◌else◌}
use Rattle.std.specs.Option.{is_some}
use Rattle.std.proofs.lemmas.Str.{IsUtf8-from_ascii, is_utf8-from_IsUtf8}
use Rattle.dw_base.specs.Days.{names_day, day_digits, is_dashed, without_dashes}
use Rattle.dw_derive.specs.Lawful.{IsShardOf}
use Rattle.dw_derive.proofs.Shards.{left, right}
use Rattle.dw_audit.specs.WorldOf.{is_shard_end, is_shard}
use Rattle.dw_audit.proofs.Passing.{both}

-- ---- the numbers 0 to 15

two_digits : (n : ℕ) → n < 6 → decimal (10 + n) ≡ 49 ∷ (48 + n) ∷ []
unfolding digits
two_digits zero h = refl
two_digits (suc zero) h = refl
two_digits (suc (suc zero)) h = refl
two_digits (suc (suc (suc zero))) h = refl
two_digits (suc (suc (suc (suc zero)))) h = refl
two_digits (suc (suc (suc (suc (suc zero))))) h = refl
two_digits (suc (suc (suc (suc (suc (suc n)))))) h = absurd (omega arith)

digit_range : (d : ℕ) → is_ascii_digit d ≡ true → (d - 48 < 10) × (48 + (d - 48) ≡ d)
digit_range d h =
    let low : 48 < d + 1 = grind (arith, nat_tests) in
    let high : d < 58 = grind (arith, nat_tests) in
    (omega (arith, low, high), omega (arith, low))

few_range : (d : ℕ) → (nat_le 48 d && nat_le d 53) ≡ true → (d - 48 < 6) × (48 + (d - 48) ≡ d)
few_range d h =
    let low : 48 < d + 1 = grind (arith, nat_tests) in
    let high : d < 54 = grind (arith, nat_tests) in
    (omega (arith, low, high), omega (arith, low))

is_it : (n m : ℕ) → (n == m) ≡ true → n ≡ m
is_it n m h = grind (arith, nat_tests)

-- ---- what ends the name of a shard

abbrev pub EndsWith : List ℕ → ℕ → Type 0
EndsWith text n = (n < 16) × (text ≡ 95 ∷ decimal n)

pub end_is : (text : List ℕ) → is_shard_end text ≡ true → (n : ℕ) × EndsWith text n
end_is [] h = cc
end_is (b ∷ []) h = let no : false ≡ true = right (b == 95) false h in cc
end_is (b ∷ d ∷ []) h =
    let mark : b ≡ 95 = is_it b 95 (left (b == 95) (is_ascii_digit d) h) in
    let range = digit_range d (right (b == 95) (is_ascii_digit d) h) in
    (d - 48, (let r = range.0 in omega (arith, r), (λ i. mark i ∷ sym range.1 i ∷ []) ∙ ap (λ ds. 95 ∷ ds) (sym (decimal_digit (d - 48) range.0))))
end_is (b ∷ t ∷ d ∷ []) h =
    let mark : b ≡ 95 = is_it b 95 (left (b == 95) ((t == 49) && nat_le 48 d && nat_le d 53) h) in
    let rest : ((t == 49) && nat_le 48 d && nat_le d 53) ≡ true = right (b == 95) ((t == 49) && nat_le 48 d && nat_le d 53) h in
    let ten : t ≡ 49 = is_it t 49 (left (t == 49) (nat_le 48 d) (left ((t == 49) && nat_le 48 d) (nat_le d 53) rest)) in
    let low : nat_le 48 d ≡ true = right (t == 49) (nat_le 48 d) (left ((t == 49) && nat_le 48 d) (nat_le d 53) rest) in
    let high : nat_le d 53 ≡ true = right ((t == 49) && nat_le 48 d) (nat_le d 53) rest in
    let range = few_range d (both (nat_le 48 d) (nat_le d 53) low high) in
    (10 + (d - 48), (let r = range.0 in omega (arith, r), (λ i. mark i ∷ ten i ∷ sym range.1 i ∷ []) ∙ ap (λ ds. 95 ∷ ds) (sym (two_digits (d - 48) range.0))))
end_is (b ∷ t ∷ d ∷ e ∷ more) h = let no : false ≡ true = right (b == 95) false h in cc

ends : (n : ℕ) → n < 16 → is_shard_end (95 ∷ decimal n) ≡ true
unfolding digits
ends zero h = refl
ends (suc zero) h = refl
ends (suc (suc zero)) h = refl
ends (suc (suc (suc zero))) h = refl
ends (suc (suc (suc (suc zero)))) h = refl
ends (suc (suc (suc (suc (suc zero))))) h = refl
ends (suc (suc (suc (suc (suc (suc zero)))))) h = refl
ends (suc (suc (suc (suc (suc (suc (suc zero))))))) h = refl
ends (suc (suc (suc (suc (suc (suc (suc (suc zero)))))))) h = refl
ends (suc (suc (suc (suc (suc (suc (suc (suc (suc zero))))))))) h = refl
ends (suc (suc (suc (suc (suc (suc (suc (suc (suc (suc zero)))))))))) h = refl
ends (suc (suc (suc (suc (suc (suc (suc (suc (suc (suc (suc zero))))))))))) h = refl
ends (suc (suc (suc (suc (suc (suc (suc (suc (suc (suc (suc (suc zero)))))))))))) h = refl
ends (suc (suc (suc (suc (suc (suc (suc (suc (suc (suc (suc (suc (suc zero))))))))))))) h = refl
ends (suc (suc (suc (suc (suc (suc (suc (suc (suc (suc (suc (suc (suc (suc zero)))))))))))))) h = refl
ends (suc (suc (suc (suc (suc (suc (suc (suc (suc (suc (suc (suc (suc (suc (suc zero))))))))))))))) h = refl
ends (suc (suc (suc (suc (suc (suc (suc (suc (suc (suc (suc (suc (suc (suc (suc (suc n)))))))))))))))) h = absurd (omega arith)

-- ---- the names of shards

-- such a name has the digits of its day in front, and its number behind `_`
pub shard_is : (shard : List ℕ) → is_shard shard ≡ true → (n : ℕ) × IsShardOf shard n
shard_is shard h =
    let end : (n : ℕ) × EndsWith (drop 8 shard) n = end_is (drop 8 shard) (left (is_shard_end (drop 8 shard)) (names_day (take 8 shard)) h) in
    (end.0, record { below = end.1.0; spelled = sym (take-append-drop 8 shard) ∙ ap (λ xs. take 8 shard ++ xs) end.1.1 })

pub shard_day : (shard : List ℕ) → is_shard shard ≡ true → names_day (take 8 shard) ≡ true
shard_day shard h = right (is_shard_end (drop 8 shard)) (names_day (take 8 shard)) h

eight : (date : List ℕ) → names_day date ≡ true → length date ≡ 8
eight date h = is_it (length date) 8 (left (length date == 8) (list_all is_ascii_digit date) (left ((length date == 8) && list_all is_ascii_digit date) _ h))

behind : (shard rest : List ℕ) → length (take 8 shard) ≡ 8 → shard ≡ take 8 shard ++ rest → drop 8 shard ≡ rest
behind shard rest len e = ap (drop 8) e ∙ ap (λ n. drop n (take 8 shard ++ rest)) (sym len) ∙ drop-append_seam (take 8 shard) rest

pub is_shard_of : (shard : List ℕ) (n : ℕ) → IsShardOf shard n → names_day (take 8 shard) ≡ true → is_shard shard ≡ true
is_shard_of shard n h day =
    both (is_shard_end (drop 8 shard)) (names_day (take 8 shard))
    (ap is_shard_end (behind shard (95 ∷ decimal n) (eight (take 8 shard) day) h.spelled) ∙ ends n h.below) day

-- ---- days

digits_small : (ds : List ℕ) → list_all is_ascii_digit ds ≡ true → (i : ℕ) → slice_index ds i < 128
digits_small [] h i = omega arith
digits_small (d ∷ ds) h zero = small (left (is_ascii_digit d) (list_all is_ascii_digit ds) h)
  where
    small : is_ascii_digit d ≡ true → d < 128
    small t = grind (arith, nat_tests)
digits_small (d ∷ ds) h (suc i) = digits_small ds (right (is_ascii_digit d) (list_all is_ascii_digit ds) h) i

day_is_text : (date : List ℕ) → names_day date ≡ true → is_utf8 date ≡ true
day_is_text date h =
    is_utf8-from_IsUtf8 date (IsUtf8-from_ascii date (digits_small date (right (length date == 8) (list_all is_ascii_digit date) (left ((length date == 8) && list_all is_ascii_digit date) _ h))))

-- what is no text names no day
pub no_day : (date : List ℕ) → is_utf8 date ≡ false → false ≡ names_day date
no_day date h = at (names_day date) refl
  where
    at : (b : Bool) → names_day date ≡ b → false ≡ b
    at true e = cc (h, day_is_text date e)
    at false e = refl

-- eight bytes are read as a day exactly where they name one
pub day_read : (date : List ℕ) → length date ≡ 8 → is_some (day_digits date) ≡ names_day date
day_read date len =
    ap (λ b. let digits = if b then without_dashes date else date in is_some (if names_day digits then Some digits else None)) (not_dashed (is_dashed date) refl)
    ∙ at (names_day date)
  where
    other : (length date == 10) ≡ false
    other = grind (arith, nat_tests)

    not_dashed : (b : Bool) → is_dashed date ≡ b → b ≡ false
    not_dashed true e = cc (other, left (length date == 10) _ (left _ _ e))
    not_dashed false e = refl

    at : (b : Bool) → is_some (if b then Some date else None) ≡ b
    at true = refl
    at false = refl
