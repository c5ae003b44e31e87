-- On visibilities and names of shards.
use Rattle.std.proofs.Common.{◌≡◌, ℕ, ◌<◌, ◌≤◌, ◌==◌, ◌&&◌, zero, suc, true, List, [], ◌∷◌, ◌++◌, length, take, drop, get_or, sym, ap, subst, ◌∙◌, arith, drop-cons}
use Rattle.std.specs.Prelude.{nat_le, slice_index}
use Rattle.std.specs.List.{list_all}
use Rattle.std.specs.Str.{IsUtf8, IsAscii}
use Rattle.std.specs.Char.{is_ascii_digit}
use Rattle.std.proofs.lemmas.Bool.{and_parts, eqb-true}
use Rattle.std.proofs.lemmas.Bool.Decides.{nat_tests}
use Rattle.std.proofs.lemmas.List.{take-append-drop}
use Rattle.std.proofs.lemmas.Str.{IsUtf8-from_ascii, IsAscii-append}
use Rattle.dw_plan.specs.Hit.{is_shard_name}

-- the parts of a name of a shard
pub record IsName (s : List ℕ) : Type 0 where
  pub least : 10 ≤ length s
  pub day : list_all is_ascii_digit (take 8 s) ≡ true
  pub sign : slice_index s 8 ≡ 95
  pub number : list_all is_ascii_digit (drop 9 s) ≡ true

pub name_parts : (s : List ℕ) → is_shard_name s ≡ true → IsName s
name_parts s h =
    let a = and_parts (nat_le 10 (length s) && nat_le (length s) 11 && list_all is_ascii_digit (take 8 s) && (slice_index s 8 == 95)) (list_all is_ascii_digit (drop 9 s)) h in
    let b = and_parts (nat_le 10 (length s) && nat_le (length s) 11 && list_all is_ascii_digit (take 8 s)) (slice_index s 8 == 95) a.0 in
    let c = and_parts (nat_le 10 (length s) && nat_le (length s) 11) (list_all is_ascii_digit (take 8 s)) b.0 in
    let d = and_parts (nat_le 10 (length s)) (nat_le (length s) 11) c.0 in
    let e : nat_le 10 (length s) ≡ true = d.0 in
    record { least = grind (arith, nat_tests); day = c.1; sign = eqb-true (slice_index s 8) 95 b.1; number = a.1 }

digit_small : (b : ℕ) → is_ascii_digit b ≡ true → b < 128
digit_small b h = let p = and_parts (nat_le 48 b) (nat_le b 57) h in let q : nat_le b 57 ≡ true = p.1 in grind (arith, nat_tests)

digits_ascii : (xs : List ℕ) → list_all is_ascii_digit xs ≡ true → IsAscii xs
digits_ascii [] h = λ i. omega arith
digits_ascii (x ∷ xs) h =
    let p = and_parts (is_ascii_digit x) (list_all is_ascii_digit xs) h in
    at (digit_small x p.0) (digits_ascii xs p.1)
  where
    at : x < 128 → IsAscii xs → IsAscii (x ∷ xs)
    at small rest zero = small
    at small rest (suc i) = rest i

one_ascii : (b : ℕ) (xs : List ℕ) → b < 128 → IsAscii xs → IsAscii (b ∷ xs)
one_ascii b xs small rest zero = small
one_ascii b xs small rest (suc i) = rest i

-- it is ASCII, so UTF-8
pub name_utf8 : (s : List ℕ) → is_shard_name s ≡ true → IsUtf8 s
name_utf8 s h =
    let n = name_parts s h in
    let least = n.least in
    let sign = n.sign in
    let behind : drop 8 s ≡ get_or s 8 0 ∷ drop 9 s = drop-cons s 8 0 (omega arith) in
    let all : IsAscii (take 8 s ++ get_or s 8 0 ∷ drop 9 s) = IsAscii-append (take 8 s) (get_or s 8 0 ∷ drop 9 s) (digits_ascii (take 8 s) n.day) (one_ascii (get_or s 8 0) (drop 9 s) (omega arith) (digits_ascii (drop 9 s) n.number)) in
    IsUtf8-from_ascii s (subst IsAscii (ap (λ zs. take 8 s ++ zs) (sym behind) ∙ take-append-drop 8 s) all)
