-- What reading the parts of keys comes to.
use Rattle.std.proofs.Common.{◌≡◌, ℕ, zero, suc, ◌+◌, ◌<◌, ◌-◌, ◌==◌, nat_lt, Bool, true, false, List, [], ◌∷◌, length, take, drop, Some, None, Result, Ok, Err, refl, sym, ap, ◌∙◌, arith}
use Rattle.std.specs.Prelude.{if◌then◌else◌}
use Rattle.std.proofs.lemmas.List.{take_rest}
use Rattle.std.specs.Option.{option_map}
use Rattle.std.specs.Result.{result_ok}
use Rattle.std.specs.List.{position_or_len, position}
use Rattle.std.specs.Str.{is_utf8, IsUtf8}
use Rattle.std.proofs.lemmas.Str.{IsUtf8-from_is_utf8, is_utf8-from_IsUtf8}
use Rattle.std.proofs.lemmas.Bool.{eqb-true}
use Rattle.std.proofs.lemmas.Bool.Decides.{nat_tests}
use Rattle.hex.specs.Hex.{decode_of, decode_sized}
use Rattle.hex.specs.declared.error.FromHexError.{FromHexError}
use Rattle.hex.proofs.HexLemmas.{decode_of-ok, decode_sized-twice}
use Rattle.dw_derive.specs.Readers.{split_at_zero, uid_given, uid_from}

pub false_from : (b : Bool) → (b ≡ true → ⊥) → b ≡ false
false_from true h = absurd (h refl)
false_from false h = refl

pub no_text : (bytes : List ℕ) → (IsUtf8 bytes → ⊥) → is_utf8 bytes ≡ false
no_text bytes h = false_from (is_utf8 bytes) (λ e. h (IsUtf8-from_is_utf8 bytes e))

pub a_text : (bytes : List ℕ) → IsUtf8 bytes → is_utf8 bytes ≡ true
a_text bytes h = is_utf8-from_IsUtf8 bytes h

-- a byte 0
abbrev pub is_zero : ℕ → Bool
is_zero b = b == 0

plain : (b : ℕ) → is_zero (suc b) ≡ false
plain b = grind (arith, nat_tests)

-- the place of the first byte 0 behind a byte that is none
place_on : (b : ℕ) (bytes : List ℕ) → position_or_len is_zero (suc b ∷ bytes) ≡ suc (position_or_len is_zero bytes)
place_on b bytes = rw (plain b) (omega arith)

pub split_there : (bytes : List ℕ) → position_or_len is_zero bytes < length bytes
    → split_at_zero bytes ≡ Some (take (position_or_len is_zero bytes) bytes, drop (position_or_len is_zero bytes + 1) bytes)
split_there [] lt = absurd (omega arith)
split_there (zero ∷ bytes) lt = refl
split_there (suc b ∷ bytes) lt =
    let on = place_on b bytes in
    let n = position_or_len is_zero bytes in
    let next : position_or_len is_zero (suc b ∷ bytes) + 1 ≡ suc (n + 1) = omega (arith, on) in
    ap (option_map (λ (parts : List ℕ × List ℕ). (suc b ∷ parts.0, parts.1))) (split_there bytes (omega (arith, lt, on)))
    ∙ (λ i. Some (take (sym on i) (suc b ∷ bytes), drop (sym next i) (suc b ∷ bytes)))

pub split_nowhere : (bytes : List ℕ) → length bytes < position_or_len is_zero bytes + 1 → split_at_zero bytes ≡ None
split_nowhere [] lt = refl
split_nowhere (zero ∷ bytes) lt = absurd (omega arith)
split_nowhere (suc b ∷ bytes) lt =
    let on = place_on b bytes in
    ap (option_map (λ (parts : List ℕ × List ℕ). (suc b ∷ parts.0, parts.1))) (split_nowhere bytes (omega (arith, lt, on)))

pub no_split : (bytes : List ℕ) → position is_zero bytes ≡ None → split_at_zero bytes ≡ None
no_split bytes h = by (nat_lt (position_or_len is_zero bytes) (length bytes)) refl h
  where
    by : (b : Bool) → nat_lt (position_or_len is_zero bytes) (length bytes) ≡ b → (if b then Some (position_or_len is_zero bytes) else None) ≡ None → split_at_zero bytes ≡ None
    by true test e = cc e
    by false test e = split_nowhere bytes (grind (arith, nat_tests))

pub a_split : (bytes : List ℕ) (at : ℕ) → position is_zero bytes ≡ Some at → split_at_zero bytes ≡ Some (take at bytes, take (length bytes - (at + 1)) (drop (at + 1) bytes))
a_split bytes at h = by (nat_lt (position_or_len is_zero bytes) (length bytes)) refl h
  where
    by : (b : Bool) → nat_lt (position_or_len is_zero bytes) (length bytes) ≡ b → (if b then Some (position_or_len is_zero bytes) else None) ≡ Some at
        → split_at_zero bytes ≡ Some (take at bytes, take (length bytes - (at + 1)) (drop (at + 1) bytes))
    by true test e =
        let same : position_or_len is_zero bytes ≡ at = cc e in
        let rest = take_rest bytes (at + 1) in
        split_there bytes (grind (arith, nat_tests)) ∙ (λ i. Some (take (same i) bytes, drop (same i + 1) bytes)) ∙ (λ i. Some (take at bytes, sym rest i))
    by false test e = cc e

-- what is not read as 32 bytes is no uid
pub no_uid : (text : List ℕ) (r : Result (List ℕ) FromHexError) → r ≡ decode_sized text 32 → result_ok r ≡ None → uid_from text ≡ None
no_uid text (Ok uid) e is = cc is
no_uid text (Err d) e is = at (decode_of text) refl
  where
    sized : (uid : List ℕ) (b : Bool) → (length uid == 32) ≡ b → decode_of text ≡ Ok uid → uid_given text (Ok uid) ≡ None
    sized uid false other read = rw other refl
    sized uid true same read =
        let size : length uid ≡ 32 = eqb-true (length uid) 32 same in
        let long = (decode_of-ok text uid read).2 in
        let twice = decode_sized-twice text 32 (omega (arith, size, long)) in
        cc (e, twice, read)

    at : (found : Result (List ℕ) FromHexError) → decode_of text ≡ found → uid_given text found ≡ None
    at (Err f) read = refl
    at (Ok uid) read = sized uid (length uid == 32) refl read
