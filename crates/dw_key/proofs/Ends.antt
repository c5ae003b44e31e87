-- Bytes in the place of the stamp: 8 are its code, fewer are cut, and more have a tail.
use Rattle.std.proofs.Common.{◌≡◌, ℕ, zero, suc, ◌-◌, ◌^◌, ◌<◌, List, [], ◌∷◌, ◌++◌, length, get_or, take, drop, refl, sym, ap, subst, arith, lit<}
use Rattle.std.specs.Int.{w64, from_be_bytes}
use Rattle.std.proofs.lemmas.List.{take-append-drop, length-append, length-drop, length-take}
use Rattle.dw_key.specs.KeyCode.{AreBytes}
use Rattle.dw_key.specs.KeyFaults.{IsCut, HasTail, IsCodeOf}
use Rattle.dw_key.proofs.Escapes.{AreBytes-parts}
use Rattle.dw_key.proofs.Stamps.{stamp_of}

fits_at : (bytes : List ℕ) → AreBytes bytes → (i : ℕ) → get_or bytes i 0 < 256
fits_at [] fits i = lit< tt
fits_at (b ∷ bytes) fits zero = fits.0
fits_at (b ∷ bytes) fits (suc i) = fits_at bytes fits.1 i

AreBytes-append : (xs ys : List ℕ) → AreBytes xs → AreBytes ys → AreBytes (xs ++ ys)
AreBytes-append [] ys h k = k
AreBytes-append (x ∷ xs) ys h k = (h.0, AreBytes-append xs ys h.1 k)

zeros : ℕ → List ℕ
zeros zero = []
zeros (suc n) = 0 ∷ zeros n

length-zeros : (n : ℕ) → length (zeros n) ≡ n
unfolding zeros
length-zeros zero = refl
length-zeros (suc n) = ap suc (length-zeros n)

zeros_are_bytes : (n : ℕ) → AreBytes (zeros n)
unfolding zeros
zeros_are_bytes zero = tt
zeros_are_bytes (suc n) = (lit< tt, zeros_are_bytes n)

eight : (bytes : List ℕ) → AreBytes bytes → length bytes ≡ 8 → IsCodeOf 0 bytes
eight bytes fits len =
    let s = stamp_of bytes len (fits_at bytes fits) in
    record { parts = []; stamp = 2 ^ 64 - 1 - from_be_bytes w64 bytes; count = refl; are_bytes = tt; stamp_fits = omega arith; spelled = s.1 }

pub ends_in_stamp : (bytes : List ℕ) → AreBytes bytes → length bytes < 8 → IsCut (IsCodeOf 0) bytes
ends_in_stamp bytes fits short =
    let more = zeros (8 - length bytes) in
    let longer : 0 < length more = omega (arith, short, length-zeros (8 - length bytes)) in
    let len : length (bytes ++ more) ≡ 8 = omega (arith, short, length-append bytes more, length-zeros (8 - length bytes)) in
    (more, longer, eight (bytes ++ more) (AreBytes-append bytes more fits (zeros_are_bytes (8 - length bytes))) len)

pub goes_past_stamp : (bytes : List ℕ) → AreBytes bytes → 8 < length bytes → HasTail (IsCodeOf 0) bytes
goes_past_stamp bytes fits long =
    let whole = sym (take-append-drop 8 bytes) in
    (take 8 bytes, drop 8 bytes, eight (take 8 bytes) (AreBytes-parts (take 8 bytes) (drop 8 bytes) (subst AreBytes whole fits)).0 (omega (arith, long, length-take 8 bytes)), omega (arith, long, length-drop 8 bytes), whole)
