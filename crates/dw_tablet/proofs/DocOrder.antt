-- The texts of document keys compare as the keys do.
use Rattle.std.proofs.Common.{◌≡◌, ℕ, zero, suc, ◌<◌, ◌+◌, ◌*◌, ◌/◌, ◌%◌, List, [], ◌∷◌, ◌++◌, length, refl, sym, ap, ◌∙◌, Bool, true, not, cond, arith, ◌⊎◌, inl, inr}
use Rattle.std.specs.Prelude.{◌&&◌, ◌==◌, nat_lt, slice_index}
use Rattle.std.proofs.lemmas.Bool.{and_parts, cases_lt}
use Rattle.std.proofs.lemmas.Bool.Decides.{nat_tests}
use Rattle.std.specs.Ordering.{nat_cmp, ordering_then}
use Rattle.std.specs.Cmp.Lexicographic.{slice_cmp}
use Rattle.hex.specs.Hex.{encode_lower, encode_with, lower_digits}
use Rattle.dw_key.specs.declared.doc_key.DocKey.{DocKey}
use Rattle.dw_key.specs.DocKeys.{doc_key_cmp}
use Rattle.dw_key.specs.KeyCode.{AreBytes}
use Rattle.dw_norm.proofs.Orders.{by_parts, below, above, level, ordering_then-assoc}
use Rattle.dw_event.specs.Names.{lacks_zero}
use Rattle.dw_derive.specs.Entries.{zero_joined, doc_text}
use Rattle.dw_derive.specs.ReaderLaws.{IsDocKey}
use Rattle.dw_derive.proofs.Reading.{type_lacks}

-- ---- hexadecimal digits

abbrev digit : ℕ → ℕ
digit n = slice_index lower_digits n

digit_is : (n : ℕ) → n < 16 → digit n ≡ cond (nat_lt n 10) (n + 48) (n + 87)
digit_is zero h = refl
digit_is (suc zero) h = refl
digit_is (suc (suc zero)) h = refl
digit_is (suc (suc (suc zero))) h = refl
digit_is (suc (suc (suc (suc zero)))) h = refl
digit_is (suc (suc (suc (suc (suc zero))))) h = refl
digit_is (suc (suc (suc (suc (suc (suc zero)))))) h = refl
digit_is (suc (suc (suc (suc (suc (suc (suc zero))))))) h = refl
digit_is (suc (suc (suc (suc (suc (suc (suc (suc zero)))))))) h = refl
digit_is (suc (suc (suc (suc (suc (suc (suc (suc (suc zero))))))))) h = refl
digit_is (suc (suc (suc (suc (suc (suc (suc (suc (suc (suc zero)))))))))) h = refl
digit_is (suc (suc (suc (suc (suc (suc (suc (suc (suc (suc (suc zero))))))))))) h = refl
digit_is (suc (suc (suc (suc (suc (suc (suc (suc (suc (suc (suc (suc zero)))))))))))) h = refl
digit_is (suc (suc (suc (suc (suc (suc (suc (suc (suc (suc (suc (suc (suc zero))))))))))))) h = refl
digit_is (suc (suc (suc (suc (suc (suc (suc (suc (suc (suc (suc (suc (suc (suc zero)))))))))))))) h = refl
digit_is (suc (suc (suc (suc (suc (suc (suc (suc (suc (suc (suc (suc (suc (suc (suc zero))))))))))))))) h = refl
digit_is (suc (suc (suc (suc (suc (suc (suc (suc (suc (suc (suc (suc (suc (suc (suc (suc n)))))))))))))))) h = absurd (omega (arith, h))

rise : (a b : ℕ) → a < 16 → b < 16 → a < b → digit a < digit b
rise a b h k lt = at (nat_lt a 10) refl (nat_lt b 10) refl
  where
    at : (s : Bool) → nat_lt a 10 ≡ s → (t : Bool) → nat_lt b 10 ≡ t → digit a < digit b
    at s e t f = grind (arith, nat_tests, digit_is a h, digit_is b k)

digits_cmp : (a b : ℕ) → a < 16 → b < 16 → nat_cmp (digit a) (digit b) ≡ nat_cmp a b
digits_cmp a b h k =
    elim (cases_lt a b) [
      | inl lt ↦ below (digit a) (digit b) (rise a b h k lt) ∙ sym (below a b lt)
      | inr ge ↦ elim (cases_lt b a) [
        | inl gt ↦ above (digit a) (digit b) (rise b a k h gt) ∙ sym (above a b gt)
        | inr le ↦ let same : a ≡ b = omega arith in level (digit a) (digit b) (ap digit same) ∙ sym (level a b same)
      ]
    ]

byte_cmp : (b c : ℕ) → b < 256 → c < 256 → ordering_then (nat_cmp (digit (b / 16)) (digit (c / 16))) (nat_cmp (digit (b % 16)) (digit (c % 16))) ≡ nat_cmp b c
byte_cmp b c h k =
    (λ i. ordering_then (digits_cmp (b / 16) (c / 16) (omega arith) (omega arith) i) (digits_cmp (b % 16) (c % 16) (omega arith) (omega arith) i))
    ∙ by_parts (b / 16) (c / 16) (b % 16) (c % 16) 16 (omega arith) (omega arith) b c (omega arith) (omega arith)

-- the digits of bytes compare as the bytes do
pub digits_order : (bs cs : List ℕ) → AreBytes bs → AreBytes cs → length bs ≡ length cs → slice_cmp nat_cmp (encode_lower bs) (encode_lower cs) ≡ slice_cmp nat_cmp bs cs
unfolding encode_with
digits_order [] [] h k e = refl
digits_order [] (c ∷ cs) h k e = absurd (omega (arith, e))
digits_order (b ∷ bs) [] h k e = absurd (omega (arith, e))
digits_order (b ∷ bs) (c ∷ cs) h k e =
    sym (ordering_then-assoc (nat_cmp (digit (b / 16)) (digit (c / 16))) (nat_cmp (digit (b % 16)) (digit (c % 16))) (slice_cmp nat_cmp (encode_lower bs) (encode_lower cs)))
    ∙ (λ i. ordering_then (byte_cmp b c h.0 k.0 i) (digits_order bs cs h.1 k.1 (omega (arith, e)) i))

-- ---- a text, a byte 0 and another

-- a text without a byte 0 decides before what follows it
pub zero_order : (p q x y : List ℕ) → lacks_zero p ≡ true → lacks_zero q ≡ true → slice_cmp nat_cmp (zero_joined p x) (zero_joined q y) ≡ ordering_then (slice_cmp nat_cmp p q) (slice_cmp nat_cmp x y)
zero_order [] [] x y h k = refl
zero_order [] (zero ∷ q) x y h k = cc k
zero_order [] (suc b ∷ q) x y h k = rw (below 0 (suc b) (omega arith)) refl
zero_order (zero ∷ p) q x y h k = cc h
zero_order (suc a ∷ p) [] x y h k = rw (above (suc a) 0 (omega arith)) refl
zero_order (suc a ∷ p) (zero ∷ q) x y h k = cc k
zero_order (suc a ∷ p) (suc b ∷ q) x y h k =
    ap (ordering_then (nat_cmp (suc a) (suc b))) (zero_order p q x y (and_parts (not (suc a == 0)) (lacks_zero p) h).1 (and_parts (not (suc b == 0)) (lacks_zero q) k).1)
    ∙ sym (ordering_then-assoc (nat_cmp (suc a) (suc b)) (slice_cmp nat_cmp p q) (slice_cmp nat_cmp x y))

pub docs_order : (a b : DocKey) → IsDocKey a → IsDocKey b → slice_cmp nat_cmp (doc_text a) (doc_text b) ≡ doc_key_cmp a b
docs_order a b h k =
    zero_order a.dtype b.dtype (encode_lower a.uid) (encode_lower b.uid) (type_lacks a.dtype h.dtype) (type_lacks b.dtype k.dtype)
    ∙ ap (ordering_then (slice_cmp nat_cmp a.dtype b.dtype)) (digits_order a.uid b.uid h.uid.are_bytes k.uid.are_bytes (h.uid.size ∙ sym k.uid.size))
