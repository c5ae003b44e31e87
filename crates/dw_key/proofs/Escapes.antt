-- Parts with their bytes 0 escaped: what they are put together from, that they end where they end, and how they compare.
use Rattle.std.proofs.Common.{◌≡◌, ℕ, zero, suc, ◌<◌, List, [], ◌∷◌, ◌++◌, refl, sym, ap, ◌∙◌, append_assoc, arith, ◌⊎◌, inl, inr}
use Rattle.std.specs.Prelude.{◌≢◌}
use Rattle.std.specs.Ordering.{nat_cmp, ordering_then}
use Rattle.std.specs.declared.cmp.Ordering.TheVariants.{Less, Equal, Greater}
use Rattle.std.specs.Cmp.{nat_cmp_is}
use Rattle.std.specs.Cmp.Lexicographic.{slice_cmp}
use Rattle.std.specs.declared.cmp.Ordering.{Ordering}
use Rattle.dw_key.specs.KeyCode.{escaped, part_code, AreBytes}

pub escaped-append : (xs ys : List ℕ) → escaped (xs ++ ys) ≡ escaped xs ++ escaped ys
escaped-append [] ys = refl
escaped-append (zero ∷ xs) ys = ap (λ (t : List ℕ). 0 ∷ 255 ∷ t) (escaped-append xs ys)
escaped-append (suc b ∷ xs) ys = ap (λ (t : List ℕ). suc b ∷ t) (escaped-append xs ys)

-- a byte other than 0 stands for itself
pub escaped-plain : (b : ℕ) (xs : List ℕ) → b ≢ 0 → escaped (b ∷ xs) ≡ b ∷ escaped xs
escaped-plain zero xs other = absurd (other refl)
escaped-plain (suc b) xs other = refl

pub part_code-then : (p x : List ℕ) → part_code p ++ x ≡ escaped p ++ 0 ∷ 0 ∷ x
part_code-then p x = append_assoc (escaped p) (0 ∷ 0 ∷ []) x

pub AreBytes-parts : (xs ys : List ℕ) → AreBytes (xs ++ ys) → AreBytes xs × AreBytes ys
AreBytes-parts [] ys h = (tt, h)
AreBytes-parts (x ∷ xs) ys h = let r = AreBytes-parts xs ys h.1 in ((h.0, r.0), r.1)

pub AreBytes-escaped : (p : List ℕ) → AreBytes (escaped p) → AreBytes p
AreBytes-escaped [] h = tt
AreBytes-escaped (zero ∷ p) h = (h.0, AreBytes-escaped p h.1.1)
AreBytes-escaped (suc b ∷ p) h = (h.0, AreBytes-escaped p h.1)

pub apart : (a b : ℕ) → (a < b) ⊎ (b < a) → a ≡ b → ⊥
apart a b (inl lt) e = omega arith
apart a b (inr gt) e = omega arith

-- what begins with two parts begins with one
pub same_part : (p q x y : List ℕ) → escaped p ++ 0 ∷ 0 ∷ x ≡ escaped q ++ 0 ∷ 0 ∷ y → (p ≡ q) × (x ≡ y)
same_part [] [] x y e = (refl, cc)
same_part [] (zero ∷ q) x y e = absurd (apart 0 255 (inl (omega arith)) cc)
same_part [] (suc b ∷ q) x y e = absurd (apart 0 (suc b) (inl (omega arith)) cc)
same_part (zero ∷ p) [] x y e = absurd (apart 255 0 (inr (omega arith)) cc)
same_part (suc a ∷ p) [] x y e = absurd (apart (suc a) 0 (inr (omega arith)) cc)
same_part (zero ∷ p) (zero ∷ q) x y e =
    let r = same_part p q x y cc in
    (ap (λ (t : List ℕ). 0 ∷ t) r.0, r.1)
same_part (zero ∷ p) (suc b ∷ q) x y e = absurd (apart 0 (suc b) (inl (omega arith)) cc)
same_part (suc a ∷ p) (zero ∷ q) x y e = absurd (apart (suc a) 0 (inr (omega arith)) cc)
same_part (suc a ∷ p) (suc b ∷ q) x y e =
    let r = same_part p q x y cc in
    let same : suc a ≡ suc b = cc in
    ((λ i. same i ∷ r.0 i), r.1)

-- in a part a byte 0 is followed by 0 or 255
pub no_escape : (p q x y : List ℕ) (b : ℕ) → b ≢ 0 → b ≢ 255 → escaped p ++ 0 ∷ 0 ∷ x ≡ escaped q ++ 0 ∷ b ∷ y → ⊥
no_escape [] [] x y b no_end no_zero e = no_end cc
no_escape [] (zero ∷ q) x y b no_end no_zero e = absurd (apart 0 255 (inl (omega arith)) cc)
no_escape [] (suc c ∷ q) x y b no_end no_zero e = absurd (apart 0 (suc c) (inl (omega arith)) cc)
no_escape (zero ∷ p) [] x y b no_end no_zero e = no_zero cc
no_escape (suc a ∷ p) [] x y b no_end no_zero e = absurd (apart (suc a) 0 (inr (omega arith)) cc)
no_escape (zero ∷ p) (zero ∷ q) x y b no_end no_zero e = no_escape p q x y b no_end no_zero cc
no_escape (zero ∷ p) (suc c ∷ q) x y b no_end no_zero e = absurd (apart 0 (suc c) (inl (omega arith)) cc)
no_escape (suc a ∷ p) (zero ∷ q) x y b no_end no_zero e = absurd (apart (suc a) 0 (inr (omega arith)) cc)
no_escape (suc a ∷ p) (suc c ∷ q) x y b no_end no_zero e = no_escape p q x y b no_end no_zero cc

below : (a b : ℕ) → a < b → nat_cmp a b ≡ Less
below a b lt = sym (nat_cmp_is a b Less lt)

above : (a b : ℕ) → b < a → nat_cmp a b ≡ Greater
above a b gt = sym (nat_cmp_is a b Greater gt)

pub ordering_then-assoc : (a b c : Ordering) → ordering_then (ordering_then a b) c ≡ ordering_then a (ordering_then b c)
ordering_then-assoc Less b c = refl
ordering_then-assoc Equal b c = refl
ordering_then-assoc Greater b c = refl

-- parts decide before what follows them
pub slice_cmp-parts : (p q x y : List ℕ) → slice_cmp nat_cmp (escaped p ++ 0 ∷ 0 ∷ x) (escaped q ++ 0 ∷ 0 ∷ y) ≡ ordering_then (slice_cmp nat_cmp p q) (slice_cmp nat_cmp x y)
slice_cmp-parts [] [] x y = refl
slice_cmp-parts [] (zero ∷ q) x y = refl
slice_cmp-parts [] (suc b ∷ q) x y = rw (below 0 (suc b) (omega arith)) refl
slice_cmp-parts (zero ∷ p) [] x y = refl
slice_cmp-parts (suc a ∷ p) [] x y = rw (above (suc a) 0 (omega arith)) refl
slice_cmp-parts (zero ∷ p) (zero ∷ q) x y = slice_cmp-parts p q x y
slice_cmp-parts (zero ∷ p) (suc b ∷ q) x y = rw (below 0 (suc b) (omega arith)) refl
slice_cmp-parts (suc a ∷ p) (zero ∷ q) x y = rw (above (suc a) 0 (omega arith)) refl
slice_cmp-parts (suc a ∷ p) (suc b ∷ q) x y =
    ap (ordering_then (nat_cmp (suc a) (suc b))) (slice_cmp-parts p q x y)
    ∙ sym (ordering_then-assoc (nat_cmp (suc a) (suc b)) (slice_cmp nat_cmp p q) (slice_cmp nat_cmp x y))
