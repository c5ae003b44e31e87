-- On keys that are read from their codes.
use Rattle.std.proofs.Common.{◌≡◌, ◌-◌, ◌^◌, ◌<◌, ◌==◌, ◌++◌, ℕ, zero, suc, Bool, true, false, cond, List, [], ◌∷◌, length, get_or, refl, sym, ap, subst, ◌∙◌, append_assoc, arith}
use Rattle.std.specs.Prelude.{Option, Some, None}
use Rattle.std.specs.Option.{option_map, option_and_then}
use Rattle.std.specs.Int.{w64, from_be_bytes, to_be_bytes}
use Rattle.std.proofs.lemmas.Nat.{from_be_bytes-to_be_bytes_8}
use Rattle.std.proofs.lemmas.Bool.Decides.{nat_tests}
use Rattle.dw_key.specs.declared.key.Key.{Key}
use Rattle.dw_key.specs.KeyCode.{escaped, part_code, stamp_code, code, AreBytes}
use Rattle.std.specs.Prelude.{Result, Ok, Err, MatchResult, min}
use Rattle.dw_key.specs.KeyFaults.{GivesTheKey}
use Rattle.dw_key.specs.declared.decoding.BadKey.{BadKey}
use Rattle.dw_key.specs.declared.decoding.BadKey.TheVariants.{OutOfMemory}
use Rattle.dw_key.proofs.Stamps.{stamp_of}
use Rattle.dw_key.proofs.Escapes.{AreBytes-parts}
use Rattle.dw_derive.specs.Decoded.{with_front, part_from, stamp_from, key_from, CodesAreRead}

part_again : (p x : List ℕ) → part_from (escaped p ++ 0 ∷ 0 ∷ x) ≡ Some (p, x)
part_again [] x = refl
part_again (zero ∷ p) x = ap (option_map (with_front 0)) (part_again p x)
part_again (suc b ∷ p) x = ap (option_map (with_front (suc b))) (part_again p x)

pub part_of_code : (p x : List ℕ) → part_from (part_code p ++ x) ≡ Some (p, x)
part_of_code p x = ap part_from (append_assoc (escaped p) (0 ∷ 0 ∷ []) x) ∙ part_again p x

stamp_again : (n : ℕ) → n < 2 ^ 64 → stamp_from (stamp_code n) ≡ Some n
stamp_again n h = ap (λ m. Some (2 ^ 64 - 1 - m)) (from_be_bytes-to_be_bytes_8 (2 ^ 64 - 1 - n) (omega arith)) ∙ ap (λ m. Some m) (omega arith)

pub key_of_code : (k : Key) → k.stamp < 2 ^ 64 → key_from (code k) ≡ Some k
key_of_code k h =
    ap (option_and_then _) (part_of_code k.row _)
    ∙ ap (option_and_then _) (part_of_code k.family _)
    ∙ ap (option_and_then _) (part_of_code k.qualifier _)
    ∙ ap (option_and_then _) (part_of_code k.vis _)
    ∙ ap (option_map (λ stamp. record { row = k.row; family = k.family; qualifier = k.qualifier; vis = k.vis; stamp = stamp })) (stamp_again k.stamp h)

-- ---- and back

pair_parts : {A B : Type 0} {p q : A × B} → Some p ≡ Some q → (p.0 ≡ q.0) × (p.1 ≡ q.1)
pair_parts e = (cc, cc)

abbrev PartBack : List ℕ → Type 0
PartBack bytes = (p x : List ℕ) → part_from bytes ≡ Some (p, x) → bytes ≡ escaped p ++ 0 ∷ 0 ∷ x

pub part_back : (bytes : List ℕ) → PartBack bytes
part_back [] p x h = cc
part_back (zero ∷ []) p x h = cc
part_back (zero ∷ zero ∷ bytes) p x h =
    let e : ([] ≡ p) × (bytes ≡ x) = pair_parts h in
    ap (λ y. 0 ∷ 0 ∷ y) e.1 ∙ ap (λ q. escaped q ++ 0 ∷ 0 ∷ x) e.0
part_back (zero ∷ suc b ∷ bytes) p x h = at (part_back bytes) (suc b == 255) refl (part_from bytes) refl h
  where
    same : (suc b == 255) ≡ true → suc b ≡ 255
    same e = grind (arith, nat_tests)

    at : PartBack bytes → (t : Bool) → (suc b == 255) ≡ t → (o : Option (List ℕ × List ℕ)) → part_from bytes ≡ o → cond t (option_map (with_front 0) o) None ≡ Some (p, x) → zero ∷ suc b ∷ bytes ≡ escaped p ++ 0 ∷ 0 ∷ x
    at back true s None r e = cc
    at back true s (Some q) r e =
        let f : (0 ∷ q.0 ≡ p) × (q.1 ≡ x) = pair_parts e in
        ap (λ c. 0 ∷ c ∷ bytes) (same s)
        ∙ ap (λ y. 0 ∷ 255 ∷ y) (back q.0 q.1 r)
        ∙ ap (λ y. 0 ∷ 255 ∷ (escaped q.0 ++ 0 ∷ 0 ∷ y)) f.1
        ∙ ap (λ y. escaped y ++ 0 ∷ 0 ∷ x) f.0
    at back false s o r e = cc
part_back (suc b ∷ bytes) p x h = at (part_back bytes) (part_from bytes) refl h
  where
    at : PartBack bytes → (o : Option (List ℕ × List ℕ)) → part_from bytes ≡ o → option_map (with_front (suc b)) o ≡ Some (p, x) → suc b ∷ bytes ≡ escaped p ++ 0 ∷ 0 ∷ x
    at back None r e = cc
    at back (Some q) r e =
        let f : (suc b ∷ q.0 ≡ p) × (q.1 ≡ x) = pair_parts e in
        ap (λ y. suc b ∷ y) (back q.0 q.1 r)
        ∙ ap (λ y. suc b ∷ (escaped q.0 ++ 0 ∷ 0 ∷ y)) f.1
        ∙ ap (λ y. escaped y ++ 0 ∷ 0 ∷ x) f.0

pub and_then_some : {A B : Type 0} (f : A → Option B) (o : Option A) (y : B) → option_and_then f o ≡ Some y → (x : A) × (o ≡ Some x) × (f x ≡ Some y)
and_then_some f None y h = cc
and_then_some f (Some x) y h = (x, refl, h)

pub map_some : {A B : Type 0} (f : A → B) (o : Option A) (y : B) → option_map f o ≡ Some y → (x : A) × (o ≡ Some x) × (f x ≡ y)
map_some f None y h = cc
map_some f (Some x) y h = (x, refl, cc)

in_bytes : (bytes : List ℕ) → AreBytes bytes → (i : ℕ) → get_or bytes i 0 < 256
in_bytes [] h i = omega arith
in_bytes (b ∷ bytes) h zero = h.0
in_bytes (b ∷ bytes) h (suc i) = in_bytes bytes h.1 i

stamp_back : (bytes : List ℕ) (n : ℕ) → AreBytes bytes → stamp_from bytes ≡ Some n → bytes ≡ stamp_code n
stamp_back bytes n fit h = at (length bytes == 8) refl h
  where
    long : (length bytes == 8) ≡ true → length bytes ≡ 8
    long e = grind (arith, nat_tests)

    at : (t : Bool) → (length bytes == 8) ≡ t → cond t (Some (2 ^ 64 - 1 - from_be_bytes w64 bytes)) None ≡ Some n → bytes ≡ stamp_code n
    at true s e = (stamp_of bytes (long s) (in_bytes bytes fit)).1 ∙ ap stamp_code cc
    at false s e = cc

rest_fits : (bytes p x : List ℕ) → AreBytes bytes → bytes ≡ escaped p ++ 0 ∷ 0 ∷ x → AreBytes x
rest_fits bytes p x fit h =
    let all : AreBytes (escaped p ++ 0 ∷ 0 ∷ x) = subst AreBytes h fit in
    (AreBytes-parts (escaped p) (0 ∷ 0 ∷ x) all).1.1.1

pub then_part : (p x y : List ℕ) → x ≡ y → escaped p ++ 0 ∷ 0 ∷ x ≡ part_code p ++ y
then_part p x y e = ap (λ z. escaped p ++ 0 ∷ 0 ∷ z) e ∙ sym (append_assoc (escaped p) (0 ∷ 0 ∷ []) y)

key_back : (bytes : List ℕ) (k : Key) → AreBytes bytes → key_from bytes ≡ Some k → bytes ≡ code k
key_back bytes k fit h =
    let row = and_then_some _ (part_from bytes) k h in
    let family = and_then_some _ (part_from row.0.1) k row.2 in
    let qualifier = and_then_some _ (part_from family.0.1) k family.2 in
    let vis = and_then_some _ (part_from qualifier.0.1) k qualifier.2 in
    let stamp = map_some _ (stamp_from vis.0.1) k vis.2 in
    let one : bytes ≡ escaped row.0.0 ++ 0 ∷ 0 ∷ row.0.1 = part_back bytes row.0.0 row.0.1 row.1 in
    let two : row.0.1 ≡ escaped family.0.0 ++ 0 ∷ 0 ∷ family.0.1 = part_back row.0.1 family.0.0 family.0.1 family.1 in
    let three : family.0.1 ≡ escaped qualifier.0.0 ++ 0 ∷ 0 ∷ qualifier.0.1 = part_back family.0.1 qualifier.0.0 qualifier.0.1 qualifier.1 in
    let four : qualifier.0.1 ≡ escaped vis.0.0 ++ 0 ∷ 0 ∷ vis.0.1 = part_back qualifier.0.1 vis.0.0 vis.0.1 vis.1 in
    let fit1 : AreBytes row.0.1 = rest_fits bytes row.0.0 row.0.1 fit one in
    let fit2 : AreBytes family.0.1 = rest_fits row.0.1 family.0.0 family.0.1 fit1 two in
    let fit3 : AreBytes qualifier.0.1 = rest_fits family.0.1 qualifier.0.0 qualifier.0.1 fit2 three in
    let fit4 : AreBytes vis.0.1 = rest_fits qualifier.0.1 vis.0.0 vis.0.1 fit3 four in
    let five : vis.0.1 ≡ stamp_code stamp.0 = stamp_back vis.0.1 stamp.0 fit4 stamp.1 in
    let made : Key = record { row = row.0.0; family = family.0.0; qualifier = qualifier.0.0; vis = vis.0.0; stamp = stamp.0 } in
    let same : made ≡ k = stamp.2 in
    one ∙ then_part row.0.0 _ _ (two ∙ then_part family.0.0 _ _ (three ∙ then_part qualifier.0.0 _ _ (four ∙ then_part vis.0.0 _ _ five))) ∙ ap code same

pub codes_are_read : CodesAreRead
codes_are_read bytes k fit small = (key_back bytes k fit, λ h. ap key_from h ∙ key_of_code k small)

stamp_small : (bytes : List ℕ) (n : ℕ) → stamp_from bytes ≡ Some n → n < 2 ^ 64
stamp_small bytes n h = at (length bytes == 8) h
  where
    at : (t : Bool) → cond t (Some (2 ^ 64 - 1 - from_be_bytes w64 bytes)) None ≡ Some n → n < 2 ^ 64
    at true e = let q : 2 ^ 64 - 1 - from_be_bytes w64 bytes ≡ n = cc in omega (arith, q)
    at false e = cc

key_small : (bytes : List ℕ) (k : Key) → key_from bytes ≡ Some k → k.stamp < 2 ^ 64
key_small bytes k h =
    let row = and_then_some _ (part_from bytes) k h in
    let family = and_then_some _ (part_from row.0.1) k row.2 in
    let qualifier = and_then_some _ (part_from family.0.1) k family.2 in
    let vis = and_then_some _ (part_from qualifier.0.1) k qualifier.2 in
    let stamp = map_some _ (stamp_from vis.0.1) k vis.2 in
    let made : Key = record { row = row.0.0; family = family.0.0; qualifier = qualifier.0.0; vis = vis.0.0; stamp = stamp.0 } in
    let same : made ≡ k = stamp.2 in
    let P : Key → Type 0 = λ x. x.stamp < 2 ^ 64 in
    subst P same (stamp_small vis.0.1 stamp.0 stamp.1)

-- what decodes to no key is read as none
pub no_key : (bytes : List ℕ) (r : Result Key BadKey) (e : BadKey) → AreBytes bytes → GivesTheKey bytes r → r ≡ Err e → (e ≡ OutOfMemory → ⊥) → None ≡ key_from bytes
no_key bytes r e fit gives is other = at (key_from bytes) refl
  where
    at : (o : Option Key) → key_from bytes ≡ o → None ≡ o
    at None h = refl
    at (Some k) h =
        let P : Result Key BadKey → Type 0 = λ x. MatchResult x (λ found. found ≡ k) (λ f. f ≡ OutOfMemory) in
        absurd (other (subst P is (gives k (key_small bytes k h) (key_back bytes k fit h))))

-- a key that was decoded has a stamp of 64 bits
pub key_fits : (bytes : List ℕ) (k : Key) → bytes ≡ code k → GivesTheKey bytes (Ok k) → k.stamp < 2 ^ 64
key_fits bytes k is gives =
    let low : Key = record { row = k.row; family = k.family; qualifier = k.qualifier; vis = k.vis; stamp = min k.stamp (2 ^ 64 - 1) } in
    let same : 2 ^ 64 - 1 - k.stamp ≡ 2 ^ 64 - 1 - min k.stamp (2 ^ 64 - 1) = omega arith in
    let spelled : code k ≡ code low = ap (λ n. part_code k.row ++ (part_code k.family ++ (part_code k.qualifier ++ (part_code k.vis ++ to_be_bytes w64 n)))) same in
    let found : k ≡ low = gives low (omega arith) (is ∙ spelled) in
    let stamp : k.stamp ≡ min k.stamp (2 ^ 64 - 1) = ap (λ (x : Key). x.stamp) found in
    omega (arith, stamp)
