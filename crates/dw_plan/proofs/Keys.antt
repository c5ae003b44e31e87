-- On keys of an index and what they say.
use Rattle.std.proofs.Common.{◌≡◌, ℕ, zero, suc, ◌==◌, Bool, true, false, cond, List, [], ◌∷◌, ◌++◌, Option, Some, None, refl, sym, ap, ◌∙◌, append_assoc, arith}
use Rattle.std.specs.Prelude.{◌&&◌}
use Rattle.std.specs.Option.{option_map, option_and_then}
use Rattle.std.specs.Str.{is_utf8}
use Rattle.std.proofs.lemmas.Bool.{and_parts}
use Rattle.std.proofs.lemmas.Bool.Decides.{nat_tests}
use Rattle.dw_key.specs.declared.key.Key.{Key}
use Rattle.dw_key.specs.KeyCode.{escaped, part_code}
use Rattle.dw_key.specs.TypeName.{is_type_name}
use Rattle.dw_derive.specs.Decoded.{with_front, part_from, stamp_from, key_from}
use Rattle.dw_derive.specs.Readers.{GlobalReading, split_at_zero, only_if, global_parts, global_reading}

pair_parts : {A B : Type 0} {p q : A × B} → Some p ≡ Some q → (p.0 ≡ q.0) × (p.1 ≡ q.1)
pair_parts e = (cc, cc)

abbrev PartBack : List ℕ → Type 0
PartBack bytes = (p x : List ℕ) → part_from bytes ≡ Some (p, x) → bytes ≡ escaped p ++ 0 ∷ 0 ∷ x

part_back : (bytes : List ℕ) → PartBack bytes
part_back [] p x h = cc
part_back (zero ∷ []) p x h = cc
part_back (zero ∷ zero ∷ bytes) p x h =
    let e : ([] ≡ p) × (bytes ≡ x) = pair_parts h in
    ap (λ y. 0 ∷ 0 ∷ y) e.1 ∙ ap (λ q. escaped q ++ 0 ∷ 0 ∷ x) e.0
part_back (zero ∷ suc b ∷ bytes) p x h = at (part_back bytes) (suc b == 255) refl (part_from bytes) refl h
  where
    same : (suc b == 255) ≡ true → suc b ≡ 255
    same e = grind (arith, nat_tests)

    at : PartBack bytes → (t : Bool) → (suc b == 255) ≡ t → (o : Option (List ℕ × List ℕ)) → part_from bytes ≡ o → cond t (option_map (with_front 0) o) None ≡ Some (p, x) → zero ∷ suc b ∷ bytes ≡ escaped p ++ 0 ∷ 0 ∷ x
    at back true s None r e = cc
    at back true s (Some q) r e =
        let f : (0 ∷ q.0 ≡ p) × (q.1 ≡ x) = pair_parts e in
        ap (λ c. 0 ∷ c ∷ bytes) (same s)
        ∙ ap (λ y. 0 ∷ 255 ∷ y) (back q.0 q.1 r)
        ∙ ap (λ y. 0 ∷ 255 ∷ (escaped q.0 ++ 0 ∷ 0 ∷ y)) f.1
        ∙ ap (λ y. escaped y ++ 0 ∷ 0 ∷ x) f.0
    at back false s o r e = cc
part_back (suc b ∷ bytes) p x h = at (part_back bytes) (part_from bytes) refl h
  where
    at : PartBack bytes → (o : Option (List ℕ × List ℕ)) → part_from bytes ≡ o → option_map (with_front (suc b)) o ≡ Some (p, x) → suc b ∷ bytes ≡ escaped p ++ 0 ∷ 0 ∷ x
    at back None r e = cc
    at back (Some q) r e =
        let f : (suc b ∷ q.0 ≡ p) × (q.1 ≡ x) = pair_parts e in
        ap (λ y. suc b ∷ y) (back q.0 q.1 r)
        ∙ ap (λ y. suc b ∷ (escaped q.0 ++ 0 ∷ 0 ∷ y)) f.1
        ∙ ap (λ y. escaped y ++ 0 ∷ 0 ∷ x) f.0

pub and_then_some : {A B : Type 0} (f : A → Option B) (o : Option A) (y : B) → option_and_then f o ≡ Some y → (x : A) × (o ≡ Some x) × (f x ≡ Some y)
and_then_some f None y h = cc
and_then_some f (Some x) y h = (x, refl, h)

map_some : {A B : Type 0} (f : A → B) (o : Option A) (y : B) → option_map f o ≡ Some y → (x : A) × (o ≡ Some x) × (f x ≡ y)
map_some f None y h = cc
map_some f (Some x) y h = (x, refl, cc)

then_part : (p x y : List ℕ) → x ≡ y → escaped p ++ 0 ∷ 0 ∷ x ≡ part_code p ++ y
then_part p x y e = ap (λ z. escaped p ++ 0 ∷ 0 ∷ z) e ∙ sym (append_assoc (escaped p) (0 ∷ 0 ∷ []) y)

-- bytes that are read as a key begin with its first three parts, whatever their stamp is made of
pub key_spelled : (bytes : List ℕ) (k : Key) → key_from bytes ≡ Some k → (rest : List ℕ) × (bytes ≡ part_code k.row ++ (part_code k.family ++ (part_code k.qualifier ++ rest)))
key_spelled bytes k h =
    let row = and_then_some _ (part_from bytes) k h in
    let family = and_then_some _ (part_from row.0.1) k row.2 in
    let qualifier = and_then_some _ (part_from family.0.1) k family.2 in
    let vis = and_then_some _ (part_from qualifier.0.1) k qualifier.2 in
    let stamp = map_some _ (stamp_from vis.0.1) k vis.2 in
    let one : bytes ≡ escaped row.0.0 ++ 0 ∷ 0 ∷ row.0.1 = part_back bytes row.0.0 row.0.1 row.1 in
    let two : row.0.1 ≡ escaped family.0.0 ++ 0 ∷ 0 ∷ family.0.1 = part_back row.0.1 family.0.0 family.0.1 family.1 in
    let three : family.0.1 ≡ escaped qualifier.0.0 ++ 0 ∷ 0 ∷ qualifier.0.1 = part_back family.0.1 qualifier.0.0 qualifier.0.1 qualifier.1 in
    let made : Key = record { row = row.0.0; family = family.0.0; qualifier = qualifier.0.0; vis = vis.0.0; stamp = stamp.0 } in
    let same : made ≡ k = stamp.2 in (
      qualifier.0.1,
      one ∙ then_part row.0.0 _ _ (two ∙ then_part family.0.0 _ _ (three ∙ then_part qualifier.0.0 _ _ refl))
          ∙ ap (λ (x : Key). part_code x.row ++ (part_code x.family ++ (part_code x.qualifier ++ qualifier.0.1))) same,
    )

-- ---- what a key of a global index says

split_back : (q a b : List ℕ) → split_at_zero q ≡ Some (a, b) → q ≡ a ++ 0 ∷ b
split_back [] a b h = cc
split_back (zero ∷ q) a b h =
    let e : ([] ≡ a) × (q ≡ b) = pair_parts h in
    ap (λ y. 0 ∷ y) e.1 ∙ ap (λ y. y ++ 0 ∷ b) e.0
split_back (suc c ∷ q) a b h = at (split_back q) (split_at_zero q) refl h
  where
    at : ((x y : List ℕ) → split_at_zero q ≡ Some (x, y) → q ≡ x ++ 0 ∷ y) → (o : Option (List ℕ × List ℕ)) → split_at_zero q ≡ o
        → option_map {U = List ℕ × List ℕ} (λ (parts : List ℕ × List ℕ). (suc c ∷ parts.0, parts.1)) o ≡ Some (a, b) → suc c ∷ q ≡ a ++ 0 ∷ b
    at back None r e = cc
    at back (Some p) r e =
        let f : (suc c ∷ p.0 ≡ a) × (p.1 ≡ b) = pair_parts e in
        ap (λ y. suc c ∷ y) (back p.0 p.1 r) ∙ ap (λ y. suc c ∷ (p.0 ++ 0 ∷ y)) f.1 ∙ ap (λ y. y ++ 0 ∷ b) f.0

only_parts : {A : Type 0} (t : Bool) (x y : A) → only_if t x ≡ Some y → (t ≡ true) × (x ≡ y)
only_parts true x y h = (refl, cc)
only_parts false x y h = cc

pub record Says (k : Key) (r : GlobalReading) : Type 0 where
  pub value : k.row ≡ r.value
  pub field : k.family ≡ r.field
  pub qualifier : k.qualifier ≡ r.shard ++ 0 ∷ r.dtype
  pub utf8 : is_utf8 k.row ≡ true

pub reading_says : (k : Key) (r : GlobalReading) → global_reading k ≡ Some r → Says k r
reading_says k r h =
    let parts = and_then_some (global_parts k) (split_at_zero k.qualifier) r h in
    let made : GlobalReading = record { value = k.row; field = k.family; shard = parts.0.0; dtype = parts.0.1 } in
    let only = only_parts (is_utf8 k.row && is_utf8 k.family && is_type_name parts.0.1) made r parts.2 in
    let same : made ≡ r = only.1 in
    record {
      value = ap (λ (g : GlobalReading). g.value) same;
      field = ap (λ (g : GlobalReading). g.field) same;
      qualifier = split_back k.qualifier parts.0.0 parts.0.1 parts.1 ∙ ap (λ (g : GlobalReading). g.shard ++ 0 ∷ g.dtype) same;
      utf8 = (and_parts (is_utf8 k.row) (is_utf8 k.family) (and_parts (is_utf8 k.row && is_utf8 k.family) (is_type_name parts.0.1) only.0).0).0;
    }
