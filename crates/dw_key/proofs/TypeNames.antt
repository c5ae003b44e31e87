-- What follows from the rule on types.
use Rattle.std.proofs.Common.{◌≡◌, ℕ, zero, suc, ◌≤◌, ◌<◌, Bool, true, false, List, [], ◌∷◌, length, arith, refl}
use Rattle.std.specs.Prelude.{◌≢◌, ◌&&◌, not, IsTrue, nat_le, nat_eq}
use Rattle.std.specs.List.{AllByRecursion, list_all}
use Rattle.std.specs.Cmp.Lexicographic.{pointwise, bytes_decides}
use Rattle.std.proofs.lemmas.Bool.{leb-true}
use Rattle.dw_key.specs.TypeName.{is_type_byte, is_type_name}

-- the same as facts
pub record IsTypeName (bytes : List ℕ) : Type 0 where
  pub at_least_one : 1 ≤ length bytes
  pub at_most_64 : length bytes ≤ 64
  pub not_fi : bytes ≢ 102 ∷ 105 ∷ []
  pub may_stand : AllByRecursion (λ b. IsTrue (is_type_byte b)) bytes

first_so : (a b : Bool) → IsTrue (a && b) → IsTrue a
first_so true b h = refl
first_so false b h = h

second_so : (a b : Bool) → IsTrue (a && b) → IsTrue b
second_so true b h = h
second_so false b h = absurd cc

each_so : (bytes : List ℕ) → IsTrue (list_all is_type_byte bytes) → AllByRecursion (λ b. IsTrue (is_type_byte b)) bytes
each_so [] h = tt
each_so (b ∷ bytes) h = (first_so (is_type_byte b) (list_all is_type_byte bytes) h, each_so bytes (second_so (is_type_byte b) (list_all is_type_byte bytes) h))

other_so : (a : Bool) → IsTrue (not a) → a ≡ true → ⊥
other_so true h e = absurd cc
other_so false h e = absurd cc

pub type_name_keeps : (bytes : List ℕ) → IsTrue (is_type_name bytes) → IsTypeName bytes
type_name_keeps bytes h =
    let one = nat_le 1 (length bytes) in
    let most = nat_le (length bytes) 64 in
    let fi = pointwise nat_eq bytes (102 ∷ 105 ∷ []) in
    let each = list_all is_type_byte bytes in
    let three = first_so (one && most && not fi) each h in
    let two = first_so (one && most) (not fi) three in
    record {
      at_least_one = leb-true 1 (length bytes) (first_so one most two);
      at_most_64 = leb-true (length bytes) 64 (second_so one most two);
      not_fi = λ e. other_so fi (second_so (one && most) (not fi) three) ((bytes_decides bytes (102 ∷ 105 ∷ [])).1 e);
      may_stand = each_so bytes (second_so (one && most && not fi) each h);
    }

zero_may_not : (b : ℕ) → IsTrue (is_type_byte b) → 0 < b
zero_may_not zero h = absurd cc
zero_may_not (suc b) h = omega arith

no_zeros : (bytes : List ℕ) → AllByRecursion (λ b. IsTrue (is_type_byte b)) bytes → AllByRecursion (λ b. 0 < b) bytes
no_zeros [] h = tt
no_zeros (b ∷ bytes) h = (zero_may_not b h.0, no_zeros bytes h.1)

-- no byte of a type is 0
pub type_name_no_zero : (bytes : List ℕ) → IsTrue (is_type_name bytes) → AllByRecursion (λ b. 0 < b) bytes
type_name_no_zero bytes h = no_zeros bytes (type_name_keeps bytes h).may_stand
