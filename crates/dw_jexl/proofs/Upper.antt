-- Words of a text, and fields in upper case.
use Rattle.std.proofs.Common.{◌≡◌, ℕ, ◌≤◌, Bool, true, false, cond, List, [], ◌∷◌, length, refl, sym, ap, ◌∙◌, arith}
use Rattle.std.specs.Prelude.{not, ◌==◌, nat_le, bytes_eq, codes}
use Rattle.std.specs.Char.{to_ascii_uppercase}
use Rattle.std.proofs.lemmas.Bool.{and_parts, and_from, and_left, and_right, or_from, not_from_false}
use Rattle.std.proofs.lemmas.Bool.Decides.{nat_tests}
use Rattle.std.proofs.lemmas.List.{length-map}
use Rattle.std.proofs.lemmas.Slice.Eq.{bytes_eq-Decides}
use Rattle.std.proofs.lemmas.Str.Ascii.{uppercase-uppercase}
use Rattle.dw_jexl.specs.declared.token.Token.{Token}
use Rattle.dw_jexl.specs.declared.query.Op.TheVariants.{Eq, Ne, Lt, Le, Gt, Ge}
use Rattle.dw_jexl.specs.declared.token.Token.TheVariants.{Conjoin, Disjoin, Negate, Compare, Name}
use Rattle.dw_jexl.specs.Tokens.{starts_word, in_word, first_starts, all_in_word, is_word, is_plain, is_operator, word_token}
use Rattle.dw_jexl.specs.Grammar.{folded, is_reserved, is_field, names_field}
use Rattle.dw_jexl.specs.WellMade.{is_upper_field}

-- a letter or `_`, and letters, digits and `_`
pub record IsWord (w : List ℕ) : Type 0 where
  pub starts : first_starts w ≡ true
  pub goes_on : all_in_word w ≡ true

upper_starts : (c : ℕ) → starts_word c ≡ true → starts_word (to_ascii_uppercase c) ≡ true
unfolding starts_word
upper_starts c h = grind (arith, nat_tests)

upper_in_word : (c : ℕ) → in_word c ≡ true → in_word (to_ascii_uppercase c) ≡ true
unfolding in_word starts_word
upper_in_word c h = grind (arith, nat_tests)

-- no lower-case letter
not_lower : (c k : ℕ) → 97 ≤ k → k ≤ 122 → (to_ascii_uppercase c == k) ≡ false
not_lower c k l h = grind (arith, nat_tests)

upper_word : (f : List ℕ) → IsWord f → IsWord (folded f)
upper_word [] w = let e : false ≡ true = w.starts in cc
upper_word (c ∷ cs) w = record { starts = upper_starts c w.starts; goes_on = all (c ∷ cs) w.goes_on }
  where
    all : (xs : List ℕ) → all_in_word xs ≡ true → all_in_word (folded xs) ≡ true
    all [] h = refl
    all (x ∷ xs) h = let p = and_parts (in_word x) (all_in_word xs) h in and_from _ _ (upper_in_word x p.0) (all xs p.1)

folded_folded : (f : List ℕ) → folded (folded f) ≡ folded f
folded_folded [] = refl
folded_folded (c ∷ cs) = ap (λ x. x ∷ folded (folded cs)) (uppercase-uppercase c) ∙ ap (λ xs. to_ascii_uppercase c ∷ xs) (folded_folded cs)

differs : (c k : ℕ) (cs ks : List ℕ) → (c == k) ≡ false → bytes_eq (c ∷ cs) (k ∷ ks) ≡ false
differs c k cs ks e = and_left (c == k) (bytes_eq cs ks) e

skip : (b : Bool) (s t r : Token) → b ≡ false → t ≡ r → cond b s t ≡ r
skip b s t r e f = ap (λ v. cond v s t) e ∙ f

-- a word in upper case is no operator
upper_name : (f : List ℕ) → IsWord f → word_token (folded f) ≡ Name (folded f)
unfolding word_token
upper_name [] w = let e : false ≡ true = w.starts in cc
upper_name (c ∷ cs) w =
    let no = λ (k : ℕ) (ks : List ℕ) (l : 97 ≤ k) (h : k ≤ 122). differs (to_ascii_uppercase c) k (folded cs) ks (not_lower c k l h) in
    skip _ _ _ _ (no 97 (codes "nd") (omega arith) (omega arith)) (
    skip _ _ _ _ (no 111 (codes "r") (omega arith) (omega arith)) (
    skip _ _ _ _ (no 110 (codes "ot") (omega arith) (omega arith)) (
    skip _ _ _ _ (no 101 (codes "q") (omega arith) (omega arith)) (
    skip _ _ _ _ (no 110 (codes "e") (omega arith) (omega arith)) (
    skip _ _ _ _ (no 108 (codes "t") (omega arith) (omega arith)) (
    skip _ _ _ _ (no 108 (codes "e") (omega arith) (omega arith)) (
    skip _ _ _ _ (no 103 (codes "t") (omega arith) (omega arith)) (
    skip _ _ _ _ (no 103 (codes "e") (omega arith) (omega arith)) refl))))))))

-- the third character of `_Bounded_` is in lower case
not_bounded : (f : List ℕ) → bytes_eq (folded f) (codes "_Bounded_") ≡ false
not_bounded [] = refl
not_bounded (a ∷ []) = and_right (to_ascii_uppercase a == 95) false refl
not_bounded (a ∷ b ∷ []) = and_right (to_ascii_uppercase a == 95) _ (and_right (to_ascii_uppercase b == 66) false refl)
not_bounded (a ∷ b ∷ c ∷ cs) =
    and_right (to_ascii_uppercase a == 95) _ (and_right (to_ascii_uppercase b == 66) _ (differs (to_ascii_uppercase c) 111 (folded cs) (codes "unded_") (not_lower c 111 (omega arith) (omega arith))))

upper_reserved : (f : List ℕ) → IsWord f → is_reserved (folded f) ≡ false
unfolding is_reserved
upper_reserved [] w = let e : false ≡ true = w.starts in cc
upper_reserved (c ∷ cs) w =
    let no = λ (k : ℕ) (ks : List ℕ) (l : 97 ≤ k) (h : k ≤ 122). differs (to_ascii_uppercase c) k (folded cs) ks (not_lower c k l h) in
    or_from _ _ (or_from _ _ (or_from _ _ (no 116 (codes "rue") (omega arith) (omega arith)) (no 102 (codes "alse") (omega arith) (omega arith))) (no 110 (codes "ull") (omega arith) (omega arith))) (not_bounded (c ∷ cs))

-- a field that is in upper case
pub record IsUpper (f : List ℕ) : Type 0 where
  pub word : IsWord f
  pub name : word_token f ≡ Name f
  pub field : is_field f ≡ true
  pub same : folded f ≡ f

pub upper : (f : List ℕ) → IsWord f → is_field f ≡ true → IsUpper (folded f)
unfolding is_field
upper f w h =
    let p = and_parts (nat_le (length f) 64) (not (is_reserved f)) h in
    record {
      word = upper_word f w;
      name = upper_name f w;
      field = and_from _ _ (ap (λ n. nat_le n 64) (length-map f to_ascii_uppercase) ∙ p.0) (not_from_false _ (upper_reserved f w));
      same = folded_folded f;
    }

-- a token that is no name but this word's
record IsPlainName (w : List ℕ) (t : Token) : Type 0 where
  name : is_plain t ≡ true → t ≡ Name w

no_name : (w : List ℕ) (t : Token) → is_plain t ≡ false → IsPlainName w t
no_name w t e = record { name = λ h. let no : true ≡ false = sym h ∙ e in cc }

pick : (w : List ℕ) (b : Bool) (x y : Token) → IsPlainName w x → IsPlainName w y → IsPlainName w (cond b x y)
pick w true x y h k = h
pick w false x y h k = k

-- a word that spells no operator is a name
plain_name : (w : List ℕ) → IsPlainName w (word_token w)
unfolding word_token
plain_name w =
    pick w _ Conjoin _ (no_name w Conjoin refl) (
    pick w _ Disjoin _ (no_name w Disjoin refl) (
    pick w _ Negate _ (no_name w Negate refl) (
    pick w _ (Compare Eq) _ (no_name w (Compare Eq) refl) (
    pick w _ (Compare Ne) _ (no_name w (Compare Ne) refl) (
    pick w _ (Compare Lt) _ (no_name w (Compare Lt) refl) (
    pick w _ (Compare Le) _ (no_name w (Compare Le) refl) (
    pick w _ (Compare Gt) _ (no_name w (Compare Gt) refl) (
    pick w _ (Compare Ge) (Name w) (no_name w (Compare Ge) refl) (record { name = λ h. refl })))))))))

pub upper_parts : (w : List ℕ) → is_upper_field w ≡ true → IsUpper w
unfolding is_upper_field names_field is_word is_operator
upper_parts w h =
    let p = and_parts _ _ h in
    let q = and_parts _ _ p.0 in
    let r = and_parts _ _ q.0 in
    let v = and_parts _ _ r.0 in
    record {
      word = record { starts = v.0; goes_on = v.1 };
      name = let n = plain_name w in n.name (twice (is_plain (word_token w)) r.1);
      field = q.1;
      same = (bytes_eq-Decides (folded w) w).0 p.1;
    }
  where
    twice : (b : Bool) → not (not b) ≡ true → b ≡ true
    twice true e = refl
    twice false e = cc
