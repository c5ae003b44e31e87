-- Texts that are read into known tokens, whatever follows them.
use Rattle.std.proofs.Common.{◌≡◌, ℕ, suc, ◌+◌, Bool, true, false, cond, List, [], ◌∷◌, ◌++◌, length, take, drop, Option, Some, refl, sym, ap, ◌∙◌, subst, arith, append_assoc, length-append}
use Rattle.std.specs.Prelude.{◌||◌, ◌==◌, option_map, codes}
use Rattle.std.specs.List.{prefix_len}
use Rattle.std.proofs.Math.Seq.{take-append_seam, drop-append_seam}
use Rattle.std.proofs.lemmas.Bool.{and_parts, or_left, or_right}
use Rattle.std.proofs.lemmas.Bool.Decides.{nat_tests}
use Rattle.dw_jexl.specs.declared.query.Op.{Op}
use Rattle.dw_jexl.specs.declared.query.Op.TheVariants.{Eq, Ne, Lt, Le, Gt, Ge}
use Rattle.dw_jexl.specs.declared.token.Token.{Token}
use Rattle.dw_jexl.specs.declared.token.Token.TheVariants.{Open, Close, Conjoin, Disjoin, Negate, Compare, Match, Assign, Name, Quoted}
use Rattle.dw_jexl.specs.Tokens.{is_blank, starts_word, in_word, all_in_word, starts_number, is_quote, word_token, piece, before, quoted, string_token, sign_token, first_token, past_blanks, AreReadAt, AreRead}
use Rattle.dw_jexl.specs.Patterns.{are_right}
use Rattle.dw_jexl.specs.Canonical.{sign_of, all_escaped, string_of}
use Rattle.dw_jexl.proofs.First.{first_word}
use Rattle.dw_jexl.proofs.Upper.{IsWord}

-- The text is read into these tokens, before what follows, and every pattern among them is right.
pub record Reads (text : List ℕ) (tokens : List Token → List Token) : Type 0 where
  pub read : (cs : List ℕ) (ts : List Token) (left : List ℕ) → AreRead cs ts left → AreRead (text ++ cs) (tokens ts) left
  pub right : (ts : List Token) → are_right ts ≡ true → are_right (tokens ts) ≡ true

-- one text behind another
pub beside : (a b : List ℕ) (f g : List Token → List Token) → Reads a f → Reads b g → Reads (a ++ b) (λ ts. f (g ts))
beside a b f g r s =
    record {
      read = λ cs ts left h. subst (λ xs. AreRead xs (f (g ts)) left) (sym (append_assoc a b cs)) (r.read (b ++ cs) (g ts) left (s.read cs ts left h));
      right = λ ts h. r.right (g ts) (s.right ts h);
    }

past_blank : (cs : List ℕ) → past_blanks (32 ∷ cs) ≡ past_blanks cs
unfolding is_blank
past_blank cs =
    let n : 1 + prefix_len is_blank cs ≡ suc (prefix_len is_blank cs) = omega arith in
    ap (λ k. drop k (32 ∷ cs)) n

-- a space adds no token
pub spaced : (cs : List ℕ) (ts : List Token) (left : List ℕ) → AreRead cs ts left → AreRead (32 ∷ cs) ts left
spaced cs ts left h = subst (λ xs. AreReadAt xs ts left) (sym (past_blank cs)) h

pub open_read : Reads (codes "(") (λ ts. Open ∷ ts)
unfolding is_blank first_token starts_word starts_number is_quote sign_token are_right
open_read = record { read = λ cs ts left h. (1, refl, h); right = λ ts h. h }

pub close_read : Reads (codes ")") (λ ts. Close ∷ ts)
unfolding is_blank first_token starts_word starts_number is_quote sign_token are_right
close_read = record { read = λ cs ts left h. (1, refl, h); right = λ ts h. h }

pub conjoin_read : Reads (codes " && ") (λ ts. Conjoin ∷ ts)
unfolding is_blank first_token starts_word starts_number is_quote sign_token are_right
conjoin_read = record { read = λ cs ts left h. (2, refl, spaced cs ts left h); right = λ ts h. h }

pub disjoin_read : Reads (codes " || ") (λ ts. Disjoin ∷ ts)
unfolding is_blank first_token starts_word starts_number is_quote sign_token are_right
disjoin_read = record { read = λ cs ts left h. (2, refl, spaced cs ts left h); right = λ ts h. h }

pub not_open_read : Reads (codes "!(") (λ ts. Negate ∷ Open ∷ ts)
unfolding is_blank first_token starts_word starts_number is_quote sign_token are_right
not_open_read = record { read = λ cs ts left h. (1, refl, (1, refl, h)); right = λ ts h. h }

pub bounded_read : Reads (codes "((_Bounded_ = true) && (") (λ ts. Open ∷ Open ∷ Name (codes "_Bounded_") ∷ Assign ∷ Name (codes "true") ∷ Close ∷ Conjoin ∷ Open ∷ ts)
unfolding is_blank first_token starts_word in_word starts_number is_quote sign_token word_token are_right
bounded_read =
    record {
      read = λ cs ts left h. (1, refl, (1, refl, (9, refl, (1, refl, (4, refl, (1, refl, (2, refl, (1, refl, h))))))));
      right = λ ts h. h;
    }

-- `!` before a character that does not make it a longer sign
pub negate_read : (c : ℕ) (cs : List ℕ) (ts : List Token) (left : List ℕ) → (c == 61) ≡ false → (c == 126) ≡ false → AreRead (c ∷ cs) ts left → AreRead (33 ∷ c ∷ cs) (Negate ∷ ts) left
unfolding is_blank first_token starts_word starts_number is_quote sign_token
negate_read c cs ts left e f h =
    (1, ap (λ b. cond b (Some (Compare Ne, 2)) (cond (c == 126) (Some (Match true, 2)) (Some (Negate, 1)))) e ∙ ap (λ b. cond b (Some (Match true, 2)) (Some (Negate, 1))) f, h)

-- an operator between two spaces
pub compare_read : (op : Op) (cs : List ℕ) (ts : List Token) (left : List ℕ) → AreRead cs ts left → AreRead (codes " " ++ (sign_of op ++ (codes " " ++ cs))) (Compare op ∷ ts) left
unfolding is_blank first_token starts_word starts_number is_quote sign_token
compare_read Eq cs ts left h = (2, refl, spaced cs ts left h)
compare_read Ne cs ts left h = (2, refl, spaced cs ts left h)
compare_read Lt cs ts left h = (1, refl, spaced cs ts left h)
compare_read Le cs ts left h = (2, refl, spaced cs ts left h)
compare_read Gt cs ts left h = (1, refl, spaced cs ts left h)
compare_read Ge cs ts left h = (2, refl, spaced cs ts left h)

pub match_read : (negated : Bool) (cs : List ℕ) (ts : List Token) (left : List ℕ) → AreRead cs ts left → AreRead (cond negated (codes " !~ ") (codes " =~ ") ++ cs) (Match negated ∷ ts) left
unfolding is_blank first_token starts_word starts_number is_quote sign_token
match_read true cs ts left h = (2, refl, spaced cs ts left h)
match_read false cs ts left h = (2, refl, spaced cs ts left h)

not_blank : (c : ℕ) → starts_word c ≡ true → is_blank c ≡ false
unfolding starts_word is_blank
not_blank c h = grind (arith, nat_tests)

-- no white space at the front
at_once : (c : ℕ) (cs : List ℕ) (ts : List Token) (left : List ℕ) → is_blank c ≡ false → AreReadAt (c ∷ cs) ts left → AreRead (c ∷ cs) ts left
at_once c cs ts left e h = subst (λ b. AreReadAt (drop (cond b (1 + prefix_len is_blank cs) 0) (c ∷ cs)) ts left) (sym e) h

word_length : (w cs : List ℕ) → all_in_word w ≡ true → prefix_len in_word (w ++ 32 ∷ cs) ≡ length w
unfolding in_word starts_word
word_length [] cs h = refl
word_length (c ∷ w) cs h =
    let p = and_parts (in_word c) (all_in_word w) h in
    let n : 1 + length w ≡ suc (length w) = omega arith in
    ap (λ b. cond b (1 + prefix_len in_word (w ++ 32 ∷ cs)) 0) p.0 ∙ ap (λ k. 1 + k) (word_length w cs p.1) ∙ n

-- a word before a space
pub name_read : (w cs : List ℕ) (ts : List Token) (left : List ℕ) → IsWord w → word_token w ≡ Name w → AreRead (32 ∷ cs) ts left → AreRead (w ++ 32 ∷ cs) (Name w ∷ ts) left
name_read [] cs ts left w e h = let no : false ≡ true = w.starts in cc
name_read (c ∷ v) cs ts left w e h =
    let all = (c ∷ v) ++ 32 ∷ cs in
    let n : prefix_len in_word all ≡ length (c ∷ v) = word_length (c ∷ v) cs w.goes_on in
    let first : first_token all ≡ Some (Name (c ∷ v), length (c ∷ v)) =
    first_word all (omega arith) w.starts
    ∙ ap (λ k. Some (word_token (take k all), k)) n
    ∙ ap (λ xs. Some (word_token xs, length (c ∷ v))) (take-append_seam (c ∷ v) (32 ∷ cs))
    ∙ ap (λ t. Some (t, length (c ∷ v))) e in
    at_once c (v ++ 32 ∷ cs) (Name (c ∷ v) ∷ ts) left (not_blank c w.starts)
    (length (c ∷ v), first, subst (λ xs. AreReadAt (past_blanks xs) ts left) (sym (drop-append_seam (c ∷ v) (32 ∷ cs))) h)

-- one more character of a string
put_escaped : (c : ℕ) (l : List ℕ) (n : ℕ) (b : Bool) (r : Option (List ℕ × ℕ)) → b ≡ true → r ≡ Some (l, n + 1) → before [] (before (cond b (c ∷ []) (92 ∷ c ∷ [])) r) ≡ Some (c ∷ l, suc (suc n) + 1)
put_escaped c l n b r e h =
    let k : n + 1 + 1 + 1 ≡ suc (suc n) + 1 = omega arith in
    ap (λ v. before [] (before (cond v (c ∷ []) (92 ∷ c ∷ [])) r)) e ∙ ap (λ o. before [] (before (c ∷ []) o)) h ∙ ap (λ m. Some (c ∷ l, m)) k

put_plain : (c : ℕ) (l : List ℕ) (n : ℕ) (r : Option (List ℕ × ℕ)) → r ≡ Some (l, n + 1) → before (c ∷ []) r ≡ Some (c ∷ l, suc n + 1)
put_plain c l n r h =
    let k : n + 1 + 1 ≡ suc n + 1 = omega arith in
    ap (λ o. before (c ∷ []) o) h ∙ ap (λ m. Some (c ∷ l, m)) k

quoted_more : (c : ℕ) (l cs : List ℕ) (a b : Bool) → (c == 39) ≡ a → (c == 92) ≡ b → quoted 39 false (all_escaped l ++ 39 ∷ cs) ≡ Some (l, length (all_escaped l) + 1) → quoted 39 false ((cond (a || b) (92 ∷ c ∷ []) (c ∷ []) ++ all_escaped l) ++ 39 ∷ cs) ≡ Some (c ∷ l, length (cond (a || b) (92 ∷ c ∷ []) (c ∷ []) ++ all_escaped l) + 1)
unfolding quoted piece
quoted_more c l cs true b e f h = put_escaped c l (length (all_escaped l)) (c == 39 || c == 92) (quoted 39 false (all_escaped l ++ 39 ∷ cs)) (or_left (c == 39) (c == 92) e) h
quoted_more c l cs false true e f h = put_escaped c l (length (all_escaped l)) (c == 39 || c == 92) (quoted 39 false (all_escaped l ++ 39 ∷ cs)) (or_right (c == 39) (c == 92) f) h
quoted_more c l cs false false e f h =
    let r = all_escaped l ++ 39 ∷ cs in
    ap (λ v. cond v (Some ([], 1)) (before (cond (c == 92) [] (c ∷ [])) (quoted 39 (c == 92) r))) e
    ∙ ap (λ v. before (cond v [] (c ∷ [])) (quoted 39 v r)) f
    ∙ put_plain c l (length (all_escaped l)) (quoted 39 false r) h

-- what a string stands for, and how many characters it takes
quoted_escaped : (l cs : List ℕ) → quoted 39 false (all_escaped l ++ 39 ∷ cs) ≡ Some (l, length (all_escaped l) + 1)
unfolding quoted
quoted_escaped [] cs = refl
quoted_escaped (c ∷ l) cs = quoted_more c l cs (c == 39) (c == 92) refl refl (quoted_escaped l cs)

pub string_read : (l cs : List ℕ) (ts : List Token) (left : List ℕ) → AreRead cs ts left → AreRead (string_of l ++ cs) (Quoted l ∷ ts) left
unfolding is_blank first_token starts_word starts_number is_quote string_token
string_read l cs ts left h =
    let e : (all_escaped l ++ codes "'") ++ cs ≡ all_escaped l ++ 39 ∷ cs = append_assoc (all_escaped l) (39 ∷ []) cs in
    let n : length (all_escaped l) + 1 + 1 ≡ suc (length (all_escaped l ++ 39 ∷ [])) = simp length-append (omega arith) in
    let first : string_token 39 ((all_escaped l ++ codes "'") ++ cs) ≡ Some (Quoted l, length (all_escaped l) + 1 + 1) =
    ap (string_token 39) e ∙ ap (option_map (λ p. (Quoted p.0, p.1 + 1))) (quoted_escaped l cs) in
    let behind : drop (length (all_escaped l) + 1 + 1) (39 ∷ ((all_escaped l ++ codes "'") ++ cs)) ≡ cs =
    ap (λ k. drop k (39 ∷ ((all_escaped l ++ codes "'") ++ cs))) n ∙ drop-append_seam (all_escaped l ++ codes "'") cs in
    (length (all_escaped l) + 1 + 1, first, subst (λ xs. AreReadAt (past_blanks xs) ts left) (sym behind) h)
