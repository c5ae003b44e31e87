-- Texts that are read into known tokens.
use Rattle.std.proofs.Common.{◌≡◌, ℕ, suc, ◌+◌, ◌<◌, Bool, true, false, cond, List, [], ◌∷◌, ◌++◌, length, map, take, drop, Option, Some, refl, sym, ap, ◌∙◌, subst, arith, append_assoc, length-append}
use Rattle.std.specs.Prelude.{◌||◌, ◌==◌, option_map, slice_index, bytes_eq, codes}
use Rattle.std.specs.List.{prefix_len}
use Rattle.std.proofs.Math.Seq.{take-append_seam, drop-append_seam}
use Rattle.std.proofs.lemmas.Bool.{and_parts, and_from, or_parts, or_left, or_right, false_from_ne_true}
use Rattle.std.proofs.lemmas.Bool.Decides.{nat_tests}
use Rattle.std.proofs.lemmas.Slice.Eq.{bytes_eq-Decides}
use Rattle.std.proofs.lemmas.Option.{some_pair_parts}
use Rattle.std.proofs.lemmas.List.{append-nil}
use Rattle.dw_jexl.specs.declared.pattern.Piece.{Piece}
use Rattle.dw_jexl.specs.declared.pattern.Piece.TheVariants.{Literal, Wild, Broken}
use Rattle.dw_jexl.specs.Tokens as jexl
use Rattle.dw_jexl.specs.Tokens.{is_blank, starts_word, in_word, first_starts, all_in_word, is_word, quoted}
use Rattle.dw_jexl.specs.Grammar.{folded, names_field}
use Rattle.dw_jexl.specs.WellMade.{is_upper_field}
use Rattle.dw_lucene.specs.declared.token.Token.{Token}
use Rattle.dw_lucene.specs.declared.token.Token.TheVariants.{Open, Close, Conjoin, Disjoin, Negate, To, Colon, Field, Bare, Quoted}
use Rattle.dw_lucene.specs.Tokens.{is_special, ends_term, piece_of, piece, before, term, bare_token, term_token, sign_token, string_token, special_token, first_token, past_blanks, AreReadAt, AreRead}
use Rattle.dw_lucene.specs.Patterns.{term_is_right, first_is_right, are_right}
use Rattle.dw_lucene.specs.Printed.{all_escaped, string_of, needs_escape, literal_of, all_literal, wildcard_if, bare_text}
use Rattle.dw_lucene.proofs.First.{first_term}

-- where a term in a printed text ends: at the end of the text, a space or `)`
abbrev pub stops : List ℕ → Bool
stops [] = true
stops (c ∷ cs) = c == 32 || c == 41

-- The text is read into these tokens before whatever follows, and every term among them is right.
pub record Ahead (text : List ℕ) (tokens : List Token → List Token) : Type 0 where
  pub read : (cs : List ℕ) (ts : List Token) (left : List ℕ) → AreRead cs ts left → AreRead (text ++ cs) (tokens ts) left
  pub right : (ts : List Token) → are_right ts ≡ true → are_right (tokens ts) ≡ true

-- the same before a place where a term ends
pub record Reads (text : List ℕ) (tokens : List Token → List Token) : Type 0 where
  pub read : (cs : List ℕ) (ts : List Token) (left : List ℕ) → stops cs ≡ true → AreRead cs ts left → AreRead (text ++ cs) (tokens ts) left
  pub right : (ts : List Token) → are_right ts ≡ true → are_right (tokens ts) ≡ true

pub ahead : (a b : List ℕ) (f g : List Token → List Token) → Ahead a f → Reads b g → Reads (a ++ b) (λ ts. f (g ts))
ahead a b f g r s =
    record {
      read = λ cs ts left e h. subst (λ xs. AreRead xs (f (g ts)) left) (sym (append_assoc a b cs)) (r.read (b ++ cs) (g ts) left (s.read cs ts left e h));
      right = λ ts h. r.right (g ts) (s.right ts h);
    }

pub beside : (a b : List ℕ) (f g : List Token → List Token) → Reads a f → Reads b g → ((cs : List ℕ) → stops (b ++ cs) ≡ true) → Reads (a ++ b) (λ ts. f (g ts))
beside a b f g r s stop =
    record {
      read = λ cs ts left e h. subst (λ xs. AreRead xs (f (g ts)) left) (sym (append_assoc a b cs)) (r.read (b ++ cs) (g ts) left (stop cs) (s.read cs ts left e h));
      right = λ ts h. r.right (g ts) (s.right ts h);
    }

pub anywhere : (a : List ℕ) (f : List Token → List Token) → Ahead a f → Reads a f
anywhere a f r = record { read = λ cs ts left e h. r.read cs ts left h; right = λ ts h. r.right ts h }

-- what stands behind a token that asks nothing of it is right
first_free : (t : Token) → ((ps : List Piece) → term_is_right t ps ≡ true) → (ts : List Token) → first_is_right t ts ≡ true
first_free t h [] = refl
first_free t h (Bare ps ∷ us) = h ps
first_free t h (_ ∷ us) = refl

pub free_right : (t : Token) → ((ps : List Piece) → term_is_right t ps ≡ true) → (ts : List Token) → are_right ts ≡ true → are_right (t ∷ ts) ≡ true
unfolding are_right
free_right t h ts r = and_from (first_is_right t ts) (are_right ts) (first_free t h ts) r

past_blank : (cs : List ℕ) → past_blanks (32 ∷ cs) ≡ past_blanks cs
unfolding is_blank
past_blank cs =
    let n : 1 + prefix_len is_blank cs ≡ suc (prefix_len is_blank cs) = omega arith in
    ap (λ k. drop k (32 ∷ cs)) n

-- a space adds no token
pub spaced : (cs : List ℕ) (ts : List Token) (left : List ℕ) → AreRead cs ts left → AreRead (32 ∷ cs) ts left
spaced cs ts left h = subst (λ xs. AreReadAt xs ts left) (sym (past_blank cs)) h

-- no white space at the front
pub at_once : (cs : List ℕ) (ts : List Token) (left : List ℕ) → is_blank (slice_index cs 0) ≡ false → AreReadAt cs ts left → AreRead cs ts left
at_once [] ts left e h = h
at_once (c ∷ cs) ts left e h = subst (λ b. AreReadAt (drop (cond b (1 + prefix_len is_blank cs) 0) (c ∷ cs)) ts left) (sym e) h

pub open_read : Ahead (codes "(") (λ ts. Open ∷ ts)
unfolding is_blank is_special first_token special_token sign_token
open_read = record { read = λ cs ts left h. (1, refl, h); right = λ ts h. free_right Open (λ ps. refl) ts h }

pub close_read : Ahead (codes ")") (λ ts. Close ∷ ts)
unfolding is_blank is_special first_token special_token sign_token
close_read = record { read = λ cs ts left h. (1, refl, h); right = λ ts h. free_right Close (λ ps. refl) ts h }

pub and_read : Ahead (codes " AND ") (λ ts. Conjoin ∷ ts)
unfolding is_blank is_special ends_term piece_of piece term bare_token term_token first_token
and_read = record { read = λ cs ts left h. (3, refl, spaced cs ts left h); right = λ ts h. free_right Conjoin (λ ps. refl) ts h }

pub or_read : Ahead (codes " OR ") (λ ts. Disjoin ∷ ts)
unfolding is_blank is_special ends_term piece_of piece term bare_token term_token first_token
or_read = record { read = λ cs ts left h. (2, refl, spaced cs ts left h); right = λ ts h. free_right Disjoin (λ ps. refl) ts h }

pub not_read : Ahead (codes "NOT ") (λ ts. Negate ∷ ts)
unfolding is_blank is_special ends_term piece_of piece term bare_token term_token first_token
not_read = record { read = λ cs ts left h. (3, refl, spaced cs ts left h); right = λ ts h. free_right Negate (λ ps. refl) ts h }

-- one more character of a string
put_escaped : (c : ℕ) (l : List ℕ) (n : ℕ) (b : Bool) (r : Option (List ℕ × ℕ)) → b ≡ true → r ≡ Some (l, n + 1) → jexl.before [] (jexl.before (cond b (c ∷ []) (92 ∷ c ∷ [])) r) ≡ Some (c ∷ l, suc (suc n) + 1)
put_escaped c l n b r e h =
    let k : n + 1 + 1 + 1 ≡ suc (suc n) + 1 = omega arith in
    ap (λ v. jexl.before [] (jexl.before (cond v (c ∷ []) (92 ∷ c ∷ [])) r)) e ∙ ap (λ o. jexl.before [] (jexl.before (c ∷ []) o)) h ∙ ap (λ m. Some (c ∷ l, m)) k

put_plain : (c : ℕ) (l : List ℕ) (n : ℕ) (r : Option (List ℕ × ℕ)) → r ≡ Some (l, n + 1) → jexl.before (c ∷ []) r ≡ Some (c ∷ l, suc n + 1)
put_plain c l n r h =
    let k : n + 1 + 1 ≡ suc n + 1 = omega arith in
    ap (λ o. jexl.before (c ∷ []) o) h ∙ ap (λ m. Some (c ∷ l, m)) k

quoted_more : (c : ℕ) (l cs : List ℕ) (a b : Bool) → (c == 34) ≡ a → (c == 92) ≡ b → quoted 34 false (all_escaped l ++ 34 ∷ cs) ≡ Some (l, length (all_escaped l) + 1) → quoted 34 false ((cond (a || b) (92 ∷ c ∷ []) (c ∷ []) ++ all_escaped l) ++ 34 ∷ cs) ≡ Some (c ∷ l, length (cond (a || b) (92 ∷ c ∷ []) (c ∷ []) ++ all_escaped l) + 1)
unfolding quoted jexl.piece
quoted_more c l cs true b e f h = put_escaped c l (length (all_escaped l)) (c == 34 || c == 92) (quoted 34 false (all_escaped l ++ 34 ∷ cs)) (or_left (c == 34) (c == 92) e) h
quoted_more c l cs false true e f h = put_escaped c l (length (all_escaped l)) (c == 34 || c == 92) (quoted 34 false (all_escaped l ++ 34 ∷ cs)) (or_right (c == 34) (c == 92) f) h
quoted_more c l cs false false e f h =
    let r = all_escaped l ++ 34 ∷ cs in
    ap (λ v. cond v (Some ([], 1)) (jexl.before (cond (c == 92) [] (c ∷ [])) (quoted 34 (c == 92) r))) e
    ∙ ap (λ v. jexl.before (cond v [] (c ∷ [])) (quoted 34 v r)) f
    ∙ put_plain c l (length (all_escaped l)) (quoted 34 false r) h

-- what a string stands for, and how many characters it takes
quoted_escaped : (l cs : List ℕ) → quoted 34 false (all_escaped l ++ 34 ∷ cs) ≡ Some (l, length (all_escaped l) + 1)
unfolding quoted
quoted_escaped [] cs = refl
quoted_escaped (c ∷ l) cs = quoted_more c l cs (c == 34) (c == 92) refl refl (quoted_escaped l cs)

pub string_read : (l cs : List ℕ) (ts : List Token) (left : List ℕ) → AreRead cs ts left → AreRead (string_of l ++ cs) (Quoted l ∷ ts) left
unfolding is_blank is_special first_token special_token string_token
string_read l cs ts left h =
    let e : (all_escaped l ++ codes "\"") ++ cs ≡ all_escaped l ++ 34 ∷ cs = append_assoc (all_escaped l) (34 ∷ []) cs in
    let n : length (all_escaped l) + 1 + 1 ≡ suc (length (all_escaped l ++ 34 ∷ [])) = simp length-append (omega arith) in
    let first : string_token ((all_escaped l ++ codes "\"") ++ cs) ≡ Some (Quoted l, length (all_escaped l) + 1 + 1) =
    ap string_token e ∙ ap (option_map (λ p. (Quoted p.0, p.1 + 1))) (quoted_escaped l cs) in
    let behind : drop (length (all_escaped l) + 1 + 1) (34 ∷ ((all_escaped l ++ codes "\"") ++ cs)) ≡ cs =
    ap (λ k. drop k (34 ∷ ((all_escaped l ++ codes "\"") ++ cs))) n ∙ drop-append_seam (all_escaped l ++ codes "\"") cs in
    (length (all_escaped l) + 1 + 1, first, subst (λ xs. AreReadAt (past_blanks xs) ts left) (sym behind) h)

-- what stands behind a text
behind_text : (w cs : List ℕ) → slice_index (w ++ cs) (length w) ≡ slice_index cs 0
behind_text [] cs = refl
behind_text (x ∷ w) cs = behind_text w cs

next_behind : (w cs : List ℕ) → slice_index (w ++ cs) (length w + 1) ≡ slice_index cs 1
next_behind [] cs = refl
next_behind (x ∷ w) cs =
    let e : suc (length w) + 1 ≡ suc (length w + 1) = omega arith in
    ap (slice_index (x ∷ (w ++ cs))) e ∙ next_behind w cs

-- a term that takes some characters begins with one that may begin a term
pub record Starts (cs : List ℕ) : Type 0 where
  pub some : 0 < length cs
  pub special : is_special (slice_index cs 0) ≡ false
  pub blank : is_blank (slice_index cs 0) ≡ false

starts : (cs : List ℕ) (ps : List Piece) (n : ℕ) → term false cs ≡ Some (ps, n) → 0 < n → Starts cs
unfolding term ends_term
starts [] ps n e h = let z = (some_pair_parts [] ps 0 n e).1 in absurd (omega (arith, z))
starts (c ∷ cs) ps n e h = from (ends_term c) refl e
  where
    from : (b : Bool) → ends_term c ≡ b → cond b (Some ([], 0)) (before (piece false c) (term (c == 92) cs)) ≡ Some (ps, n) → Starts (c ∷ cs)
    from true k f = let z = (some_pair_parts [] ps 0 n f).1 in absurd (omega (arith, z))
    from false k f = let p = or_parts (is_blank c) (is_special c) k in record { some = omega arith; special = p.1; blank = p.0 }

-- the token of a term, and what is behind it
term_read : (w cs : List ℕ) (ps : List Piece) (t : Token) (used : ℕ) (rest : List ℕ) (ts : List Token) (left : List ℕ) → 0 < length w → term false (w ++ cs) ≡ Some (ps, length w) → term_token (w ++ cs) (ps, length w) ≡ (t, used) → drop used (w ++ cs) ≡ rest → AreRead rest ts left → AreRead (w ++ cs) (t ∷ ts) left
term_read w cs ps t used rest ts left some e f d h =
    let s = starts (w ++ cs) ps (length w) e some in
    let first : first_token (w ++ cs) ≡ Some (t, used) =
    first_term (w ++ cs) s.some s.special s.blank ∙ ap (option_map (term_token (w ++ cs))) e ∙ ap Some f in
    at_once (w ++ cs) (t ∷ ts) left s.blank (used, first, subst (λ xs. AreReadAt (past_blanks xs) ts left) (sym d) h)

-- a field in upper case
pub record IsUpper (w : List ℕ) : Type 0 where
  pub starts : first_starts w ≡ true
  pub goes_on : all_in_word w ≡ true
  pub field : names_field w ≡ true
  pub same : folded w ≡ w

pub upper_parts : (w : List ℕ) → is_upper_field w ≡ true → IsUpper w
unfolding is_upper_field names_field is_word
upper_parts w h =
    let p = and_parts _ _ h in
    let q = and_parts _ _ p.0 in
    let r = and_parts _ _ q.0 in
    let v = and_parts _ _ r.0 in
    record { starts = v.0; goes_on = v.1; field = p.0; same = (bytes_eq-Decides (folded w) w).0 p.1 }

-- a character of a word ends no term and is no `\`
word_goes_on : (c : ℕ) → in_word c ≡ true → ends_term c ≡ false
unfolding in_word starts_word ends_term is_blank is_special
word_goes_on c h = grind (arith, nat_tests)

word_no_escape : (c : ℕ) → in_word c ≡ true → (c == 92) ≡ false
unfolding in_word starts_word
word_no_escape c h = grind (arith, nat_tests)

word_term : (w cs : List ℕ) → all_in_word w ≡ true → term false (w ++ 58 ∷ cs) ≡ Some (map piece_of w, length w)
unfolding term piece ends_term is_blank is_special
word_term [] cs h = refl
word_term (c ∷ w) cs h =
    let p = and_parts (in_word c) (all_in_word w) h in
    let n : length w + 1 ≡ suc (length w) = omega arith in
    let r = term (c == 92) (w ++ 58 ∷ cs) in
    ap (λ b. cond b (Some ([], 0)) (before (piece false c) r)) (word_goes_on c p.0)
    ∙ ap (λ b. before (cond b [] (piece_of c ∷ [])) (term b (w ++ 58 ∷ cs))) (word_no_escape c p.0)
    ∙ ap (before (piece_of c ∷ [])) (word_term w cs p.1)
    ∙ ap (λ k. Some (piece_of c ∷ map piece_of w, k)) n

field_token : (w cs : List ℕ) → is_blank (slice_index cs 0) ≡ false → term_token (w ++ 58 ∷ cs) (map piece_of w, length w) ≡ (Field w, length w + 1)
unfolding term_token
field_token w cs e =
    let all = w ++ 58 ∷ cs in
    let n = length w in
    let inner : Token × ℕ = (bare_token (take n all) (map piece_of w), n) in
    let found : (slice_index all n == 58) ≡ true = ap (λ c. c == 58) (behind_text w (58 ∷ cs)) in
    let next : is_blank (slice_index all (n + 1)) ≡ false = ap is_blank (next_behind w (58 ∷ cs)) ∙ e in
    ap (λ b. cond b (cond (is_blank (slice_index all (n + 1))) (Colon, n + 1) (Field (take n all), n + 1)) inner) found
    ∙ ap (λ b. cond b (Colon, n + 1) (Field (take n all), n + 1)) next
    ∙ ap (λ xs. (Field xs, n + 1)) (take-append_seam w (58 ∷ cs))

-- a field before what is asked of it
pub field_read : (w cs : List ℕ) (ts : List Token) (left : List ℕ) → IsUpper w → is_blank (slice_index cs 0) ≡ false → AreRead cs ts left → AreRead (w ++ 58 ∷ cs) (Field w ∷ ts) left
field_read [] cs ts left u e h = let no : false ≡ true = u.starts in cc
field_read (c ∷ v) cs ts left u e h =
    let w = c ∷ v in
    let n : length w + 1 ≡ length (w ++ 58 ∷ []) = simp length-append in
    let d : drop (length w + 1) (w ++ 58 ∷ cs) ≡ cs =
    ap (λ xs. drop (length w + 1) xs) (sym (append_assoc w (58 ∷ []) cs)) ∙ ap (λ k. drop k ((w ++ 58 ∷ []) ++ cs)) n ∙ drop-append_seam (w ++ 58 ∷ []) cs in
    term_read w (58 ∷ cs) (map piece_of w) (Field w) (length w + 1) cs ts left (omega arith) (word_term w cs u.goes_on) (field_token w cs e) d h

-- pieces of a bare term
abbrev pub literals : List ℕ → List Piece
literals [] = []
literals (c ∷ cs) = Literal c ∷ literals cs

abbrev pub wild_if : Bool → List Piece
wild_if wild = cond wild (Wild ∷ []) []

abbrev pub bare_pieces : Bool → Bool → List ℕ → List Piece
bare_pieces lead trail text = wild_if lead ++ (literals text ++ wild_if trail)

stop_ends : (c : ℕ) → (c == 32 || c == 41) ≡ true → ends_term c ≡ true
unfolding ends_term is_blank is_special
stop_ends c h = grind (arith, nat_tests)

stop_term : (cs : List ℕ) → stops cs ≡ true → term false cs ≡ Some ([], 0)
unfolding term
stop_term [] h = refl
stop_term (c ∷ cs) h = ap (λ b. cond b (Some ([], 0)) (before (piece false c) (term (c == 92) cs))) (stop_ends c h)

stop_colon : (cs : List ℕ) → stops cs ≡ true → (slice_index cs 0 == 58) ≡ false
stop_colon [] h = refl
stop_colon (c ∷ cs) h = grind (arith, nat_tests)

wild_term : (wild : Bool) (cs : List ℕ) (ps : List Piece) (n : ℕ) → term false cs ≡ Some (ps, n) → term false (wildcard_if wild ++ cs) ≡ Some (wild_if wild ++ ps, length (wildcard_if wild) + n)
unfolding term piece piece_of ends_term is_blank is_special
wild_term true cs ps n e =
    let k : n + 1 ≡ 1 + n = omega arith in
    ap (before (Wild ∷ [])) e ∙ ap (λ m. Some (Wild ∷ ps, m)) k
wild_term false cs ps n e = let k : n ≡ 0 + n = omega arith in e ∙ ap (λ m. Some (ps, m)) k

plain_piece : (c : ℕ) → (c == 42) ≡ false → (c == 63) ≡ false → piece_of c ≡ Literal c
unfolding piece_of
plain_piece c e f = ap (λ b. cond b Wild (cond (c == 63) Broken (Literal c))) e ∙ ap (λ b. cond b Broken (Literal c)) f

escaped_term : (c : ℕ) (cs : List ℕ) (ps : List Piece) (n : ℕ) → term false cs ≡ Some (ps, n) → term false (92 ∷ c ∷ cs) ≡ Some (Literal c ∷ ps, 2 + n)
unfolding term piece ends_term is_blank is_special
escaped_term c cs ps n e =
    let k : n + 1 + 1 ≡ 2 + n = omega arith in
    ap (λ r. before [] (before (Literal c ∷ []) r)) e ∙ ap (λ m. Some (Literal c ∷ ps, m)) k

plain_term : (c : ℕ) (cs : List ℕ) (ps : List Piece) (n : ℕ) → term false cs ≡ Some (ps, n) → needs_escape c ≡ false → term false (c ∷ cs) ≡ Some (Literal c ∷ ps, 1 + n)
unfolding needs_escape term piece
plain_term c cs ps n e h =
    let p = or_parts (ends_term c || c == 92 || c == 42) (c == 63) h in
    let q = or_parts (ends_term c || c == 92) (c == 42) p.0 in
    let r = or_parts (ends_term c) (c == 92) q.0 in
    let k : n + 1 ≡ 1 + n = omega arith in
    ap (λ b. cond b (Some ([], 0)) (before (piece false c) (term (c == 92) cs))) r.0
    ∙ ap (λ b. before (cond b [] (piece_of c ∷ [])) (term b cs)) r.1
    ∙ ap (λ x. before (x ∷ []) (term false cs)) (plain_piece c q.1 p.1)
    ∙ ap (before (Literal c ∷ [])) e ∙ ap (λ m. Some (Literal c ∷ ps, m)) k

literal_term : (c : ℕ) (cs : List ℕ) (ps : List Piece) (n : ℕ) → term false cs ≡ Some (ps, n) → term false (literal_of c ++ cs) ≡ Some (Literal c ∷ ps, length (literal_of c) + n)
unfolding literal_of
literal_term c cs ps n e = from (needs_escape c) refl
  where
    from : (b : Bool) → needs_escape c ≡ b → term false (cond b (92 ∷ c ∷ []) (c ∷ []) ++ cs) ≡ Some (Literal c ∷ ps, length (cond b (92 ∷ c ∷ []) (c ∷ [])) + n)
    from true k = escaped_term c cs ps n e
    from false k = plain_term c cs ps n e k

all_term : (text cs : List ℕ) (ps : List Piece) (n : ℕ) → term false cs ≡ Some (ps, n) → term false (all_literal text ++ cs) ≡ Some (literals text ++ ps, length (all_literal text) + n)
all_term [] cs ps n e = let k : n ≡ 0 + n = omega arith in e ∙ ap (λ m. Some (ps, m)) k
all_term (c ∷ text) cs ps n e =
    let k : length (literal_of c) + (length (all_literal text) + n) ≡ length (literal_of c ++ all_literal text) + n = omega (arith, length-append (literal_of c) (all_literal text)) in
    ap (term false) (append_assoc (literal_of c) (all_literal text) cs)
    ∙ literal_term c (all_literal text ++ cs) (literals text ++ ps) (length (all_literal text) + n) (all_term text cs ps n e)
    ∙ ap (λ m. Some (Literal c ∷ (literals text ++ ps), m)) k

bare_term : (lead trail : Bool) (text cs : List ℕ) → stops cs ≡ true → term false (bare_text lead trail text ++ cs) ≡ Some (bare_pieces lead trail text, length (bare_text lead trail text))
bare_term lead trail text cs h =
    let a = wildcard_if lead in
    let b = all_literal text in
    let c = wildcard_if trail in
    let k : length a + (length b + (length c + 0)) ≡ length (a ++ (b ++ c)) = omega (arith, length-append a (b ++ c), length-append b c) in
    ap (term false) (append_assoc a (b ++ c) cs ∙ ap (λ xs. a ++ xs) (append_assoc b c cs))
    ∙ wild_term lead (b ++ (c ++ cs)) (literals text ++ (wild_if trail ++ [])) (length b + (length c + 0))
    (all_term text (c ++ cs) (wild_if trail ++ []) (length c + 0) (wild_term trail cs [] 0 (stop_term cs h)))
    ∙ ap (λ ps. Some (wild_if lead ++ (literals text ++ ps), length a + (length b + (length c + 0)))) (append-nil (wild_if trail))
    ∙ ap (λ m. Some (bare_pieces lead trail text, m)) k

-- a bare term with a wildcard is no operator
abbrev has_star : List ℕ → Bool
has_star [] = false
has_star (c ∷ cs) = c == 42 || has_star cs

star_behind : (a b : List ℕ) → has_star b ≡ true → has_star (a ++ b) ≡ true
star_behind [] b h = h
star_behind (c ∷ a) b h = or_right (c == 42) (has_star (a ++ b)) (star_behind a b h)

bare_has_star : (lead trail : Bool) (text : List ℕ) → (lead || trail) ≡ true → has_star (bare_text lead trail text) ≡ true
bare_has_star true trail text h = refl
bare_has_star false true text h = star_behind (all_literal text) (codes "*") refl
bare_has_star false false text h = cc

no_operator : (w o : List ℕ) → has_star w ≡ true → has_star o ≡ false → bytes_eq w o ≡ false
no_operator w o h k = false_from_ne_true (bytes_eq w o) (λ e. let no : true ≡ false = sym h ∙ ap has_star ((bytes_eq-Decides w o).0 e) ∙ k in cc)

star_token : (w : List ℕ) (ps : List Piece) → has_star w ≡ true → bare_token w ps ≡ Bare ps
unfolding bare_token
star_token w ps h =
    ap (λ b. cond b Conjoin (cond (bytes_eq w (codes "OR")) Disjoin (cond (bytes_eq w (codes "NOT")) Negate (cond (bytes_eq w (codes "TO")) To (Bare ps))))) (no_operator w (codes "AND") h refl)
    ∙ ap (λ b. cond b Disjoin (cond (bytes_eq w (codes "NOT")) Negate (cond (bytes_eq w (codes "TO")) To (Bare ps)))) (no_operator w (codes "OR") h refl)
    ∙ ap (λ b. cond b Negate (cond (bytes_eq w (codes "TO")) To (Bare ps))) (no_operator w (codes "NOT") h refl)
    ∙ ap (λ b. cond b To (Bare ps)) (no_operator w (codes "TO") h refl)

pub record IsBare (text : List ℕ) (ps : List Piece) : Type 0 where
  pub begins : (cs : List ℕ) → stops cs ≡ true → is_blank (slice_index (text ++ cs) 0) ≡ false
  pub read : (cs : List ℕ) (ts : List Token) (left : List ℕ) → stops cs ≡ true → AreRead cs ts left → AreRead (text ++ cs) (Bare ps ∷ ts) left

star_some : (w : List ℕ) → has_star w ≡ true → 0 < length w
star_some [] h = cc
star_some (c ∷ w) h = omega arith

pub bare_read : (lead trail : Bool) (text : List ℕ) → (lead || trail) ≡ true → IsBare (bare_text lead trail text) (bare_pieces lead trail text)
unfolding term_token
bare_read lead trail text h =
    let w = bare_text lead trail text in
    let ps = bare_pieces lead trail text in
    let star = bare_has_star lead trail text h in
    let some : 0 < length w = star_some w star in
    record {
      begins = λ cs stop. let s = starts (w ++ cs) ps (length w) (bare_term lead trail text cs stop) some in s.blank;
      read = λ cs ts left stop r.
          let all = w ++ cs in
          let found : (slice_index all (length w) == 58) ≡ false = ap (λ c. c == 58) (behind_text w cs) ∙ stop_colon cs stop in
          let token : term_token all (ps, length w) ≡ (Bare ps, length w) =
          ap (λ b. cond b (cond (is_blank (slice_index all (length w + 1))) (Colon, length w + 1) (Field (take (length w) all), length w + 1)) (bare_token (take (length w) all) ps, length w)) found
          ∙ ap (λ xs. (bare_token xs ps, length w)) (take-append_seam w cs) ∙ ap (λ t. (t, length w)) (star_token w ps star) in
          term_read w cs ps (Bare ps) (length w) cs ts left some (bare_term lead trail text cs stop) token (drop-append_seam w cs) r;
    }
