-- What the tokens of a text are known to be: each name is a word.
use Rattle.std.proofs.Common.{◌≡◌, ℕ, suc, ◌+◌, Bool, true, false, cond, List, [], ◌∷◌, take, drop, Option, Some, None, refl, ap, ◌∙◌, subst, arith}
use Rattle.std.specs.Prelude.{◌==◌, option_map, slice_index}
use Rattle.std.specs.Char.{is_ascii_digit}
use Rattle.std.specs.List.{prefix_len}
use Rattle.std.proofs.lemmas.Bool.{and_from, or_left}
use Rattle.dw_jexl.specs.declared.query.Op.TheVariants.{Eq, Ne, Lt, Le, Gt, Ge}
use Rattle.dw_jexl.specs.declared.token.Token.{Token}
use Rattle.dw_jexl.specs.declared.token.Token.TheVariants.{Open, Close, Conjoin, Disjoin, Negate, Compare, Match, Assign, Name, Number, Quoted}
use Rattle.dw_jexl.specs.Tokens.{starts_word, in_word, first_starts, all_in_word, starts_number, is_quote, word_token, number_len, number_token, quoted, string_token, sign_token, first_token, past_blanks, AreReadAt}
use Rattle.dw_jexl.proofs.Upper.{IsWord}

abbrev pub IsNamed : Token → Type 0
IsNamed (Name w) = IsWord w
IsNamed _ = Unit {0}

abbrev pub AreNamed : List Token → Type 0
AreNamed [] = Unit {0}
AreNamed (t ∷ ts) = IsNamed t × AreNamed ts

abbrev IsNamedIn : Option (Token × ℕ) → Type 0
IsNamedIn None = Unit {0}
IsNamedIn (Some p) = IsNamed p.0

-- the same as records, whose arguments a use tells
record Named (t : Token) : Type 0 where
  named : IsNamed t

record NamedIn (o : Option (Token × ℕ)) : Type 0 where
  named : IsNamedIn o

choose : (b : Bool) (x y : Option (Token × ℕ)) → (b ≡ true → NamedIn x) → NamedIn y → NamedIn (cond b x y)
choose true x y h k = h refl
choose false x y h k = k

either : (b : Bool) (x y : Option (Token × ℕ)) → NamedIn x → NamedIn y → NamedIn (cond b x y)
either b x y h k = choose b x y (λ _. h) k

pick : (b : Bool) (x y : Token) → Named x → Named y → Named (cond b x y)
pick true x y h k = h
pick false x y h k = k

word_named : (w : List ℕ) → IsWord w → Named (word_token w)
unfolding word_token
word_named w h =
    pick _ Conjoin _ (record { named = tt }) (
    pick _ Disjoin _ (record { named = tt }) (
    pick _ Negate _ (record { named = tt }) (
    pick _ (Compare Eq) _ (record { named = tt }) (
    pick _ (Compare Ne) _ (record { named = tt }) (
    pick _ (Compare Lt) _ (record { named = tt }) (
    pick _ (Compare Le) _ (record { named = tt }) (
    pick _ (Compare Gt) _ (record { named = tt }) (
    pick _ (Compare Ge) (Name w) (record { named = tt }) (record { named = h })))))))))

taken_more : (c : ℕ) (cs : List ℕ) (n : ℕ) (b : Bool) → in_word c ≡ b → all_in_word (take n cs) ≡ true → all_in_word (take (cond b (1 + n) 0) (c ∷ cs)) ≡ true
taken_more c cs n true e h =
    let k : 1 + n ≡ suc n = omega arith in
    ap (λ m. all_in_word (take m (c ∷ cs))) k ∙ and_from (in_word c) _ e h
taken_more c cs n false e h = refl

taken : (cs : List ℕ) → all_in_word (take (prefix_len in_word cs) cs) ≡ true
taken [] = refl
taken (c ∷ cs) = taken_more c cs (prefix_len in_word cs) (in_word c) refl (taken cs)

starts_in_word : (c : ℕ) → starts_word c ≡ true → in_word c ≡ true
unfolding in_word
starts_in_word c h = or_left (starts_word c) (is_ascii_digit c) h

taken_starts : (c : ℕ) (cs : List ℕ) → starts_word c ≡ true → first_starts (take (prefix_len in_word (c ∷ cs)) (c ∷ cs)) ≡ true
taken_starts c cs h =
    let n : 1 + prefix_len in_word cs ≡ suc (prefix_len in_word cs) = omega arith in
    ap (λ b. first_starts (take (cond b (1 + prefix_len in_word cs) 0) (c ∷ cs))) (starts_in_word c h)
    ∙ ap (λ k. first_starts (take k (c ∷ cs))) n ∙ h

number_named : (cs : List ℕ) → NamedIn (number_token cs)
unfolding number_token
number_named cs = from (number_len cs)
  where
    from : (o : Option ℕ) → NamedIn (option_map (λ n. (Number (take n cs), n)) o)
    from None = record { named = tt }
    from (Some n) = record { named = tt }

string_named : (quote : ℕ) (cs : List ℕ) → NamedIn (string_token quote cs)
unfolding string_token
string_named quote cs = from (quoted quote false cs)
  where
    from : (o : Option (List ℕ × ℕ)) → NamedIn (option_map (λ p. (Quoted p.0, p.1 + 1)) o)
    from None = record { named = tt }
    from (Some p) = record { named = tt }

one : (t : Token) (n : ℕ) → IsNamed t → NamedIn (Some (t, n))
one t n h = record { named = h }

no : NamedIn None
no = record { named = tt }

sign_named : (c next : ℕ) → NamedIn (sign_token c next)
unfolding sign_token
sign_named c next =
    either (c == 40) _ _ (one Open 1 tt) (either (c == 41) _ _ (one Close 1 tt)
    (either (c == 38) _ _ (either (next == 38) _ _ (one Conjoin 2 tt) no)
    (either (c == 124) _ _ (either (next == 124) _ _ (one Disjoin 2 tt) no)
    (either (c == 33) _ _ (either (next == 61) _ _ (one (Compare Ne) 2 tt) (either (next == 126) _ _ (one (Match true) 2 tt) (one Negate 1 tt)))
    (either (c == 61) _ _ (either (next == 61) _ _ (one (Compare Eq) 2 tt) (either (next == 126) _ _ (one (Match false) 2 tt) (one Assign 1 tt)))
    (either (c == 60) _ _ (either (next == 61) _ _ (one (Compare Le) 2 tt) (one (Compare Lt) 1 tt))
    (either (c == 62) _ _ (either (next == 61) _ _ (one (Compare Ge) 2 tt) (one (Compare Gt) 1 tt)) no)))))))

first_named : (cs : List ℕ) → NamedIn (first_token cs)
unfolding first_token
first_named [] = no
first_named (c ∷ cs) =
    choose (starts_word c) _ _ (λ h. let w = word_named (take (prefix_len in_word (c ∷ cs)) (c ∷ cs)) (record { starts = taken_starts c cs h; goes_on = taken (c ∷ cs) }) in one _ _ w.named)
    (either (starts_number c) (number_token (c ∷ cs)) _ (number_named (c ∷ cs))
    (either (is_quote c) (string_token c cs) (sign_token c (slice_index cs 0)) (string_named c cs) (sign_named c (slice_index cs 0))))

-- each name among the tokens of a text is a word
pub read_named : (cs : List ℕ) (ts : List Token) (rest : List ℕ) → AreReadAt cs ts rest → AreNamed ts
read_named cs [] rest h = tt
read_named cs (t ∷ ts) rest h = (let n = subst (λ o. NamedIn o) h.1 (first_named cs) in n.named, read_named (past_blanks (drop h.0 cs)) ts rest h.2)
