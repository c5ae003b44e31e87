-- The tokens of a text, up to where none can be read.
use Rattle.std.proofs.Common.{◌≡◌, ◌≢◌, ℕ, zero, suc, ◌+◌, ◌<◌, ◌≤◌, Bool, true, false, List, [], ◌∷◌, length, take, drop, Option, Some, None, IfSome, option_map, refl, ap, arith, length-drop}
use Rattle.std.specs.Prelude.{if◌then◌else◌, ◌==◌, ◌&&◌, slice_index, nat_lt, not}
use Rattle.std.specs.List.{prefix_len}
use Rattle.std.proofs.lemmas.Bool.{eqb-false}
use Rattle.std.proofs.lemmas.Bool.Decides.{nat_tests}
use Rattle.dw_jexl.specs.declared.token.Token.{Token}
use Rattle.dw_jexl.specs.Tokens.{starts_word, in_word, is_quote, starts_number, first_token, number_token, number_len, string_token, sign_token, quoted, sign_len, digits_from, fraction_end, past_blanks, is_blank, AreReadAt, AreRead}
use Rattle.dw_jexl.proofs.Runs.{word_is_some}
use Rattle.dw_wire.specs.QueryTexts.{with_token, tokens_within, tokens_of}

-- a token takes at least one character
abbrev Takes : Option (Token × ℕ) → Type 0
Takes o = IfSome o (λ p. 0 < p.1)

takes_either : (b : Bool) (x y : Option (Token × ℕ)) → (b ≡ true → Takes x) → (b ≡ false → Takes y) → Takes (if b then x else y)
takes_either true x y h k = h refl
takes_either false x y h k = k refl

fraction_after : (cs : List ℕ) (at : ℕ) → at ≤ fraction_end cs at
unfolding fraction_end
fraction_after cs at = at_test (slice_index cs at == 46 && nat_lt 0 (digits_from cs (at + 1)))
  where
    at_test : (b : Bool) → at ≤ (if b then at + 1 + digits_from cs (at + 1) else at)
    at_test true = omega arith
    at_test false = omega arith

number_some : (cs : List ℕ) → IfSome (number_len cs) (λ n. 0 < n)
unfolding number_len
number_some cs = at (digits_from cs (sign_len cs))
  where
    last : (b : Bool) (n : ℕ) → 0 < n → IfSome (if b then Some n else None) (λ m. 0 < m)
    last true n h = h
    last false n h = tt

    both : (b : Bool) (m : ℕ) (o : Option ℕ) → 0 < m → IfSome o (λ n. 0 < n) → IfSome (if b then Some m else o) (λ n. 0 < n)
    both true m o h k = h
    both false m o h k = k

    unless : (b : Bool) (o : Option ℕ) → (b ≡ false → IfSome o (λ n. 0 < n)) → IfSome (if b then None else o) (λ n. 0 < n)
    unless true o h = tt
    unless false o h = h refl

    at : (whole : ℕ) → IfSome (if whole == 0 then None
        else (if not (in_word (slice_index cs (fraction_end cs (sign_len cs + whole)))) then Some (fraction_end cs (sign_len cs + whole))
        else (if not (in_word (slice_index cs (sign_len cs + whole))) then Some (sign_len cs + whole)
        else None))) (λ n. 0 < n)
    at whole = unless (whole == 0) _ (λ e.
        let ne : whole ≢ 0 = eqb-false whole 0 e in
        let some : 0 < sign_len cs + whole = omega arith in
        both (not (in_word (slice_index cs (fraction_end cs (sign_len cs + whole))))) (fraction_end cs (sign_len cs + whole)) _
        (omega (arith, fraction_after cs (sign_len cs + whole)))
        (last (not (in_word (slice_index cs (sign_len cs + whole)))) (sign_len cs + whole) some))

number_takes : (cs : List ℕ) → Takes (number_token cs)
unfolding number_token
number_takes cs = at (number_len cs) (number_some cs)
  where
    at : (o : Option ℕ) → IfSome o (λ n. 0 < n) → Takes (option_map (λ n. (Token.Number (take n cs), n)) o)
    at None h = tt
    at (Some n) h = h

string_takes : (quote : ℕ) (cs : List ℕ) → Takes (string_token quote cs)
unfolding string_token
string_takes quote cs = at (quoted quote false cs)
  where
    at : (o : Option (List ℕ × ℕ)) → Takes (option_map (λ p. (Token.Quoted p.0, p.1 + 1)) o)
    at None = tt
    at (Some p) = omega arith

sign_takes : (c next : ℕ) → Takes (sign_token c next)
unfolding sign_token
sign_takes c next = grind (arith, nat_tests)

token_takes : (cs : List ℕ) → Takes (first_token cs)
unfolding first_token
token_takes [] = tt
token_takes (c ∷ cs) =
    takes_either (starts_word c) _ _ (λ e. word_is_some (c ∷ cs) (omega arith) e) (λ _.
    takes_either (starts_number c) _ _ (λ _. number_takes (c ∷ cs)) (λ _.
    takes_either (is_quote c) _ _ (λ _. string_takes c cs) (λ _. sign_takes c (slice_index cs 0))))

-- fewer characters are behind a token
shorter : (cs : List ℕ) (n : ℕ) (p : Token × ℕ) → first_token cs ≡ Some p → length cs < suc n → length (past_blanks (drop p.1 cs)) < n
unfolding first_token
shorter [] n p e h = cc
shorter (c ∷ cs) n p e h =
    let some : 0 < p.1 = at (first_token (c ∷ cs)) e (token_takes (c ∷ cs)) in
    let behind = drop p.1 (c ∷ cs) in
    omega (arith, some, length-drop p.1 (c ∷ cs), length-drop (prefix_len is_blank behind) behind)
  where
    at : (o : Option (Token × ℕ)) → o ≡ Some p → Takes o → 0 < p.1
    at None e h = cc
    at (Some q) e h = let same : q ≡ p = cc in omega (arith, h, ap (λ r. r.1) same)

read_within : (n : ℕ) (cs : List ℕ) → length cs < n → AreReadAt cs (tokens_within n cs).0 (tokens_within n cs).1
read_within zero cs h = absurd (omega arith)
read_within (suc n) cs h = at (λ ds k. read_within n ds k) (first_token cs) refl
  where
    at : ((ds : List ℕ) → length ds < n → AreReadAt ds (tokens_within n ds).0 (tokens_within n ds).1) → (o : Option (Token × ℕ)) → first_token cs ≡ o
        → AreReadAt cs (with_token (tokens_within n) cs o).0 (with_token (tokens_within n) cs o).1
    at behind None e = (refl, e)
    at behind (Some p) e = (p.1, e, behind (past_blanks (drop p.1 cs)) (shorter cs n p e h))

pub tokens_read : (cs : List ℕ) → AreRead cs (tokens_of cs).0 (tokens_of cs).1
unfolding tokens_of
tokens_read cs = read_within (length cs + 1) (past_blanks cs) (omega (arith, length-drop (prefix_len is_blank cs) cs))
