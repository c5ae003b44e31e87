-- Runs of elements that pass a test, counted from the front.
use Rattle.std.proofs.Common.{◌≡◌, ℕ, zero, suc, ◌+◌, ◌<◌, ◌≤◌, Bool, true, false, cond, List, [], ◌∷◌, length, drop, get_or, refl, sym, ap, ◌∙◌, arith}
use Rattle.std.specs.Prelude.{slice_index}
use Rattle.std.specs.List.{prefix_len}
use Rattle.std.proofs.lemmas.List.{drop_more, drop_all}
use Rattle.dw_jexl.specs.declared.token.Token.{Token}
use Rattle.std.specs.Prelude.{◌&&◌, ◌||◌}
use Rattle.std.specs.Char.{is_ascii_digit}
use Rattle.dw_jexl.specs.Tokens.{starts_word, in_word, all_in_word, holds_at}

pub run_ends : (p : ℕ → Bool) (xs : List ℕ) (i : ℕ) → i < length xs → p (get_or xs i 0) ≡ false → prefix_len p (drop i xs) ≡ 0
run_ends p xs i h e = ap (prefix_len p) (drop_more xs i 0 h) ∙ ap (λ b. cond b (1 + prefix_len p (drop (i + 1) xs)) 0) e

pub run_goes_on : (p : ℕ → Bool) (xs : List ℕ) (i : ℕ) → i < length xs → p (get_or xs i 0) ≡ true → prefix_len p (drop i xs) ≡ 1 + prefix_len p (drop (i + 1) xs)
run_goes_on p xs i h e = ap (prefix_len p) (drop_more xs i 0 h) ∙ ap (λ b. cond b (1 + prefix_len p (drop (i + 1) xs)) 0) e

pub word_is_some : (cs : List ℕ) → 0 < length cs → starts_word (slice_index cs 0) ≡ true → 0 < prefix_len in_word cs
unfolding in_word
word_is_some [] h e = absurd (omega arith)
word_is_some (c ∷ cs) h e =
    let f : prefix_len in_word (c ∷ cs) ≡ 1 + prefix_len in_word cs =
    ap (λ b. cond (b || is_ascii_digit c) (1 + prefix_len in_word cs) 0) e in
    omega (arith, f)

pub words_go_on : (w : List ℕ) (i : ℕ) → i < length w → all_in_word (drop i w) ≡ (in_word (get_or w i 0) && all_in_word (drop (i + 1) w))
words_go_on w i h = ap all_in_word (drop_more w i 0 h)

pub words_end : (w : List ℕ) (i : ℕ) → length w ≤ i → all_in_word (drop i w) ≡ true
words_end w i h = ap all_in_word (drop_all i w h)

tokens_cell : (p : Token → Bool) (ts : List Token) (i : ℕ) → prefix_len p (drop i ts) ≡ cond (holds_at p ts i) (1 + prefix_len p (drop (i + 1) ts)) 0
tokens_cell p [] zero = refl
tokens_cell p [] (suc i) = refl
tokens_cell p (t ∷ ts) zero = refl
tokens_cell p (t ∷ ts) (suc i) =
    let e : suc i + 1 ≡ suc (i + 1) = omega arith in
    tokens_cell p ts i ∙ ap (λ n. cond (holds_at p ts i) (1 + prefix_len p (drop n (t ∷ ts))) 0) (sym e)

pub tokens_end : (p : Token → Bool) (ts : List Token) (i : ℕ) → holds_at p ts i ≡ false → prefix_len p (drop i ts) ≡ 0
tokens_end p ts i e = tokens_cell p ts i ∙ ap (λ b. cond b (1 + prefix_len p (drop (i + 1) ts)) 0) e

pub tokens_go_on : (p : Token → Bool) (ts : List Token) (i : ℕ) → holds_at p ts i ≡ true → prefix_len p (drop i ts) ≡ 1 + prefix_len p (drop (i + 1) ts)
tokens_go_on p ts i e = tokens_cell p ts i ∙ ap (λ b. cond b (1 + prefix_len p (drop (i + 1) ts)) 0) e

pub no_tokens : (p : Token → Bool) (ts : List Token) (i : ℕ) → length ts ≤ i → prefix_len p (drop i ts) ≡ 0
no_tokens p ts i h = ap (prefix_len p) (drop_all i ts h)
