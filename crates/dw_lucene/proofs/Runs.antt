-- Runs of tokens that pass a test, counted from the front.
use Rattle.std.proofs.Common.{◌≡◌, ℕ, zero, suc, ◌+◌, ◌≤◌, Bool, true, false, cond, List, [], ◌∷◌, length, drop, refl, sym, ap, ◌∙◌, arith}
use Rattle.std.specs.List.{prefix_len}
use Rattle.std.proofs.lemmas.List.{drop_all}
use Rattle.dw_lucene.specs.declared.token.Token.{Token}
use Rattle.dw_lucene.specs.Tokens.{holds_at}

tokens_cell : (p : Token → Bool) (ts : List Token) (i : ℕ) → prefix_len p (drop i ts) ≡ cond (holds_at p ts i) (1 + prefix_len p (drop (i + 1) ts)) 0
tokens_cell p [] zero = refl
tokens_cell p [] (suc i) = refl
tokens_cell p (t ∷ ts) zero = refl
tokens_cell p (t ∷ ts) (suc i) =
    let e : suc i + 1 ≡ suc (i + 1) = omega arith in
    tokens_cell p ts i ∙ ap (λ n. cond (holds_at p ts i) (1 + prefix_len p (drop n (t ∷ ts))) 0) (sym e)

pub tokens_end : (p : Token → Bool) (ts : List Token) (i : ℕ) → holds_at p ts i ≡ false → prefix_len p (drop i ts) ≡ 0
tokens_end p ts i e = tokens_cell p ts i ∙ ap (λ b. cond b (1 + prefix_len p (drop (i + 1) ts)) 0) e

pub tokens_go_on : (p : Token → Bool) (ts : List Token) (i : ℕ) → holds_at p ts i ≡ true → prefix_len p (drop i ts) ≡ 1 + prefix_len p (drop (i + 1) ts)
tokens_go_on p ts i e = tokens_cell p ts i ∙ ap (λ b. cond b (1 + prefix_len p (drop (i + 1) ts)) 0) e

pub no_tokens : (p : Token → Bool) (ts : List Token) (i : ℕ) → length ts ≤ i → prefix_len p (drop i ts) ≡ 0
no_tokens p ts i h = ap (prefix_len p) (drop_all i ts h)
