-- Whether terms are right, one token after another.
use Rattle.std.proofs.Common.{◌≡◌, ℕ, zero, suc, ◌+◌, ◌<◌, ◌≤◌, true, List, [], ◌∷◌, length, drop, refl, sym, ap, ◌∙◌, arith}
use Rattle.std.specs.Prelude.{◌&&◌, slice_get}
use Rattle.std.proofs.lemmas.List.{drop_all}
use Rattle.dw_lucene.specs.declared.token.Token.{Token}
use Rattle.dw_lucene.specs.Patterns.{right_before, is_right_at, are_right}

pub right_goes_on : (ts : List Token) (i : ℕ) → i < length ts → are_right (drop i ts) ≡ (is_right_at ts i && are_right (drop (i + 1) ts))
unfolding are_right
right_goes_on [] i h = absurd (omega arith)
right_goes_on (t ∷ ts) zero h = refl
right_goes_on (t ∷ ts) (suc i) h =
    let e : suc i + 1 ≡ suc (i + 1) = omega arith in
    right_goes_on ts i (omega arith)
    ∙ ap (λ n. right_before (drop n (t ∷ ts)) (slice_get ts i) && are_right (drop n (t ∷ ts))) (sym e)

pub right_at_end : (ts : List Token) (i : ℕ) → length ts ≤ i → are_right (drop i ts) ≡ true
unfolding are_right
right_at_end ts i h = ap are_right (drop_all i ts h)
