-- On the first bytes past all that begin with some.
use Rattle.std.proofs.Common.{◌≡◌, ℕ, ◌+◌, ◌==◌, Bool, true, false, cond, List, [], ◌∷◌, ◌++◌, refl, ap, ◌∙◌}
use Rattle.dw_plan.specs.Spans.{past, past_byte}

past_more : (x : ℕ) (xs : List ℕ) (c : ℕ) → past_byte x (xs ++ c ∷ []) ≡ x ∷ (xs ++ c ∷ [])
past_more x [] c = refl
past_more x (y ∷ ys) c = refl

pub past_push : (xs : List ℕ) (b : ℕ) → past (xs ++ b ∷ []) ≡ cond (b == 255) (past xs) (xs ++ (b + 1) ∷ [])
past_push [] b = refl
past_push (x ∷ xs) b = ap (past_byte x) (past_push xs b) ∙ at (b == 255)
  where
    at : (t : Bool) → past_byte x (cond t (past xs) (xs ++ (b + 1) ∷ [])) ≡ cond t (past (x ∷ xs)) (x ∷ (xs ++ (b + 1) ∷ []))
    at true = refl
    at false = past_more x xs (b + 1)
