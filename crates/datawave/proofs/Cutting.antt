-- On cutting bytes at line feeds.
use Rattle.std.proofs.Common.{◌≡◌, ◌==◌, ◌++◌, ◌∷◌, [], ℕ, Bool, true, false, cond, List, refl, ap}
use Rattle.datawave.specs.Lines.{whole_lines_after, rest_after, line_feed}

whole_at : (b : Bool) (front bs ys : List ℕ) (y : ℕ)
    → whole_lines_after [] (bs ++ ys) ≡ whole_lines_after [] bs ++ whole_lines_after (rest_after [] bs) ys
    → whole_lines_after (front ++ y ∷ []) (bs ++ ys) ≡ whole_lines_after (front ++ y ∷ []) bs ++ whole_lines_after (rest_after (front ++ y ∷ []) bs) ys
    → cond b (front ∷ whole_lines_after [] (bs ++ ys)) (whole_lines_after (front ++ y ∷ []) (bs ++ ys))
    ≡ cond b (front ∷ whole_lines_after [] bs) (whole_lines_after (front ++ y ∷ []) bs) ++ whole_lines_after (cond b (rest_after [] bs) (rest_after (front ++ y ∷ []) bs)) ys
whole_at true front bs ys y h k = ap (λ ls. front ∷ ls) h
whole_at false front bs ys y h k = k

-- the whole lines of one stretch, and then of another
pub whole_then : (front xs ys : List ℕ) → whole_lines_after front (xs ++ ys) ≡ whole_lines_after front xs ++ whole_lines_after (rest_after front xs) ys
whole_then front [] ys = refl
whole_then front (x ∷ xs) ys = whole_at (x == line_feed) front xs ys x (whole_then [] xs ys) (whole_then (front ++ x ∷ []) xs ys)

rest_at : (b : Bool) (front bs ys : List ℕ) (y : ℕ)
    → rest_after [] (bs ++ ys) ≡ rest_after (rest_after [] bs) ys
    → rest_after (front ++ y ∷ []) (bs ++ ys) ≡ rest_after (rest_after (front ++ y ∷ []) bs) ys
    → cond b (rest_after [] (bs ++ ys)) (rest_after (front ++ y ∷ []) (bs ++ ys)) ≡ rest_after (cond b (rest_after [] bs) (rest_after (front ++ y ∷ []) bs)) ys
rest_at true front bs ys y h k = h
rest_at false front bs ys y h k = k

pub rest_then : (front xs ys : List ℕ) → rest_after front (xs ++ ys) ≡ rest_after (rest_after front xs) ys
rest_then front [] ys = refl
rest_then front (x ∷ xs) ys = rest_at (x == line_feed) front xs ys x (rest_then [] xs ys) (rest_then (front ++ x ∷ []) xs ys)
