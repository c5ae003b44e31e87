-- Lists of the numbers of jobs.
use Rattle.std.specs.Prelude.{ℕ, ◌≡◌, ◌+◌, ◌≤◌, cond, nat_eq, nat_lt, List, [], ◌∷◌}

-- how often n stands in the list
abbrev pub times : ℕ → List ℕ → ℕ
times n [] = 0
times n (x ∷ xs) = cond (nat_eq x n) 1 0 + times n xs

-- 1 for a number below the bound, and 0 for any other
abbrev pub one_below : ℕ → ℕ → ℕ
one_below bound n = cond (nat_lt n bound) 1 0

-- each number below the bound stands in the list once, and no other number does
abbrev pub EachOnce : ℕ → List ℕ → Type 0
EachOnce bound xs = (n : ℕ) → times n xs ≡ one_below bound n

-- the numbers go up strictly, from low on, and are below top
abbrev pub Climbs : ℕ → ℕ → List ℕ → Type 0
Climbs low top [] = low ≤ top
Climbs low top (x ∷ xs) = (low ≤ x) × Climbs (x + 1) top xs
