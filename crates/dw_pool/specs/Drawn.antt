-- The rule of a claim counter, over its one word and what each pass has drawn from it.
use Rattle.std.specs.Prelude.{ℕ, ◌≡◌, ◌+◌, ◌≤◌, cond, nat_lt, List, [], ◌∷◌, ◌++◌, length, slice_index}
use lib.ListN.{get_elem?}
use mathlib.Core.Option.{some}
use Rattle.dw_pool.specs.declared.drawing.Hand.{Hand}
use Rattle.dw_pool.specs.Numbers.{times, one_below}

abbrev pub hand : ℕ → List ℕ → Hand
hand parts drawn = record { parts = parts; drawn = drawn }

-- the hand after it drew n
abbrev pub drew : Hand → ℕ → Hand
drew v n = hand v.parts (v.drawn ++ n ∷ [])

-- two hands in one
abbrev pub both : Hand → Hand → Hand
both v w = hand (v.parts + w.parts) (v.drawn ++ w.drawn)

-- f of each hand, added up
abbrev pub total : (Hand → ℕ) → List Hand → ℕ
total f [] = 0
total f (v ∷ vs) = f v + total f vs

-- how many of the numbers are past the jobs
abbrev pub past : ℕ → List ℕ → ℕ
past jobs [] = 0
past jobs (x ∷ xs) = cond (nat_lt x jobs) 0 1 + past jobs xs

-- a hand has at most one number past the jobs for each of its parts, and nothing where it has no part
pub record Fair (jobs : ℕ) (v : Hand) : Type 0 where
  pub past_most : past jobs v.drawn ≤ v.parts
  pub idle_empty : v.parts ≡ 0 → v.drawn ≡ []

-- each number below the word is in exactly one hand, once, and the hands hold no other number
pub record Given (jobs passes : ℕ) (words : List ℕ) (hands : List Hand) : Type 0 where
  pub one : length words ≡ 1
  pub parts : total (λ v. v.parts) hands ≡ passes
  pub once : (n : ℕ) → total (λ v. times n v.drawn) hands ≡ one_below (slice_index words 0) n
  pub room : slice_index words 0 ≤ jobs + total (λ v. past jobs v.drawn) hands
  pub fair : (id : ℕ) (v : Hand) → get_elem? hands id ≡ some v → Fair jobs v
