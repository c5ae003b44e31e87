-- Facts about the hands of a counter: one changed, one more, all added up.
use Rattle.std.proofs.Common.{ℕ, zero, suc, ◌≡◌, ◌+◌, ◌≤◌, List, [], ◌∷◌, ◌++◌, slice_set, refl, ap, subst, arith}
use lib.ListN.{get_elem?}
use mathlib.Core.Option.{some}
use Rattle.dw_pool.specs.declared.drawing.Hand.{Hand}
use Rattle.dw_pool.specs.Drawn.{total, past, Fair}

-- a change of one hand changes the total by as much
pub total-set : (f : Hand → ℕ) (hands : List Hand) (id : ℕ) (v w : Hand) → get_elem? hands id ≡ some v → total f (slice_set hands id w) + f v ≡ total f hands + f w
total-set f [] id v w at = absurd (cc)
total-set f (u ∷ us) zero v w at = let same : u ≡ v = cc in let equal = ap f same in omega arith
total-set f (u ∷ us) (suc id) v w at = let rest = total-set f us id v w at in omega arith

pub total-push : (f : Hand → ℕ) (hands : List Hand) (w : Hand) → total f (hands ++ w ∷ []) ≡ total f hands + f w
total-push f [] w = omega arith
total-push f (u ∷ us) w = omega (arith, total-push f us w)

-- each hand counts in the total
pub total_least : (f : Hand → ℕ) (hands : List Hand) (id : ℕ) (v : Hand) → get_elem? hands id ≡ some v → f v ≤ total f hands
total_least f [] id v at = absurd (cc)
total_least f (u ∷ us) zero v at = let same : u ≡ v = cc in let equal = ap f same in omega arith
total_least f (u ∷ us) (suc id) v at = omega (arith, total_least f us id v at)

-- a change of one hand leaves the others
pub other_set : (hands : List Hand) (id other : ℕ) (a w : Hand) → (other ≡ id → ⊥) → get_elem? (slice_set hands id a) other ≡ some w → get_elem? hands other ≡ some w
other_set [] id other a w apart at = absurd (cc)
other_set (u ∷ us) zero zero a w apart at = absurd (apart refl)
other_set (u ∷ us) zero (suc other) a w apart at = at
other_set (u ∷ us) (suc id) zero a w apart at = at
other_set (u ∷ us) (suc id) (suc other) a w apart at = other_set us id other a w (λ same. apart (ap suc same)) at

-- P holds of each hand
abbrev pub Each : (Hand → Type 0) → List Hand → Type 0
Each P hands = (id : ℕ) (v : Hand) → get_elem? hands id ≡ some v → P v

pub each_set : (P : Hand → Type 0) (hands : List Hand) (id : ℕ) (w : Hand) → P w → Each P hands → Each P (slice_set hands id w)
each_set P [] id w new each k v at = absurd (cc)
each_set P (u ∷ us) zero w new each zero v at = let same : w ≡ v = cc in subst P same new
each_set P (u ∷ us) zero w new each (suc k) v at = each (suc k) v at
each_set P (u ∷ us) (suc id) w new each zero v at = each zero v at
each_set P (u ∷ us) (suc id) w new each (suc k) v at = each_set P us id w new (λ j x h. each (suc j) x h) k v at

pub each_push : (P : Hand → Type 0) (hands : List Hand) (w : Hand) → P w → Each P hands → Each P (hands ++ w ∷ [])
each_push P [] w new each zero v at = let same : w ≡ v = cc in subst P same new
each_push P [] w new each (suc k) v at = absurd (cc)
each_push P (u ∷ us) w new each zero v at = each zero v at
each_push P (u ∷ us) w new each (suc k) v at = each_push P us w new (λ j x h. each (suc j) x h) k v at

-- where no hand has more than its parts past the jobs, all together have no more than all parts
pub past_most : (jobs : ℕ) (hands : List Hand) → Each (Fair jobs) hands → total (λ v. past jobs v.drawn) hands ≤ total (λ v. v.parts) hands
past_most jobs [] each = omega arith
past_most jobs (u ∷ us) each =
    let first = (each 0 u refl).past_most in
    let rest = past_most jobs us (λ k v at. each (suc k) v at) in
    omega arith

-- hands with no part have drawn nothing
idle : (f : Hand → ℕ) → ((v : Hand) → v.drawn ≡ [] → f v ≡ 0) → (jobs : ℕ) (hands : List Hand) → Each (Fair jobs) hands → total (λ v. v.parts) hands ≡ 0 → total f hands ≡ 0
idle f empty jobs [] each none = refl
idle f empty jobs (u ∷ us) each none =
    let nothing = empty u ((each 0 u refl).idle_empty (omega arith)) in
    let rest = idle f empty jobs us (λ k v at. each (suc k) v at) (omega arith) in
    omega arith

-- the hand that has every part is the only one that has drawn anything
pub alone : (f : Hand → ℕ) → ((v : Hand) → v.drawn ≡ [] → f v ≡ 0) → (jobs : ℕ) (hands : List Hand) (id : ℕ) (v : Hand) → get_elem? hands id ≡ some v → Each (Fair jobs) hands → total (λ u. u.parts) hands ≡ v.parts → total f hands ≡ f v
alone f empty jobs [] id v at each whole = absurd (cc)
alone f empty jobs (u ∷ us) zero v at each whole =
    let same : u ≡ v = cc in
    let parts : u.parts ≡ v.parts = ap (λ h. h.parts) same in
    let equal : f u ≡ f v = ap f same in
    let rest = idle f empty jobs us (λ k x h. each (suc k) x h) (omega arith) in
    omega arith
alone f empty jobs (u ∷ us) (suc id) v at each whole =
    let few = total_least (λ h. h.parts) us id v at in
    let nothing = empty u ((each 0 u refl).idle_empty (omega arith)) in
    let rest = alone f empty jobs us id v at (λ k x h. each (suc k) x h) (omega arith) in
    omega arith
