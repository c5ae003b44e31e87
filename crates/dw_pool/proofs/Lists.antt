-- Facts about lists of numbers.
use Rattle.std.proofs.Common.{ℕ, zero, suc, ◌≡◌, ◌+◌, ◌<◌, ◌≤◌, cond, nat_eq, List, [], ◌∷◌, ◌++◌, length, get_or, slice_index, ap, length-append, refl, arith}
use Rattle.std.proofs.lemmas.Grind.{common_steps}
use Rattle.std.proofs.lemmas.Bool.Decides.{nat_tests}
use Rattle.std.specs.List.{All}
use lib.ListN.{get_elem?}
use mathlib.Core.Option.{some}
use Rattle.std.proofs.lemmas.List.Elements.{All-tail}
use Rattle.dw_pool.specs.Numbers.{times, one_below, Climbs}
use Rattle.dw_pool.specs.Drawn.{past}

pub times-append : (n : ℕ) (xs ys : List ℕ) → times n (xs ++ ys) ≡ times n xs + times n ys
times-append n [] ys = omega arith
times-append n (x ∷ xs) ys = omega (arith, times-append n xs ys)

pub past-append : (jobs : ℕ) (xs ys : List ℕ) → past jobs (xs ++ ys) ≡ past jobs xs + past jobs ys
past-append jobs [] ys = omega arith
past-append jobs (x ∷ xs) ys = omega (arith, past-append jobs xs ys)

-- the numbers below n + 1 are those below n, and n
pub one_below-more : (n x : ℕ) → one_below (n + 1) x ≡ one_below n x + cond (nat_eq n x) 1 0
one_below-more n x = grind (arith, common_steps)

pub first_element : (xs : List ℕ) (x : ℕ) → get_elem? xs 0 ≡ some x → slice_index xs 0 ≡ x
first_element [] x at = absurd (cc)
first_element (y ∷ ys) x at = cc

-- an element stands in its list at least once
pub times-element : (xs : List ℕ) (k d : ℕ) → k < length xs → 0 < times (get_or xs k d) xs
times-element [] k d h = absurd (omega arith)
times-element (x ∷ xs) zero d h = grind (arith, nat_tests, common_steps)
times-element (x ∷ xs) (suc k) d h = let t = times-element xs k d (omega arith) in omega arith

-- what stands in no list below a bound is at least that bound
pub below-counted : (bound n m : ℕ) → 0 < m → m ≤ one_below bound n → n < bound
below-counted bound n m counted le = grind (arith, nat_tests, common_steps)

-- numbers that go up from low are no more than there is room for
pub climbs_room : (low top : ℕ) (xs : List ℕ) → Climbs low top xs → low + length xs ≤ top
climbs_room low top [] h = omega arith
climbs_room low top (x ∷ xs) h = let rest = climbs_room (x + 1) top xs h.1 in omega (arith, h.0)

pub past-climbs : (low top : ℕ) (xs : List ℕ) → Climbs low top xs → past top xs ≡ 0
past-climbs low top [] h = refl
past-climbs low top (x ∷ xs) h =
    let room = climbs_room (x + 1) top xs h.1 in
    let rest = past-climbs (x + 1) top xs h.1 in
    grind (arith, nat_tests, common_steps)

-- numbers that go up and are below n
pub climbs_below : (low top n : ℕ) (xs : List ℕ) → low ≤ n → Climbs low top xs → All (λ x. x < n) xs → Climbs low n xs
climbs_below low top n [] order h below = order
climbs_below low top n (x ∷ xs) order h below =
    let first : x < n = below 0 0 (omega arith) in
    (h.0, climbs_below (x + 1) top n xs (omega arith) h.1 (All-tail (λ y. y < n) x xs below))

-- one more number above all before it
pub climbs_push : (low n top : ℕ) (xs : List ℕ) → n < top → Climbs low n xs → Climbs low top (xs ++ n ∷ [])
climbs_push low n top [] less h = (h, omega arith)
climbs_push low n top (x ∷ xs) less h = (h.0, climbs_push (x + 1) n top xs less h.1)

-- before one more number was claimed there was room for it
pub room_before : (old new : List ℕ) (n top : ℕ) → new ≡ old ++ n ∷ [] → Climbs 0 top new → length old < top
room_before old new n top is climbs =
    let room = climbs_room 0 top new climbs in
    omega (arith, ap length is, length-append old (n ∷ []))

pub one_below-less : (bound n : ℕ) → n < bound → one_below bound n ≡ 1
one_below-less bound n less = grind (arith, nat_tests, common_steps)

pub one_below-past : (bound n : ℕ) → bound ≤ n → one_below bound n ≡ 0
one_below-past bound n past = grind (arith, nat_tests, common_steps)
