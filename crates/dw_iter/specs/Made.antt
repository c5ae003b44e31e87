-- What an iterator over one value was made from, and the places that it may lack.
use Rattle.std.specs.Prelude.{◌≡◌, ℕ, Bool, true, false, not, ◌&&◌, ◌||◌, List, [], ◌∷◌}
use Rattle.dw_tablet.specs.declared.span.Span.{Span}
use Rattle.dw_tablet.specs.Places.{below}
use Rattle.dw_tablet.specs.Positions.{value_start, value_end}
use Rattle.dw_tablet.specs.Held.{Held}

-- where the covered spans begin and end
abbrev pub ends_of : List Span → List (List ℕ)
ends_of [] = []
ends_of (s ∷ ss) = s.from ∷ s.upto ∷ ends_of ss

-- whether a place lies between two such ends
abbrev pub lies_within : List (List ℕ) → List ℕ → Bool
lies_within [] place = false
lies_within (from ∷ []) place = false
lies_within (from ∷ upto ∷ ends) place = (not (below place from) && below place upto) || lies_within ends place

-- the shard, the field, the value, and what is covered
abbrev pub made_of : Held → List ℕ → List ℕ → List (List ℕ)
made_of tablet field value = tablet.shard ∷ field ∷ value ∷ ends_of tablet.spans

-- the place is one of the value's
abbrev pub is_value_place : List ℕ → List ℕ → List ℕ → List ℕ → Bool
is_value_place shard field value place = not (below place (value_start shard field value)) && below place (value_end shard field value)

-- and not covered
abbrev pub LacksPlace : List (List ℕ) → List ℕ → Type 0
LacksPlace [] place = ⊥
LacksPlace (shard ∷ []) place = ⊥
LacksPlace (shard ∷ field ∷ []) place = ⊥
LacksPlace (shard ∷ field ∷ value ∷ ends) place = (is_value_place shard field value place ≡ true) × (lies_within ends place ≡ false)
