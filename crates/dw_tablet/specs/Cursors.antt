-- Where a cursor stands, and what it shows.
use Rattle.std.specs.Prelude.{◌≡◌, ℕ, Bool, cond, List, [], ◌∷◌, Option, Some, None, is_some}
use Rattle.dw_tablet.specs.Places.{below, between, gap}
use Rattle.dw_tablet.specs.Held.{Held}
use Rattle.dw_tablet.specs.Values.{Value}
use Rattle.dw_tablet.specs.declared.ahead.Gap.{Gap}
use Rattle.dw_tablet.specs.declared.ahead.Gap.TheVariants.{Here, Later, Nowhere}

-- the first place that is not covered, at or after `p` and before `e`
abbrev pub gap_before : Held → List ℕ → List ℕ → Option (List ℕ)
gap_before t p e = cond (below (gap t.spans p) e) (Some (gap t.spans p)) None

-- how far all is covered, from `p` on and before `e`
abbrev pub known_upto : Held → List ℕ → List ℕ → List ℕ
known_upto t p e = cond (below (gap t.spans p) e) (gap t.spans p) e

-- the keys up to there
abbrev pub known_keys : Held → List ℕ → List ℕ → List (List ℕ)
known_keys t p e = between p (known_upto t p e) t.keys

-- a gap as a place
abbrev pub gap_place : List ℕ → Gap → Option (List ℕ)
gap_place p Here = Some p
gap_place p (Later place) = Some place.now
gap_place p Nowhere = None

-- a key says a value
abbrev pub says : (List ℕ → Option Value) → List ℕ → Bool
says f key = is_some (f key)

-- the keys from the first that says a value on
abbrev pub from_first : (List ℕ → Option Value) → List (List ℕ) → List (List ℕ)
from_first f [] = []
from_first f (k ∷ ks) = cond (says f k) (k ∷ ks) (from_first f ks)

-- the first of some keys says the value
abbrev pub FirstIs : (List ℕ → Option Value) → List (List ℕ) → Value → Type 0
FirstIs f [] v = ⊥
FirstIs f (k ∷ ks) v = f k ≡ Some v
