-- What the two iterators for tests stand for.
use Rattle.std.specs.Prelude.{◌≡◌, ◌⊎◌, cond, Bool, true, false, List, [], ◌∷◌, Option, Some, None}
use Rattle.dw_key.specs.declared.doc_key.DocKey.{DocKey}
use Rattle.dw_nest.specs.declared.bound.Bound.{Bound}
use Rattle.dw_nest.specs.declared.bound.Top.{Top}
use Rattle.dw_nest.specs.declared.bound.Top.TheVariants.{Key, End, Missing}
use Rattle.dw_nest.specs.Bounds.{meets, Ascends}

-- a key that an iterator may have, and whether it is known to be there
abbrev pub Spot : Type 0
Spot = DocKey × Bool

-- the list itself, if it ascends
abbrev pub stands_known : List DocKey → List DocKey → Type 0
stands_known keys all = (all ≡ keys) × Ascends all

-- each spot that is known, and some of the others
abbrev pub Chosen : List Spot → List DocKey → Type 0
Chosen [] all = all ≡ []
Chosen (spot ∷ spots) all = ((others : List DocKey) × (all ≡ spot.0 ∷ others) × Chosen spots others) ⊎ ((spot.1 ≡ false) × Chosen spots all)

-- such a choice, if it ascends
abbrev pub stands_partly : List Spot → List DocKey → Type 0
stands_partly spots all = Chosen spots all × Ascends all

-- whether a spot meets a bound
abbrev pub spot_meets : Bound → Spot → Bool
spot_meets bound spot = meets bound spot.0

-- the first key that meets the bound, at the top
abbrev pub top_of : Option DocKey → Top
top_of None = End
top_of (Some key) = Key key

-- the first spot that meets the bound, at the top
abbrev pub top_of_spot : Option Spot → Top
top_of_spot None = End
top_of_spot (Some spot) = cond spot.1 (Key spot.0) Missing

-- whether the top is not known
abbrev pub is_missing : Top → Bool
is_missing (Key key) = false
is_missing End = false
is_missing Missing = true
