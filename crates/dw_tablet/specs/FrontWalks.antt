-- What is answered where places of a leaf are not covered.
use Rattle.std.specs.Prelude.{◌≡◌, ℕ, List, Some}
use Rattle.dw_tablet.specs.Places.{IsGap}
use Rattle.dw_tablet.specs.Held.{Held}
use Rattle.dw_tablet.specs.Fronts.{front_gap}
use Rattle.dw_tablet.specs.declared.field_values.LeafError.{LeafError}
use Rattle.dw_tablet.specs.declared.field_values.LeafError.TheVariants.{Missing, OutOfMemory}

-- the first place that begins with some bytes and is not covered, up to which all that begin so are; or want of memory
abbrev pub IsLeafError : Held → List ℕ → LeafError → Type 0
IsLeafError t front (Missing place) = (front_gap t front ≡ Some place) × IsGap t.spans front place
IsLeafError t front OutOfMemory = Unit {0}
