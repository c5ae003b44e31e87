-- Positive and negative places.
use Rattle.std.specs.Prelude.{Bool, true, false}
use Rattle.dw_nest.specs.declared.place.Place.{Place}
use Rattle.dw_nest.specs.declared.place.Place.TheVariants.{Positive, Negative}
use Rattle.dw_nest.specs.declared.truth.Truth.{Truth}
use Rattle.dw_nest.specs.declared.truth.Truth.TheVariants.{No, Unknown, Yes}

-- the place below a Not
abbrev pub other_place : Place → Place
other_place Positive = Negative
other_place Negative = Positive

-- whether a value is one that is looked for: at a positive place any but No, at a negative one any but Yes
abbrev pub passes : Place → Truth → Bool
passes Positive No = false
passes Positive Unknown = true
passes Positive Yes = true
passes Negative No = true
passes Negative Unknown = true
passes Negative Yes = false
