-- What the reader keeps, seen as a state of reading.
use Rattle.std.specs.Prelude.{◌≡◌, ℕ, ◌<◌, Bool, true, false, List, length, map, reverse}
use Rattle.dw_vis.specs.declared.reading.Level as kept_level
use Rattle.dw_vis.specs.declared.reading.Before as kept_before
use Rattle.dw_vis.specs.declared.reading.Before.TheVariants.{Start, Joined}
use Rattle.dw_vis.specs.declared.reading.Place as kept_place
use Rattle.dw_vis.specs.declared.reading.Place.TheVariants.{AtOne, InBare, InQuotes, InEscape, Behind}
use Rattle.dw_vis.specs.declared.reading.Reader as kept
use Rattle.dw_vis.specs.declared.reading.Step.{Step}
use Rattle.dw_vis.specs.declared.reading.Step.TheVariants.{On, Failed}
use Rattle.dw_vis.specs.declared.reading.Outcome as given
use Rattle.dw_vis.specs.declared.reading.Outcome.TheVariants.{Refused, Mixes, Reads}
use Rattle.dw_vis.specs.Reading.{Level, Before, start, joined, Place, at_one, in_bare, in_quotes, in_escape, behind, State, Next, goes, fails, Outcome, refused, mixes, reads}

abbrev pub level_of : kept_level.Level → Level Bool
level_of l = record { sign = l.sign; worth = l.seen }

abbrev pub before_of : kept_before.Before → Before Bool
before_of Start = start
before_of (Joined l s) = joined (level_of l) s

abbrev pub place_of : List ℕ → kept_place.Place → Place Bool
place_of name (AtOne before) = at_one (before_of before)
place_of name (InBare before) = in_bare (before_of before) name
place_of name (InQuotes before) = in_quotes (before_of before) name
place_of name (InEscape before) = in_escape (before_of before) name
place_of name (Behind l) = behind (level_of l)

abbrev pub outside_of : kept.Reader → List (Before Bool)
outside_of r = reverse (map before_of r.outside.items)

abbrev pub state_of : kept.Reader → State Bool
state_of r = record { outside = outside_of r; place = place_of r.name.items r.place }

abbrev pub outcome_of : given.Outcome → Outcome Bool
outcome_of Refused = refused
outcome_of Mixes = mixes
outcome_of (Reads seen) = reads seen

-- the step that was made is the one to make
abbrev pub Leads : Next Bool → Step → State Bool → Type 0
Leads (goes next) On st = st ≡ next
Leads fails Failed st = Unit {0}
Leads (goes next) Failed st = ⊥
Leads fails On st = ⊥

abbrev pub is_at_one : kept_place.Place → Bool
is_at_one (AtOne before) = true
is_at_one (InBare before) = false
is_at_one (InQuotes before) = false
is_at_one (InEscape before) = false
is_at_one (Behind l) = false

-- there is room for one more byte of a name, and for a parenthesis that the byte opens
pub record HasRoom (r : kept.Reader) (b : ℕ) : Type 0 where
  pub in_name : length r.name.items < 512
  pub in_outside : is_at_one r.place ≡ true → b ≡ 40 → length r.outside.items < 32
