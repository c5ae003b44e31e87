-- What the walk over the tokens keeps, seen as a place of the walk.
use Rattle.std.specs.Prelude.{◌≡◌, reverse}
use Rattle.dw_jexl.specs.declared.depth.Walk.{Walk}
use Rattle.dw_jexl.specs.declared.depth.Step.{Step}
use Rattle.dw_jexl.specs.declared.depth.Step.TheVariants.{On, Ended}
use Rattle.dw_jexl.specs.Depth.{Place, Next, Goes, Ends}

abbrev pub place_of : Walk → Place
place_of w = record { outside = reverse w.outside.items; open_levels = w.open_levels; run = w.run }

-- the step that was made is the one to make
abbrev pub Leads : Next → Step → Place → Type 0
Leads (Goes v) On w = w ≡ v
Leads Ends Ended w = Unit {0}
Leads (Goes v) Ended w = ⊥
Leads Ends On w = ⊥
