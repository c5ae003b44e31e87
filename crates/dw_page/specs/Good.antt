-- What a walk means.
use Rattle.std.specs.Prelude.{List}
use Rattle.dw_event.specs.declared.reports.Shown.{Shown}
use Rattle.dw_derive.specs.World.{World}
use Rattle.dw_scan.specs.declared.ask.Ask.{Ask}
use Rattle.dw_page.specs.declared.walk.Walk.{Walk}
use Rattle.dw_page.specs.Joined.{Joined}
use Rattle.dw_page.specs.Placed.{SlotsGood}
use Rattle.dw_page.specs.Remains.{remains}

-- what a walk means for a world and its answer from the page on
pub record Good (ask : Ask) (w : World) (page : List Shown) (walk : Walk) : Type 0 where
  pub joined : Joined page (remains ask w walk.slots.items walk.waiting.items) walk.gather
  pub slots : SlotsGood ask w walk.slots.items
