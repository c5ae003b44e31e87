-- A page while it is gathered.
use Rattle.std.specs.Prelude.{◌≡◌, ◌≤◌, ◌<◌, ◌++◌, List, true, false, length, take, drop}
use Rattle.dw_event.specs.declared.reports.Shown.{Shown}
use Rattle.dw_page.specs.declared.gather.Gather.{Gather}

-- what is gathered, joined to what remains, is the list of which the page is the front: until an event
-- came besides, it is the whole list, and then the page is known
pub record Joined (page rest : List Shown) (g : Gather) : Type 0 where
  pub joined : g.more ≡ false → g.kept ++ drop g.skip rest ≡ page
  pub room : g.more ≡ false → length g.kept ≤ g.size
  pub full : g.more ≡ true → g.kept ≡ take g.size page
  pub longer : g.more ≡ true → g.size < length page
