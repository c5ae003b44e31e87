use Rattle.std.proofs.Common.{◌≡◌, ◌≤◌, ℕ, List, length}
use Rattle.dw_event.specs.declared.reports.Shown.{Shown}
use Rattle.dw_derive.specs.World.{World}
use Rattle.dw_scan.specs.declared.ask.Ask.{Ask}
use Rattle.dw_page.specs.Good.{Good}
use Rattle.dw_page.specs.Remains.{AreLast}
use Rattle.dw_page.proofs.walk.Walk.flush.Given as goal

abbrev pub invariant-giving : goal.invariant-giving
invariant-giving l = record {
  good : (ask : Ask) (w : World) (page : List Shown) → Good ask w page l.fn.self → Good ask w page l.self;
  fewer : length l.self.slots.items ≤ length l.fn.self.slots.items;
  last : (all : List (List ℕ)) → AreLast all l.fn.self.slots.items l.fn.self.waiting.items → AreLast all l.self.slots.items l.self.waiting.items;
  waiting : l.self.waiting.items ≡ l.fn.self.waiting.items;
  size : l.self.gather.size ≡ l.fn.self.gather.size;
}

abbrev pub decreases-giving : goal.decreases-giving
decreases-giving l = length l.self.slots.items
