use Rattle.std.proofs.Common.{◌≡◌, ◌≤◌, List, length}
use Rattle.std.specs.VecDeque.{deque_len}
use Rattle.dw_event.specs.declared.reports.Shown.{Shown}
use Rattle.dw_derive.specs.World.{World}
use Rattle.dw_scan.specs.declared.ask.Ask.{Ask}
use Rattle.dw_page.specs.Asked.{IsTold}
use Rattle.dw_page.specs.Reads.{Opens}
use Rattle.dw_page.specs.Good.{Good}
use Rattle.dw_page.specs.Remains.{open_shards}
use Rattle.dw_page.proofs.walk.Walk.open.Given as goal

abbrev pub invariant-opening : goal.invariant-opening
invariant-opening g l = record {
  good : (ask : Ask) (w : World) (page : List Shown) → IsTold (g.K.Keeper.told l.fn.keeper) ask w → Good ask w page l.fn.self → Good ask w page l.self;
  few : length l.fn.self.slots.items ≤ l.workers → length l.self.slots.items ≤ l.workers;
  opens : Opens (g.K.Keeper.reads l.fn.keeper) (g.K.Keeper.reads l.keeper) l.fn.self.waiting.items l.self.waiting.items;
  shards : open_shards l.self.slots.items l.self.waiting.items ≡ open_shards l.fn.self.slots.items l.fn.self.waiting.items;
  gather : l.self.gather ≡ l.fn.self.gather;
  told : g.K.Keeper.told l.keeper ≡ g.K.Keeper.told l.fn.keeper;
  later : g.K.Keeper.faults l.fn.keeper ≤ g.K.Keeper.faults l.keeper;
}

abbrev pub decreases-opening : goal.decreases-opening
decreases-opening g l = deque_len l.self.waiting
