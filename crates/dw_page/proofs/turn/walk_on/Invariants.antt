use Rattle.std.proofs.Common.{◌≡◌, ◌≤◌, ◌+◌, ◌∷◌, List, false, length, drop}
use Rattle.std.specs.List.Sorted.{IsStrictlySortedBy}
use Rattle.std.specs.Ordering.{nat_cmp}
use Rattle.std.specs.Cmp.Lexicographic.{slice_cmp}
use Rattle.dw_event.specs.declared.reports.Shown.{Shown}
use Rattle.dw_derive.specs.World.{World}
use Rattle.dw_page.specs.Asked.{IsTold}
use Rattle.dw_page.specs.Reads.{Opens, count_before}
use Rattle.dw_page.specs.Remains.{shards_of, AreLast}
use Rattle.dw_page.specs.Good.{Good}
use Rattle.dw_page.proofs.turn.walk_on.Given as goal

abbrev pub invariant-waves : goal.invariant-waves
invariant-waves g l = record {
  good : (w : World) (page : List Shown) → IsTold (g.K.Keeper.told l.fn.keeper) l.ask w → Good l.ask w page l.fn.walk → Good l.ask w page l.walk;
  opens : Opens (g.K.Keeper.reads l.fn.keeper) (g.K.Keeper.reads l.keeper) l.fn.walk.waiting.items l.walk.waiting.items;
  last : AreLast (shards_of l.fn.walk.waiting.items) l.walk.slots.items l.walk.waiting.items;
  near : (w : World) (page later : List Shown) (next : Shown) → IsTold (g.K.Keeper.told l.fn.keeper) l.ask w → Good l.ask w page l.fn.walk → IsStrictlySortedBy (slice_cmp nat_cmp) (shards_of l.fn.walk.waiting.items) → drop l.fn.walk.gather.size page ≡ next ∷ later → length l.fn.walk.waiting.items ≤ length l.walk.waiting.items + (count_before next.shard (shards_of l.fn.walk.waiting.items) + l.workers);
  few : length l.walk.slots.items ≤ l.workers;
  more : l.walk.gather.more ≡ false;
  size : l.walk.gather.size ≡ l.fn.walk.gather.size;
  told : g.K.Keeper.told l.keeper ≡ g.K.Keeper.told l.fn.keeper;
  later : g.K.Keeper.faults l.fn.keeper ≤ g.K.Keeper.faults l.keeper;
}
