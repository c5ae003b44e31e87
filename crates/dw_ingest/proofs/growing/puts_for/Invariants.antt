use Rattle.std.proofs.Common.{◌≡◌, ◌≤◌, ◌++◌, drop, map}
use Rattle.std.specs.Prelude.{Some, All}
use Rattle.dw_outside.specs.Tables.{Tables, over}
use Rattle.dw_derive.specs.Entries.{slot_of}
use Rattle.dw_derive.specs.Laws.{put_of}
use Rattle.dw_ingest.proofs.growing.puts_for.Given as goal

abbrev pub invariant-loop-entry : goal.invariant-loop-entry
invariant-loop-entry g l = record {
  same : g.K.Keeper.told l.keeper ≡ g.K.Keeper.told l.fn.keeper;
  puts : (t : Tables) → g.K.Keeper.told l.fn.keeper ≡ Some t → l.puts.items ++ map (put_of (over l.batch t) l.uid) (map slot_of (drop l.entry-index l.entries)) ≡ map (put_of (over l.batch t) l.uid) (map slot_of l.entries);
  fits : All (λ p. p.table ≤ 3) l.puts.items;
  unasked : g.K.Keeper.asked l.keeper ≡ g.K.Keeper.asked l.fn.keeper;
  counted : g.K.Keeper.faults l.fn.keeper ≤ g.K.Keeper.faults l.keeper;
}
