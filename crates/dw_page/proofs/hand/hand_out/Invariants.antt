use Rattle.std.proofs.Common.{◌++◌, List, filter}
use Rattle.std.specs.List.{AllZip}
use Rattle.std.specs.Vec.Iter.{into_iter_items}
use Rattle.dw_page.specs.declared.slot.Slot.{Slot}
use Rattle.dw_page.specs.Placed.{is_open, IsScanOf, Placed}
use Rattle.dw_page.proofs.hand.hand_out.Given as goal

-- the slots and outputs that are left still belong together, and whatever they are placed as
-- completes what is done
abbrev pub invariant-loop-slot : goal.invariant-loop-slot
invariant-loop-slot l = record {
  scans : AllZip (IsScanOf l.ask) (filter is_open (into_iter_items l.slot-iterator)) l.outs.items;
  placed : (rest : List Slot) → Placed (into_iter_items l.slot-iterator) l.outs.items rest → Placed l.fn.slots.items l.fn.outs.items (l.news.items ++ rest);
}
