use Rattle.std.proofs.Common.{◌≡◌, ◌≤◌, drop}
use Rattle.std.specs.Prelude.{Some}
use Rattle.dw_event.specs.Take.{Taken, none_taken, with_records}
use Rattle.dw_outside.specs.Tables.{Tables, HasFourTables}
use Rattle.dw_derive.specs.World.{World}
use Rattle.dw_derive.specs.Tables.{tables}
use Rattle.dw_derive.specs.Lawful.{HasEvents}
use Rattle.dw_ingest.specs.Going.{Going, AreWellFormed}
use Rattle.dw_ingest.proofs.pending.take_records.Given as goal

-- some outcome so far goes on, and with the records to come it is that of all
abbrev pub invariant-loop-rec : goal.invariant-loop-rec
invariant-loop-rec g l =
    let digest = g.U.UidMaker.digest in
    record {
      at : l.pending.tally.at ≡ l.rec-index;
      added : l.pending.tally.added ≤ l.rec-index;
      repeat : l.pending.tally.repeat ≤ l.rec-index;
      same : g.K.Keeper.told l.keeper ≡ g.K.Keeper.told l.fn.keeper;
      going : (w : World) (t : Tables) → g.K.Keeper.told l.fn.keeper ≡ Some t → t ≡ tables w → w.dict ≡ l.dict → HasEvents w → AreWellFormed l.records
          → (so_far : Taken) × Going w so_far t l.pending × AreWellFormed (drop l.rec-index l.records)
          × (with_records digest l.number so_far (drop l.rec-index l.records) ≡ with_records digest l.number (none_taken w.events) l.records);
      fits : HasFourTables l.pending.batch;
      unasked : g.K.Keeper.asked l.keeper ≡ g.K.Keeper.asked l.fn.keeper;
      counted : g.K.Keeper.faults l.fn.keeper ≤ g.K.Keeper.faults l.keeper;
    }
