use Rattle.std.proofs.Common.{◌≡◌, ◌≤◌, [], length}
use Rattle.std.specs.Prelude.{Some}
use Rattle.dw_outside.specs.Tables.{Tables, span_of}
use Rattle.dw_audit.specs.Runs.{difference_from}
use Rattle.dw_audit.proofs.runs.compare_lists.Given as goal

abbrev pub invariant-runs : goal.invariant-runs
invariant-runs g l = record {
  same : g.K.Keeper.told l.keeper ≡ g.K.Keeper.told l.fn.keeper;
  from : (t : Tables) → g.K.Keeper.told l.fn.keeper ≡ Some t → difference_from l.table l.from t l.wanted ≡ difference_from l.table [] t l.wanted;
  unasked : g.K.Keeper.asked l.keeper ≡ g.K.Keeper.asked l.fn.keeper;
  counted : g.K.Keeper.faults l.fn.keeper ≤ g.K.Keeper.faults l.keeper;
}

abbrev pub decreases-runs : goal.decreases-runs
decreases-runs g l = length (span_of l.table l.from [] l.wanted)
