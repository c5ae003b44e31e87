use Rattle.std.proofs.Common.{◌≡◌, ◌≤◌, not, Some}
use Rattle.dw_outside.specs.Tables.{Tables}
use Rattle.dw_plan.specs.Reads.{Adds, is_of_index}
use Rattle.dw_plan.proofs.Gathering.{Gathered}
use Rattle.dw_plan.proofs.hits.+hits_at.Given as goal

abbrev pub decreases-hits_at : goal.decreases-hits_at
decreases-hits_at g l = goal.size-hits_at g l

abbrev pub invariant-loop-child : goal.invariant-loop-child
invariant-loop-child g l = record {
  same : g.K.Keeper.told l.keeper ≡ g.K.Keeper.told l.fn.keeper;
  hits : (t : Tables) → g.K.Keeper.told l.fn.keeper ≡ Some t → Gathered t l.scope.auths.now l.scope.days.now l.scope.types.now l.positive l.positive l.child-items l.child-index l.found;
  reads : Adds is_of_index (g.K.Keeper.reads l.fn.keeper) (g.K.Keeper.reads l.keeper);
  unasked : g.K.Keeper.asked l.keeper ≡ g.K.Keeper.asked l.fn.keeper;
  counted : g.K.Keeper.faults l.fn.keeper ≤ g.K.Keeper.faults l.keeper;
}

abbrev pub invariant-loop-child-2 : goal.invariant-loop-child-2
invariant-loop-child-2 g l = record {
  same : g.K.Keeper.told l.keeper ≡ g.K.Keeper.told l.fn.keeper;
  hits : (t : Tables) → g.K.Keeper.told l.fn.keeper ≡ Some t → Gathered t l.scope.auths.now l.scope.days.now l.scope.types.now (not l.positive) l.positive l.child-items l.child-index l.found;
  reads : Adds is_of_index (g.K.Keeper.reads l.fn.keeper) (g.K.Keeper.reads l.keeper);
  unasked : g.K.Keeper.asked l.keeper ≡ g.K.Keeper.asked l.fn.keeper;
  counted : g.K.Keeper.faults l.fn.keeper ≤ g.K.Keeper.faults l.keeper;
}
