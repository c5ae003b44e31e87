use Rattle.std.proofs.Common.{◌≡◌, ◌≤◌, ◌+◌, ◌-◌, ℕ, List, Option}
use Rattle.dw_derive.specs.World.{World}
use Rattle.datawave.specs.Outside.{Outside, seen}
use Rattle.datawave.specs.Session.{Reading}
use Rattle.datawave.specs.Exchange.{Progress}
use Rattle.datawave.specs.Working.{Held}
use Rattle.datawave.proofs.intake.exchange_all.Given as goal

abbrev pub invariant-loop-status : goal.invariant-loop-status
invariant-loop-status g l = record {
  same : l.talk.most ≡ l.fn.talk.most;
  taken : g.S.Source.faults l.fn.input ≤ g.S.Source.faults l.input;
  put : g.O.Sink.faults l.fn.output ≤ g.O.Sink.faults l.output;
  progress : (reading : Reading) (w : World) (start : Option (List ℕ)) (before : Outside) → reading.most ≡ l.fn.talk.most
      → Progress g.U.UidMaker.digest reading (Held reading l.fn.talk.work) w start (g.S.Source.left l.fn.input) before l.fn.talk.desk (seen (g.K.Keeper.told l.fn.keeper) (g.K.Keeper.faults l.fn.keeper) (g.O.Sink.taken l.fn.output)) l.fn.talk.total
      → Progress g.U.UidMaker.digest reading (Held reading l.talk.work) w start (g.S.Source.left l.input) before l.talk.desk (seen (g.K.Keeper.told l.keeper) (g.K.Keeper.faults l.keeper) (g.O.Sink.taken l.output)) l.talk.total;
}

abbrev pub decreases-loop-status : goal.decreases-loop-status
decreases-loop-status g l = l.talk.most + 1 - l.talk.total
