use Rattle.std.proofs.Common.{◌≡◌, ◌≤◌, [], ℕ, List, length}
use Rattle.dw_derive.specs.World.{World}
use Rattle.datawave.specs.Lines.{kept, whole_lines, rest_after}
use Rattle.datawave.specs.Outside.{Outside, seen}
use Rattle.datawave.specs.Exchange.{RequestsPut}
use Rattle.datawave.proofs.Pieces.{Walk}
use Rattle.datawave.proofs.by_lines.ByLines.take.Given as goal

abbrev pub invariant-loop-text : goal.invariant-loop-text
invariant-loop-text g l = record {
  counted : g.O.Sink.faults l.fn.output ≤ g.O.Sink.faults l.output;
  walk : (w : World) (before : Outside) (front : List ℕ) → (l.fn.self.line ≡ kept (rest_after [] front)) × g.T.LineWork.holds l.fn.self.work (whole_lines front)
      → RequestsPut g.U.UidMaker.digest w before (g.T.LineWork.whole (whole_lines front)) l.fn.desk (seen (g.K.Keeper.told l.fn.keeper) (g.K.Keeper.faults l.fn.keeper) (g.O.Sink.taken l.fn.output))
      → Walk (λ done. g.T.LineWork.holds l.self.work done × RequestsPut g.U.UidMaker.digest w before (g.T.LineWork.whole done) l.desk (seen (g.K.Keeper.told l.keeper) (g.K.Keeper.faults l.keeper) (g.O.Sink.taken l.output))) front l.piece l.self.line l.rest;
}

abbrev pub decreases-loop-text : goal.decreases-loop-text
decreases-loop-text g l = length l.rest
