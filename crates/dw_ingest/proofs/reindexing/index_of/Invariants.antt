use Rattle.std.proofs.Common.{◌≡◌, length}
use Rattle.std.specs.FinMap.{empty}
use Rattle.dw_outside.specs.Tables.{HasFourTables}
use Rattle.dw_derive.specs.Indexing.{slots_added, all_stepped}
use Rattle.dw_ingest.proofs.reindexing.index_of.Given as goal

abbrev pub invariant-loop-place : goal.invariant-loop-place
invariant-loop-place l = record {
  batch : all_stepped (slots_added l.field l.old l.rule) l.left.entries l.batch ≡ all_stepped (slots_added l.field l.old l.rule) l.fn.events.entries empty;
  fits : HasFourTables l.batch;
}

abbrev pub decreases-loop-place : goal.decreases-loop-place
decreases-loop-place l = length l.left.entries
