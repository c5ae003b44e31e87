use Rattle.std.proofs.Common.{◌≡◌, ◌++◌, drop}
use Rattle.serde_json.specs.View.{items_view}
use Rattle.dw_groups.specs.Batches.{records_of}
use Rattle.dw_groups.proofs.batches.read_records.Given as goal

abbrev pub invariant-loop-value : goal.invariant-loop-value
invariant-loop-value l = records_of (items_view l.items) ≡ l.records ++ records_of (items_view (drop l.value-index l.items))
