use Rattle.std.proofs.Common.{◌≡◌, drop, option_map}
use Rattle.serde_json.specs.View.{items_view}
use Rattle.dw_rows.specs.Gathering.{with_entries}
use Rattle.dw_rows.specs.JsonRecords.{item_entries}
use Rattle.dw_rows.proofs.items.with_items.Given as goal

abbrev pub invariant-loop-value : goal.invariant-loop-value
invariant-loop-value l =
    option_map (with_entries l.fn.gathered) (item_entries l.field l.default (items_view l.items))
    ≡ option_map (with_entries l.gathered) (item_entries l.field l.default (items_view (drop l.value-index l.items)))
