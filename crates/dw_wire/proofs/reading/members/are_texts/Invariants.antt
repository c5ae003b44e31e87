use Rattle.std.proofs.Common.{◌≡◌, drop}
use Rattle.serde_json.specs.View.{items_view}
use Rattle.dw_wire.specs.ReadLine.{are_texts as all_texts}
use Rattle.dw_wire.proofs.reading.members.are_texts.Given as goal

abbrev pub invariant-loop-value : goal.invariant-loop-value
invariant-loop-value l = all_texts (items_view l.items) ≡ all_texts (items_view (drop l.value-index l.items))
