use Rattle.std.proofs.Common.{◌≡◌, [], drop}
use Rattle.serde_json.specs.View.{items_view}
use Rattle.dw_wire.specs.ReadLine.{with_auths}
use Rattle.dw_wire.proofs.reading.auths.put_auths.Given as goal

abbrev pub invariant-loop-value : goal.invariant-loop-value
invariant-loop-value l = with_auths [] (items_view l.items) ≡ with_auths l.auths (items_view (drop l.value-index l.items))
