use Rattle.std.proofs.Common.{◌≡◌, ◌++◌, drop, option_map}
use Rattle.serde_json.specs.View.{items_view}
use Rattle.dw_wire.specs.ReadLine.{type_names}
use Rattle.dw_wire.proofs.reading.types.put_types.Given as goal

abbrev pub invariant-loop-value : goal.invariant-loop-value
invariant-loop-value l = type_names (items_view l.items) ≡ option_map (λ ns. l.types ++ ns) (type_names (items_view (drop l.value-index l.items)))
