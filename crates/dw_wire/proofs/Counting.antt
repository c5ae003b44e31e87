-- How many items a list has.
use Rattle.std.proofs.Common.{◌≡◌, List, [], ◌∷◌, length, arith, refl}
use Rattle.serde_json.specs.View.{items_view}
use Rattle.serde_json.specs.declared.value.Value.{Value}
use Rattle.dw_groups.specs.Batches.{items_count}

pub counted : (vs : List Value) → items_count (items_view vs) ≡ length vs
counted [] = refl
counted (v ∷ vs) = omega (arith, counted vs)
