use Rattle.std.proofs.Common.{◌≡◌, ◌||◌, ℕ, false, List, drop}
use Rattle.std.specs.Option.{option_map_or}
use Rattle.std.specs.List.{list_any}
use Rattle.dw_event.specs.Texts.{is_same}
use Rattle.dw_outside.specs.declared.cell.Cell.{Cell}
use Rattle.dw_plan.specs.Cells.{shard_from}
use Rattle.dw_plan.proofs.cells.shards_of.Given as goal

abbrev pub invariant-loop-cell : goal.invariant-loop-cell
invariant-loop-cell l =
    let names = λ (s : List ℕ) (c : Cell). option_map_or (is_same s) (shard_from l.scope.auths.now l.scope.days.now l.scope.types.now l.field l.wanted c.key) false in
    (l.sight.auths.now ≡ l.scope.auths.now)
    × ((s : List ℕ) → (list_any (is_same s) l.all.items || list_any (names s) (drop l.cell-index l.cells)) ≡ list_any (names s) l.cells)
