use Rattle.std.proofs.Common.{◌≡◌, drop, map, None}
use Rattle.std.specs.Prelude.{filter_map}
use Rattle.std.specs.BTreeMap.{get, IsOrdered}
use Rattle.dw_event.specs.declared.records.Place.{Place}
use Rattle.dw_event.specs.Places.{place_cmp}
use Rattle.dw_outside.specs.declared.cell.Cell.{Cell}
use Rattle.dw_derive.specs.EventsRead.{held_after}
use Rattle.dw_audit.specs.WorldOf.{code_counts}
use Rattle.dw_audit.proofs.stored.events_in.Given as goal

abbrev pub invariant-loop-cell : goal.invariant-loop-cell
invariant-loop-cell l =
    let key = λ (c : Cell). c.key in
    record {
      held : (p : Place) → held_after p (get place_cmp l.events p) (filter_map code_counts (map key (drop l.cell-index l.cells))) ≡ held_after p None (filter_map code_counts (map key l.cells));
      ordered : IsOrdered place_cmp l.events;
    }
