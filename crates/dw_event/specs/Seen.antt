-- What a reader sees of all events.
use Rattle.std.specs.Prelude.{ℕ, Bool, true, false, nat_le, List, [], ◌∷◌, map, filter}
use Rattle.dw_event.specs.declared.views.Pair.{Pair}
use Rattle.dw_event.specs.declared.reports.Shown.{Shown}
use Rattle.dw_event.specs.Views.{view_of}
use Rattle.dw_event.specs.Take.{Event}

-- an event as it is shown to the holder of these names: its place and its view
abbrev pub shown_of : List (List ℕ) → Event → Shown
shown_of names e = record { shard = e.0.shard; key = e.0.key; view = view_of names e.1.cells }

-- the view has a pair
abbrev pub is_seen : List Pair → Bool
is_seen [] = false
is_seen (p ∷ ps) = true

-- the events of the batches up to the snapshot of which the holder of these names sees a value, as they are shown,
-- ascending by shard, type and uid
abbrev pub seen : List (List ℕ) → List Event → ℕ → List Shown
seen names events snapshot = filter (λ s. is_seen s.view) (map (shown_of names) (filter (λ e. nat_le e.1.batch snapshot) events))
