-- How a record stands to what is held at its place.
use Rattle.std.specs.Prelude.{List, [], ◌∷◌, Option, Some, None, if◌then◌else◌}
use Rattle.dw_event.specs.declared.cells.EventCell.{EventCell}
use Rattle.dw_event.specs.declared.records.Held.{Held}
use Rattle.dw_event.specs.Cells.{cells_eq}
use Rattle.dw_ingest.specs.declared.standing.Standing.{Standing}
use Rattle.dw_ingest.specs.declared.standing.Standing.TheVariants.{Free, Same, Other}

-- the same cells are held, or others
abbrev pub standing_of : List EventCell → List EventCell → Standing
standing_of held cells = if cells_eq held cells then Same else Other

-- an event has cells, so no cells say that none is held
abbrev pub standing_beside : List EventCell → List EventCell → Standing
standing_beside [] cells = Free
standing_beside (c ∷ stored) cells = standing_of (c ∷ stored) cells

-- what this batch brought counts first, and then what is stored
abbrev pub standing_in : Option Held → List EventCell → List EventCell → Standing
standing_in (Some held) stored cells = standing_of held.cells cells
standing_in None stored cells = standing_beside stored cells
