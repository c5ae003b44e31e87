-- The cells of a document among keys, and what a reader sees of it.
use Rattle.std.specs.Prelude.{◌≡◌, ℕ, ◌&&◌, nat_eq, nat_le, Bool, List, [], ◌++◌, ◌∷◌, filter_map, Option, Some, None, if◌then◌else◌}
use Rattle.std.specs.Ordering.{is_eq}
use Rattle.dw_key.specs.DocKeys.{doc_key_cmp}
use Rattle.dw_key.specs.declared.doc_key.DocKey.{DocKey}
use Rattle.dw_event.specs.declared.cells.EventCell.{EventCell}
use Rattle.dw_event.specs.declared.views.Pair.{Pair}
use Rattle.dw_event.specs.Views.{view_of}
use Rattle.dw_derive.specs.Entries.{doc_text}
use Rattle.dw_tablet.specs.declared.said.Said.{Said}
use Rattle.dw_tablet.specs.declared.said.Said.TheVariants.{OfEvent, OfIndex, Nothing}
use Rattle.dw_tablet.specs.Said.{said_of}
use Rattle.dw_tablet.specs.Places.{below, between, gap}
use Rattle.dw_tablet.specs.Positions.{document_front}
use Rattle.dw_tablet.specs.Held.{Held}
use Rattle.dw_tablet.specs.Cursors.{gap_before, known_keys}

-- the first place of a document's cells
abbrev pub document_start : List ℕ → DocKey → List ℕ
document_start shard doc = document_front shard (doc_text doc) ++ 0 ∷ []

-- and the first one past them
abbrev pub document_end : List ℕ → DocKey → List ℕ
document_end shard doc = document_front shard (doc_text doc) ++ 1 ∷ []

-- the cell that is said of the document, where it is of a batch up to the snapshot
abbrev pub cell_if : DocKey → ℕ → Said → Option EventCell
cell_if doc snapshot (OfEvent r) = if is_eq (doc_key_cmp r.doc doc) && nat_le r.batch snapshot then Some r.cell else None
cell_if doc snapshot (OfIndex r) = None
cell_if doc snapshot Nothing = None

-- the same of the bytes of a key
abbrev pub cell_at : DocKey → ℕ → List ℕ → Option EventCell
cell_at doc snapshot key = cell_if doc snapshot (said_of key)

-- the cells of the document that some keys say
abbrev pub cells_of : DocKey → ℕ → List (List ℕ) → List EventCell
cells_of doc snapshot keys = filter_map (cell_at doc snapshot) keys

-- what a reader sees of it
abbrev pub view_in : List (List ℕ) → ℕ → DocKey → List (List ℕ) → List Pair
view_in names snapshot doc keys = view_of names (cells_of doc snapshot keys)

-- the first place of the document's cells that is not covered
abbrev pub document_gap : Held → DocKey → Option (List ℕ)
document_gap t doc = gap_before t (document_start t.shard doc) (document_end t.shard doc)
