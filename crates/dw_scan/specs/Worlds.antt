-- The shards of a world's tables, and what is seen of their events.
use Rattle.std.specs.Prelude.{◌≡◌, ◌⊎◌, ℕ, nat_le, Bool, true, List, [], map as list_map, filter, Option, Some, None, if◌then◌else◌}
use Rattle.dw_key.specs.declared.doc_key.DocKey.{DocKey}
use Rattle.dw_dict.specs.Dictionary.{Dictionary, rule_of}
use Rattle.dw_event.specs.Seen.{seen}
use Rattle.dw_event.specs.Take.{held_at}
use Rattle.dw_event.specs.Texts.{is_same}
use Rattle.dw_event.specs.Views.{view_of}
use Rattle.dw_event.specs.declared.records.Held.{Held}
use Rattle.dw_event.specs.declared.reports.Shown.{Shown}
use Rattle.dw_event.specs.declared.types.Types.{Types}
use Rattle.dw_event.specs.declared.views.Pair.{Pair}
use Rattle.dw_outside.specs.Tables.{span_of}
use Rattle.dw_derive.specs.ReaderLaws.{IsDocKey}
use Rattle.dw_derive.specs.World.{World}
use Rattle.dw_derive.specs.Tables.{tables}
use Rattle.dw_derive.specs.Lawful.{HasEvents}
use Rattle.dw_nest.specs.Bounds.{Ascends}
use Rattle.dw_tablet.specs.Places.{shard_start, shard_end, between}
use Rattle.dw_tablet.specs.Documents.{document_start, document_end, view_in}
use Rattle.dw_iter.specs.LeafLists.{AreLeafDocs}
use Rattle.dw_scan.specs.Candidates.{keys_of, leaf_keys}

-- the keys of the cells of a shard in table 0
abbrev pub content_of : World → List ℕ → List (List ℕ)
content_of w shard = list_map (λ c. c.0) (span_of 0 (shard_start shard) (shard_end shard) (tables w))

-- what the holder of these names sees of what is held at a place, where it is of a batch up to the snapshot
abbrev pub view_held : List (List ℕ) → ℕ → Option Held → List Pair
view_held names snapshot None = []
view_held names snapshot (Some held) = if nat_le held.batch snapshot then view_of names held.cells else []

-- the document of a key, as a reader sees it in the content of a shard, is the view of the event of that place
abbrev pub DocumentsAreViews : Type 0
DocumentsAreViews = (w : World) (shard : List ℕ) (key : DocKey) (names : List (List ℕ)) (snapshot : ℕ) → HasEvents w → IsDocKey key →
    view_in names snapshot key (between (document_start shard key) (document_end shard key) (content_of w shard))
    ≡ view_held names snapshot (held_at w.events (record { shard = shard; key = key }))

-- what the holder of some names sees of the events of a shard, of batches up to the snapshot
abbrev pub shard_seen : World → List ℕ → List (List ℕ) → ℕ → List Shown
shard_seen w shard names snapshot = filter (λ s. is_same s.shard shard) (seen names w.events snapshot)

-- the world has the field indexed, with the kind that the dictionary gives it, or no batch is seen
abbrev pub IsIndexedAlike : World → Dictionary → ℕ → List ℕ → Type 0
IsIndexedAlike w dict snapshot field = (snapshot ≡ 0) ⊎ (((rule_of w.dict field).indexed ≡ true) × ((rule_of w.dict field).kind ≡ (rule_of dict field).kind))

-- the events of a shard are seen in the order of their keys, each once
abbrev pub SeenAscend : Type 0
SeenAscend = (w : World) (shard : List ℕ) (names : List (List ℕ)) (snapshot : ℕ) → HasEvents w → Ascends (keys_of (shard_seen w shard names snapshot))

-- the documents that a leaf finds in the shard of a world's tables are the events that are seen there with a value which meets it
abbrev pub LeavesFindTheSeen : Type 0
LeavesFindTheSeen = (w : World) (shard : List ℕ) (names : List (List ℕ)) (snapshot : ℕ) (dict : Dictionary) (types : Types) (field : List ℕ) (test : List ℕ → Bool)
    → HasEvents w → IsIndexedAlike w dict snapshot field
    → AreLeafDocs field test names snapshot types (content_of w shard) (leaf_keys dict types (shard_seen w shard names snapshot) field test)
