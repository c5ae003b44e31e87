-- Where walks begin and end: places of leaves and of documents.
use Rattle.std.specs.Prelude.{ℕ, Bool, List, [], ◌∷◌, ◌++◌, cond, Option, Some, None}
use Rattle.dw_key.specs.KeyCode.{escaped, part_code}
use Rattle.dw_nest.specs.declared.bound.Bound.{Bound}
use Rattle.dw_nest.specs.declared.bound.Bound.TheVariants.{Start, From, After}
use Rattle.dw_derive.specs.Entries.{zero_joined, doc_text, field_index}
use Rattle.dw_tablet.specs.declared.pieces.Piece.{Piece}
use Rattle.dw_tablet.specs.declared.pieces.Piece.TheVariants.{Escaped, Plain}
use Rattle.dw_tablet.specs.declared.position.DocSpot.{DocSpot}
use Rattle.dw_tablet.specs.declared.position.Position.{Position}
use Rattle.dw_tablet.specs.declared.position.Position.TheVariants.{At, Past, FieldStart, FieldEnd, TextStart, ValueStart, ValueEnd, Entry, DocumentStart, DocumentEnd}

-- the bytes of a piece: a text with each byte 0 of it escaped, or bytes as they are
abbrev pub piece_bytes : Piece → List ℕ
piece_bytes (Escaped text) = escaped text.now
piece_bytes (Plain bytes) = bytes.now

-- those of some pieces, one after another
abbrev pub pieces_bytes : List Piece → List ℕ
pieces_bytes [] = []
pieces_bytes (p ∷ ps) = piece_bytes p ++ pieces_bytes ps

-- the bytes between the shard and the field of the field index
abbrev pub index_bytes : List ℕ
index_bytes = 0 ∷ 0 ∷ 102 ∷ 105 ∷ 0 ∷ 255 ∷ []

-- the bytes that end a part, and those of an escaped byte 0
abbrev pub ended : List ℕ
ended = 0 ∷ 0 ∷ []

abbrev pub zero : List ℕ
zero = 0 ∷ 255 ∷ []

-- what the keys of a field's cells in the field index begin with, up to the last byte 0 of that
abbrev pub field_front : List ℕ → List ℕ → List ℕ
field_front shard field = part_code shard ++ (escaped (zero_joined field_index field) ++ 0 ∷ [])

-- the first place of a field
abbrev pub field_start : List ℕ → List ℕ → List ℕ
field_start shard field = field_front shard field ++ 0 ∷ []

-- and the first one past it
abbrev pub field_end : List ℕ → List ℕ → List ℕ
field_end shard field = field_front shard field ++ 1 ∷ []

-- the first place of an equality with this value
abbrev pub value_start : List ℕ → List ℕ → List ℕ → List ℕ
value_start shard field value = field_start shard field ++ (escaped value ++ 0 ∷ 255 ∷ [])

-- and the first one past it
abbrev pub value_end : List ℕ → List ℕ → List ℕ → List ℕ
value_end shard field value = field_start shard field ++ (escaped value ++ 1 ∷ [])

-- the first place of the cells of a value and a document, or the first one past them
abbrev pub entry_place : List ℕ → List ℕ → List ℕ → List ℕ → ℕ → List ℕ
entry_place shard field value doc last = value_start shard field value ++ (escaped doc ++ 0 ∷ last ∷ [])

-- what the keys of a document's cells begin with, up to the last byte 0 of that
abbrev pub document_front : List ℕ → List ℕ → List ℕ
document_front shard doc = part_code shard ++ (escaped doc ++ 0 ∷ [])

-- the text of a document key
abbrev pub spot_text : DocSpot → List ℕ
spot_text s = zero_joined s.dtype s.digits

-- the last byte of a place before or behind all that begins with what stands in front of it
abbrev pub last_byte : Bool → ℕ
last_byte past = cond past 1 0

-- the place of a position
abbrev pub place_of : Position → List ℕ
place_of (At place) = place.now
place_of (Past key) = key.now ++ 0 ∷ []
place_of (FieldStart shard field) = field_start shard.now field.now
place_of (FieldEnd shard field) = field_end shard.now field.now
place_of (TextStart shard field text) = field_start shard.now field.now ++ escaped text.now
place_of (ValueStart shard field value) = value_start shard.now field.now value.now
place_of (ValueEnd shard field value) = value_end shard.now field.now value.now
place_of (Entry shard field value spot past) = entry_place shard.now field.now value.now (spot_text spot) (last_byte past)
place_of (DocumentStart shard spot) = document_front shard.now (spot_text spot) ++ 0 ∷ []
place_of (DocumentEnd shard spot) = document_front shard.now (spot_text spot) ++ 1 ∷ []

-- where a walk over the cells of a value begins, by the bound on document keys
abbrev pub bound_place : List ℕ → List ℕ → List ℕ → Bound → List ℕ
bound_place shard field value Start = value_start shard field value
bound_place shard field value (From doc) = entry_place shard field value (doc_text doc) 0
bound_place shard field value (After doc) = entry_place shard field value (doc_text doc) 1

-- where the walk of a cursor begins, by the value and the bound that it was sent to, or the key that it passed
abbrev pub cursor_place : List ℕ → List ℕ → Option (List ℕ) → Bound → Option (List ℕ) → List ℕ
cursor_place shard field value bound (Some key) = key ++ 0 ∷ []
cursor_place shard field None bound None = field_start shard field
cursor_place shard field (Some value) bound None = bound_place shard field value bound

-- where it ends
abbrev pub cursor_end : List ℕ → List ℕ → Option (List ℕ) → List ℕ
cursor_end shard field None = field_end shard field
cursor_end shard field (Some value) = value_end shard field value
