-- The keys of an event's cells are read back.
use Rattle.std.specs.Prelude.{◌≡◌, ◌≢◌, ℕ, List, Some, None, IsTrue}
use Rattle.std.specs.Str.{is_utf8}
use Rattle.dw_key.specs.declared.doc_key.DocKey.{DocKey}
use Rattle.dw_key.specs.TypeName.{is_type_name}
use Rattle.dw_event.specs.declared.cells.EventCell.{EventCell}
use Rattle.dw_event.specs.Names.{lacks_zero}
use Rattle.dw_event.specs.Take.{Event}
use Rattle.dw_derive.specs.UidLists.{IsUid}
use Rattle.dw_derive.specs.Entries.{event_key, field_key, global_key}
use Rattle.dw_derive.specs.Readers.{event_reading, index_reading, global_reading}

-- a type by its rule, and a uid of 32 bytes
pub record IsDocKey (doc : DocKey) : Type 0 where
  pub dtype : IsTrue (is_type_name doc.dtype)
  pub uid : IsUid doc.uid

-- a text without a byte 0
pub record IsPlainText (text : List ℕ) : Type 0 where
  pub utf8 : IsTrue (is_utf8 text)
  pub no_zero : IsTrue (lacks_zero text)

-- the key of an event's cell says whose it is, the field and the raw value, and is none of the field index
abbrev pub EventKeysAreRead : Type 0
EventKeysAreRead = (e : Event) (c : EventCell) → IsDocKey e.0.key → IsPlainText c.field → IsTrue (is_utf8 c.raw) →
    (event_reading (event_key e c) ≡ Some (record { shard = e.0.shard; doc = e.0.key; field = c.field; raw = c.raw }))
    × (index_reading (event_key e c) ≡ None)

-- the key of a cell of the field index says the field, the value and whose it is, and is none of an event's cell
abbrev pub FieldKeysAreRead : Type 0
FieldKeysAreRead = (e : Event) (c : EventCell) (value : List ℕ) → IsDocKey e.0.key → IsTrue (is_utf8 c.field) → IsPlainText value →
    (index_reading (field_key e c value) ≡ Some (record { shard = e.0.shard; field = c.field; value = value; doc = e.0.key }))
    × (event_reading (field_key e c value) ≡ None)

-- the key of a cell of a global index says the value, the field, the shard and the type
abbrev pub GlobalKeysAreRead : Type 0
GlobalKeysAreRead = (e : Event) (c : EventCell) (value : List ℕ) → IsTrue (is_type_name e.0.key.dtype) → IsTrue (lacks_zero e.0.shard)
    → IsTrue (is_utf8 c.field) → IsTrue (is_utf8 value) →
    global_reading (global_key e c value) ≡ Some (record { value = value; field = c.field; shard = e.0.shard; dtype = e.0.key.dtype })

-- no key is both that of an event's cell and that of a cell of the field index, of whichever events
abbrev pub RowsNeverMeet : Type 0
RowsNeverMeet = (e d : Event) (c b : EventCell) (value : List ℕ) → IsTrue (is_type_name e.0.key.dtype) → event_key e c ≢ field_key d b value
