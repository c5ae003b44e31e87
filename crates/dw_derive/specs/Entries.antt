-- The cells of an event in the tables 0 to 2.
use Rattle.std.specs.Prelude.{◌≡◌, ℕ, List, [], ◌∷◌, ◌++◌, Option, Some, None, map as list_map, if◌then◌else◌}
use Rattle.std.specs.List.{flat_map}
use Rattle.std.specs.Ordering.{nat_cmp, on, then_cmp}
use Rattle.std.specs.Cmp.Lexicographic.{slice_cmp}
use Rattle.std.specs.declared.cmp.Ordering.{Ordering}
use Rattle.std.specs.declared.cmp.Ordering.TheVariants.{Equal}
use Rattle.std.proofs.Common.{sym, ap}
use Rattle.std.proofs.lemmas.Map.Lookups as found
use Rattle.hex.specs.Hex.{encode_lower}
use Rattle.dw_key.specs.declared.key.Key.{Key}
use Rattle.dw_key.specs.declared.doc_key.DocKey.{DocKey}
use Rattle.dw_key.specs.KeyCode.{code}
use Rattle.dw_key.specs.KeyOrder.{key_order}
use Rattle.dw_norm.specs.Normal.{norm}
use Rattle.dw_norm.specs.Reversal.{rev}
use Rattle.dw_dict.specs.declared.rule.FieldRule.{FieldRule}
use Rattle.dw_dict.specs.Dictionary.{Dictionary, rule_of}
use Rattle.dw_event.specs.declared.cells.EventCell.{EventCell}
use Rattle.dw_event.specs.declared.records.Event.{Event as EventRecord}
use Rattle.dw_event.specs.Take.{Event}
use Rattle.dw_outside.specs.declared.slot.Slot.{Slot}
use Rattle.dw_derive.specs.declared.event_cells.Entry.{Entry}

-- an event by its place and what is held there
abbrev pub event_of : EventRecord → Event
event_of e = (record { shard = e.shard; key = e.key }, record { cells = e.cells; batch = e.batch })

-- two texts with a byte 0 between them
abbrev pub zero_joined : List ℕ → List ℕ → List ℕ
zero_joined front back = front ++ 0 ∷ back

-- a document key as the text of a key: the type, a byte 0 and the 64 hexadecimal digits of the uid
abbrev pub doc_text : DocKey → List ℕ
doc_text doc = zero_joined doc.dtype (encode_lower doc.uid)

-- the two bytes that begin the family of the field index
abbrev pub field_index : List ℕ
field_index = 102 ∷ 105 ∷ []

-- an event's cell in table 0
abbrev pub event_key : Event → EventCell → Key
event_key e c = record {
  row = e.0.shard;
  family = doc_text e.0.key;
  qualifier = zero_joined c.field c.raw;
  vis = c.vis;
  stamp = e.1.batch;
}

-- the cell of the field index in table 0, for a normal form
abbrev pub field_key : Event → EventCell → List ℕ → Key
field_key e c value = record {
  row = e.0.shard;
  family = zero_joined field_index c.field;
  qualifier = zero_joined value (doc_text e.0.key);
  vis = c.vis;
  stamp = e.1.batch;
}

-- the cell of a global index, for a normal form in table 1 and a reversed one in table 2
abbrev pub global_key : Event → EventCell → List ℕ → Key
global_key e c value = record {
  row = value;
  family = c.field;
  qualifier = zero_joined e.0.shard e.0.key.dtype;
  vis = c.vis;
  stamp = 0;
}

-- the cells of a normal form in the field index and in table 1
abbrev pub forward_entries : Event → EventCell → List ℕ → List Entry
forward_entries e c value = record { table = 0; key = field_key e c value } ∷ record { table = 1; key = global_key e c value } ∷ []

-- and in table 2, where it stands reversed
abbrev pub backward_entries : Event → EventCell → List ℕ → List Entry
backward_entries e c value = record { table = 2; key = global_key e c (rev value) } ∷ []

-- the cells of the indexes, where the value has a normal form
abbrev pub index_entries : FieldRule → Event → EventCell → Option (List ℕ) → List Entry
index_entries rule e c None = []
index_entries rule e c (Some value) =
    (if rule.indexed then forward_entries e c value else []) ++ (if rule.reversed then backward_entries e c value else [])

-- the cells that one cell of an event gives
abbrev pub cell_entries : Dictionary → Event → EventCell → List Entry
cell_entries dict e c = record { table = 0; key = event_key e c } ∷ index_entries (rule_of dict c.field) e c (norm (rule_of dict c.field).kind c.raw)

-- the cells that an event gives, of which one may stand twice
abbrev pub entries_of : Dictionary → Event → List Entry
entries_of dict e = flat_map (cell_entries dict e) e.1.cells

-- entries ascend by table, and then by key
abbrev pub entry_cmp : Entry → Entry → Ordering
entry_cmp = then_cmp (on (λ n. n.table) nat_cmp) (on (λ n. n.key) key_order)

-- where an entry stands
abbrev pub slot_of : Entry → Slot
slot_of n = record { table = n.table; key = code n.key }

-- the slots that an event gives, of which one may stand twice
abbrev pub slots_of : Dictionary → Event → List Slot
slots_of dict e = list_map slot_of (entries_of dict e)

-- ---- entries that are ordered alike are equal

exact_stamps : (a b : ℕ) → nat_cmp b a ≡ Equal → a ≡ b
exact_stamps a b h = sym (found.exact_unsigned b a h)

abbrev pub KeyParts : Type 0
KeyParts = List ℕ × (List ℕ × (List ℕ × (List ℕ × ℕ)))

abbrev pub parts_in : Key → KeyParts
parts_in k = (k.row, (k.family, (k.qualifier, (k.vis, k.stamp))))

pub exact_keys : (a b : Key) → key_order a b ≡ Equal → a ≡ b
exact_keys a b h =
    ap (λ (p : KeyParts). record { row = p.0; family = p.1.0; qualifier = p.1.1.0; vis = p.1.1.1.0; stamp = p.1.1.1.1 })
    (found.exact_pairs (slice_cmp nat_cmp) _ found.exact_bytes (found.exact_pairs (slice_cmp nat_cmp) _ found.exact_bytes
    (found.exact_pairs (slice_cmp nat_cmp) _ found.exact_bytes (found.exact_pairs (slice_cmp nat_cmp) _ found.exact_bytes exact_stamps)))
    (parts_in a) (parts_in b) h)

pub exact_entries : (a b : Entry) → entry_cmp a b ≡ Equal → a ≡ b
exact_entries a b h =
    ap (λ (p : ℕ × Key). record { table = p.0; key = p.1 }) (found.exact_pairs nat_cmp key_order found.exact_unsigned exact_keys (a.table, a.key) (b.table, b.key) h)
