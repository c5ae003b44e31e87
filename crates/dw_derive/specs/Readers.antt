-- What keys of the tables 0 to 2 say.
use Rattle.std.specs.Prelude.{ℕ, zero, suc, ◌==◌, ◌&&◌, nat_eq, Bool, List, [], ◌∷◌, length, Option, Some, None, Result, Ok, Err, if◌then◌else◌}
use Rattle.std.specs.Option.{option_map, option_and_then}
use Rattle.std.specs.Str.{is_utf8}
use Rattle.std.specs.Cmp.Lexicographic.{pointwise}
use Rattle.hex.specs.Hex.{encode_lower, decode_of}
use Rattle.hex.specs.declared.error.FromHexError.{FromHexError}
use Rattle.dw_key.specs.declared.key.Key.{Key}
use Rattle.dw_key.specs.declared.doc_key.DocKey.{DocKey}
use Rattle.dw_key.specs.TypeName.{is_type_name}
use Rattle.dw_derive.specs.Entries.{field_index}

-- what stands before the first byte 0, and what behind it
abbrev pub split_at_zero : List ℕ → Option (List ℕ × List ℕ)
split_at_zero [] = None
split_at_zero (zero ∷ bytes) = Some ([], bytes)
split_at_zero (suc b ∷ bytes) = option_map (λ parts. (suc b ∷ parts.0, parts.1)) (split_at_zero bytes)

-- the value, where the test holds
abbrev pub only_if : {A : Type 0} → Bool → A → Option A
only_if test value = if test then Some value else None

-- a uid that hexadecimal digits gave, where it has 32 bytes and is written so
abbrev pub uid_given : List ℕ → Result (List ℕ) FromHexError → Option (List ℕ)
uid_given text (Ok uid) = only_if ((length uid == 32) && pointwise nat_eq (encode_lower uid) text) uid
uid_given text (Err e) = None

-- the uid of 64 lower-case hexadecimal digits
abbrev pub uid_from : List ℕ → Option (List ℕ)
uid_from text = uid_given text (decode_of text)

-- a document key from a type and the text of a uid
abbrev pub doc_of : List ℕ × List ℕ → Option DocKey
doc_of parts = if is_type_name parts.0 then option_map (λ uid. record { dtype = parts.0; uid = uid }) (uid_from parts.1) else None

-- the document key of a text of a key
abbrev pub doc_from : List ℕ → Option DocKey
doc_from text = option_and_then doc_of (split_at_zero text)

-- ---- cells of events

-- whose cell it is, and the field and the raw value
pub record EventReading : Type 0 where
  pub shard : List ℕ
  pub doc : DocKey
  pub field : List ℕ
  pub raw : List ℕ

abbrev pub event_parts : Key → DocKey → List ℕ × List ℕ → Option EventReading
event_parts k doc cell = only_if (is_utf8 cell.0 && is_utf8 cell.1) (record { shard = k.row; doc = doc; field = cell.0; raw = cell.1 })

-- the reading of a key with the family T, 0, H and the qualifier F, 0, raw
abbrev pub event_reading : Key → Option EventReading
event_reading k = option_and_then (λ doc. option_and_then (event_parts k doc) (split_at_zero k.qualifier)) (doc_from k.family)

-- ---- cells of the field index

-- the field, the normal form and whose value it is
pub record IndexReading : Type 0 where
  pub shard : List ℕ
  pub field : List ℕ
  pub value : List ℕ
  pub doc : DocKey

-- F of the two parts of a family
abbrev pub indexed_field : List ℕ × List ℕ → Option (List ℕ)
indexed_field parts = only_if (pointwise nat_eq parts.0 field_index && is_utf8 parts.1) parts.1

-- the field of a family `fi`, 0, F
abbrev pub field_of_family : List ℕ → Option (List ℕ)
field_of_family family = option_and_then indexed_field (split_at_zero family)

abbrev pub index_parts : Key → List ℕ → List ℕ × List ℕ → Option IndexReading
index_parts k field parts =
    if is_utf8 parts.0 then option_map (λ doc. record { shard = k.row; field = field; value = parts.0; doc = doc }) (doc_from parts.1) else None

-- the reading of a key with the family `fi`, 0, F and the qualifier v, 0, T, 0, H
abbrev pub index_reading : Key → Option IndexReading
index_reading k =
    option_and_then (λ field. option_and_then (index_parts k field) (split_at_zero k.qualifier)) (field_of_family k.family)

-- ---- cells of the global indexes

-- the row, the field, and the shard and the type of the events that give it
pub record GlobalReading : Type 0 where
  pub value : List ℕ
  pub field : List ℕ
  pub shard : List ℕ
  pub dtype : List ℕ

abbrev pub global_parts : Key → List ℕ × List ℕ → Option GlobalReading
global_parts k parts = only_if (is_utf8 k.row && is_utf8 k.family && is_type_name parts.1) (record { value = k.row; field = k.family; shard = parts.0; dtype = parts.1 })

-- the reading of a key with the row v, the family F and the qualifier S, 0, T
abbrev pub global_reading : Key → Option GlobalReading
global_reading k = option_and_then (global_parts k) (split_at_zero k.qualifier)
