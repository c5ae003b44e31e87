-- The keys of an event's cells are read back.
use Rattle.std.proofs.Common.{◌≡◌, ℕ, zero, suc, ◌<◌, ◌==◌, true, false, ◌&&◌, not, List, [], ◌∷◌, length, Option, Some, None, unwrap_or, refl, sym, ap, ◌∙◌, arith}
use Rattle.std.specs.Prelude.{IsTrue, nat_eq, if◌then◌else◌}
use Rattle.std.specs.Option.{option_map, option_and_then}
use Rattle.std.specs.List.{AllByRecursion}
use Rattle.std.specs.Str.{is_utf8}
use Rattle.std.specs.Cmp.Lexicographic.{pointwise, bytes_decides}
use Rattle.std.proofs.lemmas.Bool.{and_parts, eq-eqb}
use Rattle.hex.specs.Hex.{encode_lower}
use Rattle.hex.proofs.HexLemmas.{decode_of-encode_lower}
use Rattle.dw_key.specs.declared.key.Key.{Key}
use Rattle.dw_key.specs.declared.doc_key.DocKey.{DocKey}
use Rattle.dw_key.specs.TypeName.{is_type_name}
use Rattle.dw_key.proofs.TypeNames.{type_name_keeps, type_name_no_zero}
use Rattle.dw_event.specs.Names.{lacks_zero}
use Rattle.dw_derive.specs.UidLists.{IsUid}
use Rattle.dw_derive.specs.Entries.{zero_joined, doc_text, field_index, event_key, field_key, global_key}
use Rattle.dw_derive.specs.Readers.{split_at_zero, only_if, uid_given, uid_from, doc_of, doc_from, event_parts, indexed_field, field_of_family, index_parts, global_parts}
use Rattle.dw_derive.specs.ReaderLaws.{IsDocKey, EventKeysAreRead, FieldKeysAreRead, GlobalKeysAreRead, RowsNeverMeet}
use Rattle.dw_derive.proofs.Spellings.{fits_at}
use Rattle.dw_derive.proofs.ReaderLemmas.{false_from}

-- a split at the byte 0 that was put there
split_there : (front back : List ℕ) → AllByRecursion (λ b. 0 < b) front → split_at_zero (zero_joined front back) ≡ Some (front, back)
split_there [] back all = refl
split_there (zero ∷ front) back all = absurd (omega (arith, all.0))
split_there (suc b ∷ front) back all = ap (option_map (λ (parts : List ℕ × List ℕ). (suc b ∷ parts.0, parts.1))) (split_there front back all.1)

no_zeros : (text : List ℕ) → IsTrue (lacks_zero text) → AllByRecursion (λ b. 0 < b) text
no_zeros [] h = tt
no_zeros (zero ∷ text) h = cc h
no_zeros (suc b ∷ text) h = (omega arith, no_zeros text (and_parts (not (suc b == 0)) (lacks_zero text) h).1)

same_bytes : (xs : List ℕ) → pointwise nat_eq xs xs ≡ true
same_bytes xs = (bytes_decides xs xs).1 refl

-- a uid is read back from its digits
pub uid_read : (uid : List ℕ) → IsUid uid → uid_from (encode_lower uid) ≡ Some uid
uid_read uid h =
    ap (uid_given (encode_lower uid)) (decode_of-encode_lower uid (fits_at uid h.are_bytes))
    ∙ (λ i. only_if (eq-eqb (length uid) 32 h.size i && same_bytes (encode_lower uid) i) uid)

-- and a document key from its text
pub doc_read : (doc : DocKey) → IsDocKey doc → doc_from (doc_text doc) ≡ Some doc
doc_read doc h =
    ap (option_and_then doc_of) (split_there doc.dtype (encode_lower doc.uid) (type_name_no_zero doc.dtype h.dtype))
    ∙ (λ i. if h.dtype i then option_map (λ (uid : List ℕ). record { dtype = doc.dtype; uid = uid }) (uid_read doc.uid h.uid i) else None)

-- no document key's text is a family of the field index
no_field : (doc : DocKey) → IsTrue (is_type_name doc.dtype) → field_of_family (doc_text doc) ≡ None
no_field doc h =
    let other : pointwise nat_eq doc.dtype field_index ≡ false = false_from (pointwise nat_eq doc.dtype field_index) (λ e. (type_name_keeps doc.dtype h).not_fi ((bytes_decides doc.dtype field_index).0 e)) in
    ap (option_and_then indexed_field) (split_there doc.dtype (encode_lower doc.uid) (type_name_no_zero doc.dtype h))
    ∙ (λ i. only_if (other i && is_utf8 (encode_lower doc.uid)) (encode_lower doc.uid))

pub event_keys : EventKeysAreRead
event_keys e c doc field raw =
    let family = doc_read e.0.key doc in
    let parts = split_there c.field c.raw (no_zeros c.field field.no_zero) in (
      (λ i. option_and_then (λ (d : DocKey). option_and_then (event_parts (event_key e c) d) (parts i)) (family i))
          ∙ (λ i. only_if (field.utf8 i && raw i) (record { shard = e.0.shard; doc = e.0.key; field = c.field; raw = c.raw })),
      λ i. option_and_then (λ (f : List ℕ). option_and_then (index_parts (event_key e c) f) (split_at_zero (zero_joined c.field c.raw))) (no_field e.0.key doc.dtype i),
    )

pub field_keys : FieldKeysAreRead
field_keys e c value doc field text =
    let parts = split_there value (doc_text e.0.key) (no_zeros value text.no_zero) in (
      (λ i. option_and_then (λ (f : List ℕ). option_and_then (index_parts (field_key e c value) f) (parts i)) (only_if (field i) c.field))
          ∙ (λ i. if text.utf8 i then option_map (λ (d : DocKey). record { shard = e.0.shard; field = c.field; value = value; doc = d }) (doc_read e.0.key doc i) else None),
      refl,
    )

pub global_keys : GlobalKeysAreRead
global_keys e c value dtype shard field text =
    ap (option_and_then (global_parts (global_key e c value))) (split_there e.0.shard e.0.key.dtype (no_zeros e.0.shard shard))
    ∙ (λ i. only_if (text i && field i && dtype i) (record { value = value; field = c.field; shard = e.0.shard; dtype = e.0.key.dtype }))

pub never_meet : RowsNeverMeet
never_meet e d c b value dtype h =
    let both : Some (e.0.key.dtype, encode_lower e.0.key.uid) ≡ Some (field_index, b.field) =
    sym (split_there e.0.key.dtype (encode_lower e.0.key.uid) (type_name_no_zero e.0.key.dtype dtype)) ∙ ap (λ (k : Key). split_at_zero k.family) h in
    (type_name_keeps e.0.key.dtype dtype).not_fi (ap (λ (parts : Option (List ℕ × List ℕ)). (unwrap_or parts ([], [])).0) both)
