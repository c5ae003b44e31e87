-- How bytes are spelled that are read as keys of table 0.
use Rattle.std.proofs.Common.{◌≡◌, ℕ, zero, suc, ◌<◌, ◌==◌, Bool, true, false, List, [], ◌∷◌, ◌++◌, Option, Some, None, length, refl, sym, ap, subst, ◌∙◌, arith}
use Rattle.std.specs.Prelude.{◌&&◌, not, Result, Ok, Err, nat_eq, slice_index, if◌then◌else◌}
use Rattle.std.proofs.lemmas.Bool.Decides.{nat_tests}
use Rattle.dw_event.specs.Names.{lacks_zero}
use Rattle.std.specs.Option.{option_map}
use Rattle.std.specs.Str.{is_utf8}
use Rattle.std.specs.Cmp.Lexicographic.{pointwise, bytes_decides}
use Rattle.std.proofs.lemmas.Bool.{and_parts, eqb-true}
use Rattle.hex.specs.Hex.{encode_lower, decode_of}
use Rattle.hex.specs.declared.error.FromHexError.{FromHexError}
use Rattle.hex.proofs.HexLemmas.{decode_of-ok}
use Rattle.dw_key.specs.declared.key.Key.{Key}
use Rattle.dw_key.specs.declared.doc_key.DocKey.{DocKey}
use Rattle.dw_key.specs.KeyCode.{escaped, part_code, AreBytes}
use Rattle.dw_key.specs.TypeName.{is_type_name}
use Rattle.dw_derive.specs.UidLists.{IsUid}
use Rattle.dw_derive.specs.Entries.{zero_joined, doc_text, field_index}
use Rattle.dw_derive.specs.Decoded.{part_from, stamp_from, key_from}
use Rattle.dw_derive.specs.Readers.{EventReading, IndexReading, split_at_zero, only_if, uid_given, uid_from, doc_of, doc_from, event_parts, event_reading, indexed_field, field_of_family, index_parts, index_reading}
use Rattle.dw_derive.specs.ReaderLaws.{IsDocKey}
use Rattle.dw_derive.proofs.Decoding.{part_back, then_part, and_then_some, map_some}

-- bytes that are read as a key begin with its first three parts, whatever their stamp is made of
pub key_spelled : (bytes : List ℕ) (k : Key) → key_from bytes ≡ Some k → (rest : List ℕ) × (bytes ≡ part_code k.row ++ (part_code k.family ++ (part_code k.qualifier ++ rest)))
key_spelled bytes k h =
    let row = and_then_some _ (part_from bytes) k h in
    let family = and_then_some _ (part_from row.0.1) k row.2 in
    let qualifier = and_then_some _ (part_from family.0.1) k family.2 in
    let vis = and_then_some _ (part_from qualifier.0.1) k qualifier.2 in
    let stamp = map_some _ (stamp_from vis.0.1) k vis.2 in
    let one : bytes ≡ escaped row.0.0 ++ 0 ∷ 0 ∷ row.0.1 = part_back bytes row.0.0 row.0.1 row.1 in
    let two : row.0.1 ≡ escaped family.0.0 ++ 0 ∷ 0 ∷ family.0.1 = part_back row.0.1 family.0.0 family.0.1 family.1 in
    let three : family.0.1 ≡ escaped qualifier.0.0 ++ 0 ∷ 0 ∷ qualifier.0.1 = part_back family.0.1 qualifier.0.0 qualifier.0.1 qualifier.1 in
    let made : Key = record { row = row.0.0; family = family.0.0; qualifier = qualifier.0.0; vis = vis.0.0; stamp = stamp.0 } in
    let same : made ≡ k = stamp.2 in (
      qualifier.0.1,
      one ∙ then_part row.0.0 _ _ (two ∙ then_part family.0.0 _ _ (three ∙ then_part qualifier.0.0 _ _ refl))
          ∙ ap (λ (x : Key). part_code x.row ++ (part_code x.family ++ (part_code x.qualifier ++ qualifier.0.1))) same,
    )

pair_parts : {A B : Type 0} {p q : A × B} → Some p ≡ Some q → (p.0 ≡ q.0) × (p.1 ≡ q.1)
pair_parts e = (cc, cc)

-- what is split at a byte 0
pub split_back : (q a b : List ℕ) → split_at_zero q ≡ Some (a, b) → q ≡ a ++ 0 ∷ b
split_back [] a b h = cc
split_back (zero ∷ q) a b h =
    let e : ([] ≡ a) × (q ≡ b) = pair_parts h in
    ap (λ y. 0 ∷ y) e.1 ∙ ap (λ y. y ++ 0 ∷ b) e.0
split_back (suc c ∷ q) a b h = at (split_back q) (split_at_zero q) refl h
  where
    at : ((x y : List ℕ) → split_at_zero q ≡ Some (x, y) → q ≡ x ++ 0 ∷ y) → (o : Option (List ℕ × List ℕ)) → split_at_zero q ≡ o
        → option_map {U = List ℕ × List ℕ} (λ (parts : List ℕ × List ℕ). (suc c ∷ parts.0, parts.1)) o ≡ Some (a, b) → suc c ∷ q ≡ a ++ 0 ∷ b
    at back None r e = cc
    at back (Some p) r e =
        let f : (suc c ∷ p.0 ≡ a) × (p.1 ≡ b) = pair_parts e in
        ap (λ y. suc c ∷ y) (back p.0 p.1 r) ∙ ap (λ y. suc c ∷ (p.0 ++ 0 ∷ y)) f.1 ∙ ap (λ y. y ++ 0 ∷ b) f.0

pub only_parts : {A : Type 0} (t : Bool) (x y : A) → only_if t x ≡ Some y → (t ≡ true) × (x ≡ y)
only_parts true x y h = (refl, cc)
only_parts false x y h = cc

-- ---- document keys

-- numbers that fit a byte at each index
fit : (bs : List ℕ) → ((i : ℕ) → slice_index bs i < 256) → AreBytes bs
fit [] h = tt
fit (b ∷ bs) h = (h 0, fit bs (λ i. h (suc i)))

uid_back : (text uid : List ℕ) → uid_from text ≡ Some uid → (text ≡ encode_lower uid) × IsUid uid
uid_back text uid h = at (decode_of text) refl h
  where
    at : (r : Result (List ℕ) FromHexError) → decode_of text ≡ r → uid_given text r ≡ Some uid → (text ≡ encode_lower uid) × IsUid uid
    at (Ok found) read e =
        let only = only_parts ((length found == 32) && pointwise nat_eq (encode_lower found) text) found uid e in
        let both = and_parts (length found == 32) (pointwise nat_eq (encode_lower found) text) only.0 in
        let spelled : encode_lower found ≡ text = (bytes_decides (encode_lower found) text).0 both.1 in
        let whole : IsUid found = record { size = eqb-true (length found) 32 both.0; are_bytes = fit found (decode_of-ok text found read).3 } in
        (sym spelled ∙ ap encode_lower only.1, subst IsUid only.1 whole)
    at (Err f) read e = cc

doc_of_back : (parts : List ℕ × List ℕ) (doc : DocKey) → doc_of parts ≡ Some doc → (zero_joined parts.0 parts.1 ≡ doc_text doc) × IsDocKey doc
doc_of_back parts doc h = at (is_type_name parts.0) refl h
  where
    at : (b : Bool) → is_type_name parts.0 ≡ b → (if b then option_map (λ uid. record { dtype = parts.0; uid = uid }) (uid_from parts.1) else None) ≡ Some doc → (zero_joined parts.0 parts.1 ≡ doc_text doc) × IsDocKey doc
    at true name e =
        let uid = map_some _ (uid_from parts.1) doc e in
        let read = uid_back parts.1 uid.0 uid.1 in
        let made : DocKey = record { dtype = parts.0; uid = uid.0 } in
        let same : made ≡ doc = uid.2 in
        (ap (λ digits. zero_joined parts.0 digits) read.0 ∙ ap doc_text same, subst IsDocKey same (record { dtype = name; uid = read.1 }))
    at false name e = cc

doc_back : (text : List ℕ) (doc : DocKey) → doc_from text ≡ Some doc → (text ≡ doc_text doc) × IsDocKey doc
doc_back text doc h =
    let parts = and_then_some doc_of (split_at_zero text) doc h in
    let read = doc_of_back parts.0 doc parts.2 in
    (split_back text parts.0.0 parts.0.1 parts.1 ∙ read.0, read.1)

-- ---- cells of the field index

field_back : (family field : List ℕ) → field_of_family family ≡ Some field → family ≡ zero_joined field_index field
field_back family field h =
    let parts = and_then_some indexed_field (split_at_zero family) field h in
    let only = only_parts (pointwise nat_eq parts.0.0 field_index && is_utf8 parts.0.1) parts.0.1 field parts.2 in
    let front : parts.0.0 ≡ field_index = (bytes_decides parts.0.0 field_index).0 (and_parts (pointwise nat_eq parts.0.0 field_index) (is_utf8 parts.0.1) only.0).0 in
    split_back family parts.0.0 parts.0.1 parts.1 ∙ ap (λ f. zero_joined f parts.0.1) front ∙ ap (zero_joined field_index) only.1

-- what stands before the first byte 0 has none
split_lacks : (q a b : List ℕ) → split_at_zero q ≡ Some (a, b) → lacks_zero a ≡ true
split_lacks [] a b h = cc
split_lacks (zero ∷ q) a b h = let e : ([] ≡ a) × (q ≡ b) = pair_parts h in ap lacks_zero (sym e.0)
split_lacks (suc c ∷ q) a b h = at (split_lacks q) (split_at_zero q) refl h
  where
    above : (m : ℕ) → not (suc m == 0) ≡ true
    above m = grind (arith, nat_tests)

    at : ((x y : List ℕ) → split_at_zero q ≡ Some (x, y) → lacks_zero x ≡ true) → (o : Option (List ℕ × List ℕ)) → split_at_zero q ≡ o
        → option_map {U = List ℕ × List ℕ} (λ (parts : List ℕ × List ℕ). (suc c ∷ parts.0, parts.1)) o ≡ Some (a, b) → lacks_zero a ≡ true
    at lacks None r e = cc
    at lacks (Some p) r e =
        let f : (suc c ∷ p.0 ≡ a) × (p.1 ≡ b) = pair_parts e in
        ap lacks_zero (sym f.0) ∙ ap (λ t. t && lacks_zero p.0) (above c) ∙ lacks p.0 p.1 r

pub record IndexSpelled (k : Key) (r : IndexReading) : Type 0 where
  pub row : k.row ≡ r.shard
  pub family : k.family ≡ zero_joined field_index r.field
  pub qualifier : k.qualifier ≡ zero_joined r.value (doc_text r.doc)
  pub value : lacks_zero r.value ≡ true
  pub doc : IsDocKey r.doc

index_parts_back : (k : Key) (field : List ℕ) (parts : List ℕ × List ℕ) (r : IndexReading) → k.family ≡ zero_joined field_index field → k.qualifier ≡ zero_joined parts.0 parts.1 → lacks_zero parts.0 ≡ true → index_parts k field parts ≡ Some r → IndexSpelled k r
index_parts_back k field parts r family qualifier lacks h = at (is_utf8 parts.0) h
  where
    at : (b : Bool) → (if b then option_map (λ doc. record { shard = k.row; field = field; value = parts.0; doc = doc }) (doc_from parts.1) else None) ≡ Some r → IndexSpelled k r
    at true e =
        let doc = map_some _ (doc_from parts.1) r e in
        let read = doc_back parts.1 doc.0 doc.1 in
        let made : IndexReading = record { shard = k.row; field = field; value = parts.0; doc = doc.0 } in
        let same : made ≡ r = doc.2 in
        let whole : IndexSpelled k made = record { row = refl; family = family; qualifier = qualifier ∙ ap (zero_joined parts.0) read.0; value = lacks; doc = read.1 } in
        subst (IndexSpelled k) same whole
    at false e = cc

pub index_spelled : (k : Key) (r : IndexReading) → index_reading k ≡ Some r → IndexSpelled k r
index_spelled k r h =
    let field = and_then_some _ (field_of_family k.family) r h in
    let parts = and_then_some (index_parts k field.0) (split_at_zero k.qualifier) r field.2 in
    index_parts_back k field.0 parts.0 r (field_back k.family field.0 field.1) (split_back k.qualifier parts.0.0 parts.0.1 parts.1) (split_lacks k.qualifier parts.0.0 parts.0.1 parts.1) parts.2

-- ---- cells of events

pub record EventSpelled (k : Key) (r : EventReading) : Type 0 where
  pub row : k.row ≡ r.shard
  pub family : k.family ≡ doc_text r.doc
  pub qualifier : k.qualifier ≡ zero_joined r.field r.raw
  pub doc : IsDocKey r.doc

pub event_spelled : (k : Key) (r : EventReading) → event_reading k ≡ Some r → EventSpelled k r
event_spelled k r h =
    let doc = and_then_some _ (doc_from k.family) r h in
    let read = doc_back k.family doc.0 doc.1 in
    let cell = and_then_some (event_parts k doc.0) (split_at_zero k.qualifier) r doc.2 in
    let made : EventReading = record { shard = k.row; doc = doc.0; field = cell.0.0; raw = cell.0.1 } in
    let only = only_parts (is_utf8 cell.0.0 && is_utf8 cell.0.1) made r cell.2 in
    let whole : EventSpelled k made = record { row = refl; family = read.0; qualifier = split_back k.qualifier cell.0.0 cell.0.1 cell.1; doc = read.1 } in
    subst (EventSpelled k) only.1 whole
