-- On the cells of events that count.
use Rattle.std.proofs.Common.{◌≡◌, ◌<◌, ◌+◌, ◌*◌, ◌-◌, ◌%◌, ◌==◌, ◌&&◌, ℕ, Bool, true, false, cond, nat_le, List, [], ◌∷◌, length, refl, ap, subst, ◌∙◌, arith}
use Rattle.std.specs.Prelude.{Option, Some, None, Result, Ok, Err, nat_eq}
use Rattle.std.specs.Str.{is_utf8}
use Rattle.std.specs.Cmp.Lexicographic.{pointwise}
use Rattle.std.proofs.lemmas.Bool.Decides.{nat_tests}
use Rattle.hex.specs.Hex.{encode_lower, hex_digit_value, value_at, digit_or_error, pair_value, decode_pairs, decode_of, ◌>>=◌}
use Rattle.hex.specs.declared.error.FromHexError.{FromHexError}
use Rattle.hex.specs.declared.error.FromHexError.TheVariants.{OddLength}
use Rattle.dw_key.specs.declared.key.Key.{Key}
use Rattle.dw_key.specs.declared.doc_key.DocKey.{DocKey}
use Rattle.dw_key.specs.KeyCode.{AreBytes}
use Rattle.dw_key.specs.TypeName.{is_type_name}
use Rattle.dw_event.specs.Records.{is_cell}
use Rattle.dw_outside.specs.declared.slot.Slot.{Slot}
use Rattle.dw_derive.specs.Decoded.{key_from}
use Rattle.dw_derive.specs.Documents.{seen_by}
use Rattle.dw_derive.specs.EventsRead.{CellReading, with_cell_of, key_says, code_says}
use Rattle.dw_derive.specs.Readers.{EventReading, split_at_zero, uid_given, uid_from, doc_of, doc_from, event_parts, event_reading}
use Rattle.dw_derive.specs.ReaderLaws.{IsDocKey}
use Rattle.dw_derive.specs.UidLists.{IsUid}
use Rattle.dw_derive.proofs.Decoding.{and_then_some, map_some}
use Rattle.dw_derive.proofs.Shards.{left}
use Rattle.dw_audit.specs.WorldOf.{code_counts, slot_counts}
use Rattle.dw_audit.proofs.Passing.{only_some, if_some}

-- ---- the bytes that hexadecimal digits spell

digit_small : (c v : ℕ) → hex_digit_value c ≡ Some v → v < 16
digit_small c v h = at (nat_le 65 c && nat_le c 70) (nat_le 97 c && nat_le c 102) (nat_le 48 c && nat_le c 57) refl refl refl h
  where
    some : {a b : ℕ} → Some a ≡ Some b → a ≡ b
    some e = cc

    upper : (nat_le 65 c && nat_le c 70) ≡ true → c - 55 ≡ v → v < 16
    upper t e = let high : c < 71 = grind (arith, nat_tests) in omega (arith, high, e)

    lower : (nat_le 97 c && nat_le c 102) ≡ true → c - 87 ≡ v → v < 16
    lower t e = let high : c < 103 = grind (arith, nat_tests) in omega (arith, high, e)

    digit : (nat_le 48 c && nat_le c 57) ≡ true → c - 48 ≡ v → v < 16
    digit t e = let high : c < 58 = grind (arith, nat_tests) in omega (arith, high, e)

    at : (a b d : Bool) → (nat_le 65 c && nat_le c 70) ≡ a → (nat_le 97 c && nat_le c 102) ≡ b → (nat_le 48 c && nat_le c 57) ≡ d
        → cond a (Some (c - 55)) (cond b (Some (c - 87)) (cond d (Some (c - 48)) None)) ≡ Some v → v < 16
    at true b d p q r e = upper p (some e)
    at false true d p q r e = lower q (some e)
    at false false true p q r e = digit r (some e)
    at false false false p q r e = cc

value_small : (c i v : ℕ) → value_at c i ≡ Ok v → v < 16
value_small c i v h = at (hex_digit_value c) refl h
  where
    at : (o : Option ℕ) → hex_digit_value c ≡ o → digit_or_error c i o ≡ Ok v → v < 16
    at None q e = cc
    at (Some w) q e = let same : w ≡ v = cc in digit_small c v (q ∙ ap Some same)

step_ok : {A B : Type 0} (r : Result A FromHexError) (f : A → Result B FromHexError) (y : B) → (r >>= f) ≡ Ok y → (x : A) × (r ≡ Ok x) × (f x ≡ Ok y)
step_ok (Ok x) f y e = (x, refl, e)
step_ok (Err x) f y e = cc

pair_small : (high low i b : ℕ) → pair_value high low i ≡ Ok b → b < 256
pair_small high low i b e =
    let h = step_ok (value_at high i) _ b e in
    let l = step_ok (value_at low (i + 1)) _ b h.2 in
    let x : h.0 < 16 = value_small high i h.0 h.1 in
    let y : l.0 < 16 = value_small low (i + 1) l.0 l.1 in
    let same : h.0 * 16 + l.0 ≡ b = cc l.2 in
    omega (arith, x, y, same)

pairs_are_bytes : (i : ℕ) (text bytes : List ℕ) → decode_pairs i text ≡ Ok bytes → AreBytes bytes
unfolding decode_pairs
pairs_are_bytes i [] bytes e = let none : [] ≡ bytes = cc in subst AreBytes none tt
pairs_are_bytes i (d ∷ []) bytes e = cc
pairs_are_bytes i (high ∷ low ∷ rest) bytes e =
    let first = step_ok (pair_value high low i) _ bytes e in
    let more = step_ok (decode_pairs (i + 2) rest) _ bytes first.2 in
    let same : first.0 ∷ more.0 ≡ bytes = cc more.2 in
    subst AreBytes same (pair_small high low i first.0 first.1, pairs_are_bytes (i + 2) rest more.0 more.1)

decoded_are_bytes : (text bytes : List ℕ) → decode_of text ≡ Ok bytes → AreBytes bytes
decoded_are_bytes text bytes e = at (length text % 2 == 1) e
  where
    at : (b : Bool) → cond b (Err OddLength) (decode_pairs 0 text) ≡ Ok bytes → AreBytes bytes
    at true e = cc
    at false e = pairs_are_bytes 0 text bytes e

-- ---- whose cell a key is

uid_is : (text uid : List ℕ) → uid_from text ≡ Some uid → IsUid uid
uid_is text uid e = at (decode_of text) refl e
  where
    sized : (u : List ℕ) (b : Bool) → ((length u == 32) && b) ≡ true → length u ≡ 32
    sized u b h = let size : (length u == 32) ≡ true = left (length u == 32) b h in grind (arith, nat_tests)

    at : (r : Result (List ℕ) FromHexError) → decode_of text ≡ r → uid_given text r ≡ Some uid → IsUid uid
    at (Ok u) q e =
        let parts = only_some ((length u == 32) && pointwise nat_eq (encode_lower u) text) u uid e in
        subst IsUid parts.1 (record { size = sized u (pointwise nat_eq (encode_lower u) text) parts.0; are_bytes = decoded_are_bytes text u q })
    at (Err x) q e = cc

doc_is : (text : List ℕ) (doc : DocKey) → doc_from text ≡ Some doc → IsDocKey doc
doc_is text doc e =
    let parts = and_then_some doc_of (split_at_zero text) doc e in
    let named = if_some (is_type_name parts.0.0) _ doc parts.2 in
    let uid = map_some _ (uid_from parts.0.1) doc named.1 in
    subst IsDocKey uid.2 (record { dtype = named.0; uid = uid_is parts.0.1 uid.0 uid.1 })

reading_is : (k : Key) (r : EventReading) → event_reading k ≡ Some r → IsDocKey r.doc
reading_is k r e =
    let doc = and_then_some _ (doc_from k.family) r e in
    let cell = and_then_some (event_parts k doc.0) (split_at_zero k.qualifier) r doc.2 in
    let parts = only_some (is_utf8 cell.0.0 && is_utf8 cell.0.1) _ r cell.2 in
    subst (λ (x : EventReading). IsDocKey x.doc) parts.1 (doc_is k.family doc.0 doc.1)

said_is : (bytes : List ℕ) (r : CellReading) → code_says bytes ≡ Some r → IsDocKey r.place.key
said_is bytes r e =
    let key = and_then_some key_says (key_from bytes) r e in
    let said = and_then_some (with_cell_of key.0) (event_reading key.0) r key.2 in
    let text = if_some (is_utf8 said.0.shard) _ r said.2 in
    let seen = map_some _ (seen_by key.0.vis said.0) r text.1 in
    subst (λ (x : CellReading). IsDocKey x.place.key) seen.2 (reading_is key.0 said.0 said.1)

-- a cell that counts keeps its rules, and its key names a document
pub record Counts (r : CellReading) : Type 0 where
  pub cell : is_cell r.cell ≡ true
  pub doc : IsDocKey r.place.key

pub counted_is : (s : Slot) (r : CellReading) → slot_counts s ≡ Some r → Counts r
counted_is s r e =
    let code = if_some (s.table == 0) (code_counts s.key) r e in
    let said = and_then_some _ (code_says s.key) r code.1 in
    let parts = only_some (is_cell said.0.cell) said.0 r said.2 in
    subst Counts parts.1 (record { cell = parts.0; doc = said_is s.key said.0 said.1 })
