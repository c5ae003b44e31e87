-- Where the cells of a field and of a document stand.
use Rattle.std.proofs.Common.{◌≡◌, ℕ, List, [], ◌∷◌, ◌++◌, refl, sym, ap, ◌∙◌, Bool, true, false}
use Rattle.std.specs.Prelude.{Option, Some, None, if◌then◌else◌}
use Rattle.std.specs.Option.{option_map_or}
use Rattle.std.specs.Ordering.{nat_cmp, is_lt, is_gt, ordering_then}
use Rattle.std.specs.declared.cmp.Ordering.{Ordering}
use Rattle.std.specs.declared.cmp.Ordering.TheVariants.{Less, Equal, Greater}
use Rattle.std.specs.Cmp.Lexicographic.{slice_cmp}
use Rattle.dw_key.specs.declared.key.Key.{Key}
use Rattle.dw_key.specs.KeyCode.{escaped, part_code}
use Rattle.dw_key.proofs.Escapes.{part_code-then, slice_cmp-parts}
use Rattle.dw_vis.specs.Test.{is_vis}
use Rattle.dw_derive.specs.Entries.{zero_joined, doc_text}
use Rattle.dw_derive.specs.Decoded.{key_from}
use Rattle.dw_derive.specs.Readers.{EventReading, IndexReading, event_reading, index_reading}
use Rattle.dw_derive.proofs.Spelled.{key_spelled, event_spelled}
use Rattle.dw_tablet.specs.declared.said.EventSaid.{EventSaid}
use Rattle.dw_tablet.specs.declared.said.Said.TheVariants.{OfEvent, Nothing}
use Rattle.dw_tablet.specs.Said.{event_said, index_said, visible_said, said_of}
use Rattle.dw_tablet.specs.Places.{below, shard_start, shard_end}
use Rattle.dw_tablet.specs.Positions.{field_start, field_end, document_front}
use Rattle.dw_tablet.specs.Documents.{document_start, document_end}
use Rattle.dw_tablet.specs.Orders.{IsOfShard, value_cmp, ValuesStand, ValuesStandInFields, CellsStandInDocuments}
use Rattle.dw_tablet.specs.Values.{Value, value_at}
use Rattle.dw_tablet.proofs.Shards.{same_front}
use Rattle.dw_tablet.proofs.Joined.{joined_on, doc_escaped}
use Rattle.dw_tablet.proofs.Ranges.{under, in_field}
use Rattle.dw_tablet.proofs.DocOrder.{docs_order, zero_order}
use Rattle.dw_tablet.proofs.EqualPlaces.{not_below_front}
use Rattle.dw_tablet.proofs.IndexKeys.{index_key, ValueKey, value_key, row_is}

-- ---- the cells of a field

not_greater : (o p : Ordering) → is_lt (ordering_then o p) ≡ true → is_gt o ≡ false
not_greater Less p h = refl
not_greater Equal p h = refl
not_greater Greater p h = cc

module _ (shard field : List ℕ) (names : List (List ℕ)) (snapshot : ℕ) where
  key_of : (key : List ℕ) (v : Value) → IsOfShard shard key → value_at field names snapshot key ≡ Some v → ValueKey shard field key v
  key_of key v of said = value_key shard field key v (index_key field names snapshot key v said) of.from of.before

  -- what stands behind the front of the field
  behind : (key : List ℕ) (v : Value) (k : ValueKey shard field key v) → key ≡ field_start shard field ++ (escaped (zero_joined v.0 (doc_text v.1)) ++ 0 ∷ 0 ∷ k.rest)
  behind key v k = k.is ∙ sym (ap (λ l. field_start shard field ++ l) (doc_escaped v.0 (doc_text v.1) (0 ∷ 0 ∷ k.rest)))

  in_order : (key later : List ℕ) (v w : Value) → ValueKey shard field key v → ValueKey shard field later w → below key later ≡ true → is_gt (value_cmp v w) ≡ false
  in_order key later v w k l h =
      let front = field_start shard field in
      let there : is_lt (ordering_then (slice_cmp nat_cmp (zero_joined v.0 (doc_text v.1)) (zero_joined w.0 (doc_text w.1))) (slice_cmp nat_cmp k.rest l.rest)) ≡ true =
      ap is_lt (sym (same_front front (escaped (zero_joined v.0 (doc_text v.1)) ++ 0 ∷ 0 ∷ k.rest) (escaped (zero_joined w.0 (doc_text w.1)) ++ 0 ∷ 0 ∷ l.rest)
      ∙ slice_cmp-parts (zero_joined v.0 (doc_text v.1)) (zero_joined w.0 (doc_text w.1)) k.rest l.rest))
      ∙ (λ i. below (sym (behind key v k) i) (sym (behind later w l) i))
      ∙ h in
      ap is_gt (ap (ordering_then (slice_cmp nat_cmp v.0 w.0)) (sym (docs_order v.1 w.1 k.doc l.doc)) ∙ sym (zero_order v.0 w.0 (doc_text v.1) (doc_text w.1) k.value l.value))
      ∙ not_greater (slice_cmp nat_cmp (zero_joined v.0 (doc_text v.1)) (zero_joined w.0 (doc_text w.1))) (slice_cmp nat_cmp k.rest l.rest) there

  values_stand : ValuesStand shard field names snapshot
  values_stand = record {
    from = λ key v of said. let k = key_of key v of said in
        ap (λ p. below p (field_start shard field)) (behind key v k) ∙ not_below_front (field_start shard field) (escaped (zero_joined v.0 (doc_text v.1)) ++ 0 ∷ 0 ∷ k.rest);
    before = λ key v of said. let k = key_of key v of said in
        ap (λ p. below p (field_end shard field)) (behind key v k) ∙ in_field shard field (escaped (zero_joined v.0 (doc_text v.1)) ++ 0 ∷ 0 ∷ k.rest);
    ascend = λ key later v w of other said told h. in_order key later v w (key_of key v of said) (key_of later w other told) h;
  }

pub values_stand_in_fields : ValuesStandInFields
values_stand_in_fields shard field names snapshot = values_stand shard field names snapshot

-- ---- the cells of a document

-- a key of an event's cell, of whichever shard
record EventKey (key : List ℕ) (said : EventSaid) : Type 0 where
  row : List ℕ
  rest : List ℕ
  is : key ≡ part_code row ++ (part_code (doc_text said.doc) ++ rest)

event_key_of : (key : List ℕ) (k : Key) (r : EventReading) (said : EventSaid) → key_from key ≡ Some k → event_reading k ≡ Some r → event_said k r ≡ OfEvent said → EventKey key said
event_key_of key k r said h read e =
    let bytes = key_spelled key k h in
    let parts = event_spelled k r read in
    record {
      row = k.row;
      rest = part_code k.qualifier ++ bytes.0;
      is = bytes.1 ∙ ap (λ f. part_code k.row ++ (part_code f ++ (part_code k.qualifier ++ bytes.0))) (parts.family ∙ ap doc_text (docs e));
    }
  where
    docs : event_said k r ≡ OfEvent said → r.doc ≡ said.doc
    docs g = cc

event_key : (key : List ℕ) (said : EventSaid) → said_of key ≡ OfEvent said → EventKey key said
unfolding said_of
event_key key said h = at (key_from key) refl h
  where
    no_index : (r : Option IndexReading) (k : Key) → option_map_or (index_said k) r Nothing ≡ OfEvent said → ⊥
    no_index None k e = cc
    no_index (Some r) k e = cc

    nothing : Nothing ≡ OfEvent said → ⊥
    nothing e = cc

    by : (k : Key) → key_from key ≡ Some k → (b : Bool) → (o : Option EventReading) → event_reading k ≡ o → (if b then option_map_or (event_said k) o (option_map_or (index_said k) (index_reading k) Nothing) else Nothing) ≡ OfEvent said → EventKey key said
    by k read true (Some r) e g = event_key_of key k r said read e g
    by k read true None e g = absurd (no_index (index_reading k) k g)
    by k read false o e g = absurd (nothing g)

    at : (o : Option Key) → key_from key ≡ o → option_map_or visible_said o Nothing ≡ OfEvent said → EventKey key said
    at None read e = absurd (nothing e)
    at (Some k) read e = by k read (is_vis k.vis) (event_reading k) refl e

pub cells_stand_in_documents : CellsStandInDocuments
cells_stand_in_documents shard key said of h =
    let k = event_key key said h in
    let tail = part_code (doc_text said.doc) ++ k.rest in
    let row : k.row ≡ shard = row_is shard k.row tail (ap (λ p. below p (shard_start shard)) (sym k.is) ∙ of.from) (ap (λ p. below p (shard_end shard)) (sym k.is) ∙ of.before) in
    let front = document_front shard (doc_text said.doc) in
    let is : key ≡ front ++ (0 ∷ k.rest) =
    k.is
    ∙ ap (λ r. part_code r ++ tail) row
    ∙ ap (λ l. part_code shard ++ l) (part_code-then (doc_text said.doc) k.rest ∙ sym (joined_on (escaped (doc_text said.doc)) (0 ∷ []) (0 ∷ k.rest)))
    ∙ sym (joined_on (part_code shard) (escaped (doc_text said.doc) ++ 0 ∷ []) (0 ∷ k.rest)) in
    record {
      from = ap (λ p. below p (document_start shard said.doc)) (is ∙ sym (joined_on front (0 ∷ []) k.rest)) ∙ not_below_front (document_start shard said.doc) k.rest;
      before = ap (λ p. below p (document_end shard said.doc)) is ∙ under front k.rest;
    }
