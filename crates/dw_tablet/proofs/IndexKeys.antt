-- How keys of the field index are spelled, and where they stand in their shard.
use Rattle.std.proofs.Common.{◌≡◌, ℕ, zero, suc, ◌<◌, List, [], ◌∷◌, ◌++◌, refl, sym, ap, subst, ◌∙◌, Bool, true, false, arith}
use Rattle.std.specs.Prelude.{◌&&◌, nat_eq, nat_le, Option, Some, None, if◌then◌else◌}
use Rattle.std.specs.Option.{option_map_or}
use Rattle.std.proofs.lemmas.Map.Lookups.{exact_bytes}
use Rattle.std.specs.Ordering.{nat_cmp, is_lt, ordering_then}
use Rattle.std.specs.declared.cmp.Ordering.{Ordering}
use Rattle.std.specs.declared.cmp.Ordering.TheVariants.{Less, Equal, Greater}
use Rattle.std.specs.Cmp.Lexicographic.{slice_cmp, pointwise, bytes_decides}
use Rattle.dw_key.specs.declared.key.Key.{Key}
use Rattle.dw_key.specs.KeyCode.{escaped, part_code}
use Rattle.dw_key.proofs.Escapes.{part_code-then, slice_cmp-parts}
use Rattle.dw_norm.proofs.Orders.{below as less_when, above as greater_when, ordering_then-assoc}
use Rattle.dw_vis.specs.Test.{is_vis}
use Rattle.dw_vis.specs.Sight.{sees}
use Rattle.dw_event.specs.Names.{lacks_zero}
use Rattle.dw_derive.specs.Entries.{zero_joined, doc_text, field_index}
use Rattle.dw_derive.specs.Decoded.{key_from}
use Rattle.dw_derive.specs.Readers.{EventReading, IndexReading, event_reading, index_reading}
use Rattle.dw_derive.specs.ReaderLaws.{IsDocKey}
use Rattle.dw_derive.proofs.Spelled.{key_spelled, index_spelled}
use Rattle.dw_tablet.specs.declared.said.Said.TheVariants.{Nothing}
use Rattle.dw_tablet.specs.Said.{event_said, index_said, visible_said, said_of}
use Rattle.dw_tablet.specs.Places.{below, shard_start, shard_end}
use Rattle.dw_tablet.specs.Positions.{field_start, value_start}
use Rattle.dw_tablet.specs.Values.{Value, value_if, value_at}
use Rattle.dw_tablet.proofs.Order.{clash}
use Rattle.dw_tablet.proofs.Joined.{joined_on, doc_escaped}

-- a key that says a value of the field, of whichever shard
pub record IndexKey (field key : List ℕ) (v : Value) : Type 0 where
  pub row : List ℕ
  pub rest : List ℕ
  pub is : key ≡ part_code row ++ (part_code (zero_joined field_index field) ++ (part_code (zero_joined v.0 (doc_text v.1)) ++ rest))
  pub value : lacks_zero v.0 ≡ true
  pub doc : IsDocKey v.1

none_some : {A : Type 0} (v : A) → None ≡ Some v → ⊥
none_some v e = cc

spelled : (field names_key : List ℕ) (k : Key) (r : IndexReading) (v : Value) → key_from names_key ≡ Some k → index_reading k ≡ Some r → r.field ≡ field → r.value ≡ v.0 → r.doc ≡ v.1 → IndexKey field names_key v
spelled field key k r v h read f value doc =
    let bytes = key_spelled key k h in
    let parts = index_spelled k r read in
    record {
      row = k.row;
      rest = bytes.0;
      is = bytes.1
          ∙ (λ i. part_code k.row ++ (part_code (parts.family i) ++ (part_code (parts.qualifier i) ++ bytes.0)))
          ∙ (λ i. part_code k.row ++ (part_code (zero_joined field_index (f i)) ++ (part_code (zero_joined (value i) (doc_text (doc i))) ++ bytes.0)));
      value = ap lacks_zero (sym value) ∙ parts.value;
      doc = subst IsDocKey doc parts.doc;
    }

index_key_if : (field : List ℕ) (names : List (List ℕ)) (snapshot : ℕ) (key : List ℕ) (k : Key) (v : Value) → key_from key ≡ Some k → (o : Option IndexReading) → index_reading k ≡ o
    → value_if field names snapshot (option_map_or (index_said k) o Nothing) ≡ Some v → IndexKey field key v
index_key_if field names snapshot key k v h None read e = absurd (none_some v e)
index_key_if field names snapshot key k v h (Some r) read e = at (pointwise nat_eq r.field field) refl (nat_le k.stamp snapshot && sees k.vis names) e
  where
    parts : {p q : Value} → Some p ≡ Some q → (p.0 ≡ q.0) × (p.1 ≡ q.1)
    parts g = (cc, cc)

    at : (b : Bool) → pointwise nat_eq r.field field ≡ b → (c : Bool) → (if b && c then Some (r.value, r.doc) else None) ≡ Some v → IndexKey field key v
    at true same true g = let p = parts g in spelled field key k r v h read ((bytes_decides r.field field).0 same) p.0 p.1
    at true same false g = absurd (none_some v g)
    at false same c g = absurd (none_some v g)

visible_key : (field : List ℕ) (names : List (List ℕ)) (snapshot : ℕ) (key : List ℕ) (k : Key) (v : Value) → key_from key ≡ Some k → (b : Bool) → (o : Option EventReading)
    → value_if field names snapshot (if b then option_map_or (event_said k) o (option_map_or (index_said k) (index_reading k) Nothing) else Nothing) ≡ Some v → IndexKey field key v
visible_key field names snapshot key k v h true None e = index_key_if field names snapshot key k v h (index_reading k) refl e
visible_key field names snapshot key k v h true (Some r) e = absurd (none_some v e)
visible_key field names snapshot key k v h false o e = absurd (none_some v e)

pub index_key : (field : List ℕ) (names : List (List ℕ)) (snapshot : ℕ) (key : List ℕ) (v : Value) → value_at field names snapshot key ≡ Some v → IndexKey field key v
unfolding said_of
index_key field names snapshot key v h = at (key_from key) refl h
  where
    at : (o : Option Key) → key_from key ≡ o → value_if field names snapshot (option_map_or visible_said o Nothing) ≡ Some v → IndexKey field key v
    at None read e = absurd (none_some v e)
    at (Some k) read e = visible_key field names snapshot key k v read (is_vis k.vis) (event_reading k) e

-- ---- the shard of a key

-- a part that ends, beside the first place past all that begins with another
pub ended_order : (p q x y : List ℕ) → slice_cmp nat_cmp (escaped p ++ 0 ∷ 0 ∷ x) (escaped q ++ 0 ∷ 1 ∷ y) ≡ ordering_then (slice_cmp nat_cmp p q) Less
ended_order [] [] x y = refl
ended_order [] (zero ∷ q) x y = refl
ended_order [] (suc b ∷ q) x y = rw (less_when 0 (suc b) (omega arith)) refl
ended_order (zero ∷ p) [] x y = refl
ended_order (suc a ∷ p) [] x y = rw (greater_when (suc a) 0 (omega arith)) refl
ended_order (zero ∷ p) (zero ∷ q) x y = ended_order p q x y
ended_order (zero ∷ p) (suc b ∷ q) x y = rw (less_when 0 (suc b) (omega arith)) refl
ended_order (suc a ∷ p) (zero ∷ q) x y = rw (greater_when (suc a) 0 (omega arith)) refl
ended_order (suc a ∷ p) (suc b ∷ q) x y =
    ap (ordering_then (nat_cmp (suc a) (suc b))) (ended_order p q x y)
    ∙ sym (ordering_then-assoc (nat_cmp (suc a) (suc b)) (slice_cmp nat_cmp p q) Less)

-- a key that lies in a shard has its row
pub row_is : (shard row x : List ℕ) → below (part_code row ++ x) (shard_start shard) ≡ false → below (part_code row ++ x) (shard_end shard) ≡ true → row ≡ shard
row_is shard row x h k =
    let low : is_lt (ordering_then (slice_cmp nat_cmp row shard) (slice_cmp nat_cmp x [])) ≡ false =
    ap is_lt (sym (slice_cmp-parts row shard x [])) ∙ ap (λ p. below p (shard_start shard)) (sym (part_code-then row x)) ∙ h in
    let high : is_lt (ordering_then (slice_cmp nat_cmp row shard) Less) ≡ true =
    ap is_lt (sym (ended_order row shard x [])) ∙ ap (λ p. below p (shard_end shard)) (sym (part_code-then row x)) ∙ k in
    at (slice_cmp nat_cmp row shard) refl low high
  where
    at : (o : Ordering) → slice_cmp nat_cmp row shard ≡ o → is_lt (ordering_then o (slice_cmp nat_cmp x [])) ≡ false → is_lt (ordering_then o Less) ≡ true → row ≡ shard
    at Less e f g = absurd (clash refl f)
    at Equal e f g = exact_bytes row shard e
    at Greater e f g = absurd (clash g refl)

-- ---- places of a value

pub value_then : (shard field value x : List ℕ) → value_start shard field value ++ x ≡ field_start shard field ++ (escaped value ++ (0 ∷ 255 ∷ x))
value_then shard field value x =
    joined_on (field_start shard field) (escaped value ++ 0 ∷ 255 ∷ []) x ∙ ap (λ l. field_start shard field ++ l) (joined_on (escaped value) (0 ∷ 255 ∷ []) x)

pub field_then : (shard field x : List ℕ) → field_start shard field ++ x ≡ part_code shard ++ (part_code (zero_joined field_index field) ++ x)
field_then shard field x =
    let row = part_code shard in
    let family = escaped (zero_joined field_index field) in
    joined_on (row ++ (family ++ 0 ∷ [])) (0 ∷ []) x
    ∙ joined_on row (family ++ 0 ∷ []) (0 ∷ x)
    ∙ ap (λ l. row ++ l) (joined_on family (0 ∷ []) (0 ∷ x) ∙ sym (part_code-then (zero_joined field_index field) x))

-- a key of a shard that says a value of the field, by the value and the document
pub record ValueKey (shard field key : List ℕ) (v : Value) : Type 0 where
  pub rest : List ℕ
  pub is : key ≡ field_start shard field ++ (escaped v.0 ++ (0 ∷ 255 ∷ (escaped (doc_text v.1) ++ (0 ∷ 0 ∷ rest))))
  pub value : lacks_zero v.0 ≡ true
  pub doc : IsDocKey v.1

pub value_key : (shard field key : List ℕ) (v : Value) → IndexKey field key v → below key (shard_start shard) ≡ false → below key (shard_end shard) ≡ true → ValueKey shard field key v
value_key shard field key v k low high =
    let more = part_code (zero_joined field_index field) ++ (part_code (zero_joined v.0 (doc_text v.1)) ++ k.rest) in
    let row : k.row ≡ shard = row_is shard k.row more (ap (λ p. below p (shard_start shard)) (sym k.is) ∙ low) (ap (λ p. below p (shard_end shard)) (sym k.is) ∙ high) in
    record {
      rest = k.rest;
      is = k.is
          ∙ ap (λ r. part_code r ++ more) row
          ∙ sym (field_then shard field (part_code (zero_joined v.0 (doc_text v.1)) ++ k.rest))
          ∙ ap (λ l. field_start shard field ++ l) (part_code-then (zero_joined v.0 (doc_text v.1)) k.rest ∙ doc_escaped v.0 (doc_text v.1) (0 ∷ 0 ∷ k.rest));
      value = k.value;
      doc = k.doc;
    }
