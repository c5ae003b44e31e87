-- Where the cells of a field and of a document stand among the keys of a shard.
use Rattle.std.specs.Prelude.{◌≡◌, ℕ, true, false, List, Some}
use Rattle.std.specs.Ordering.{nat_cmp, is_gt, on, then_cmp}
use Rattle.std.specs.Cmp.Lexicographic.{slice_cmp}
use Rattle.std.specs.declared.cmp.Ordering.{Ordering}
use Rattle.dw_key.specs.DocKeys.{doc_key_cmp}
use Rattle.dw_tablet.specs.declared.said.EventSaid.{EventSaid}
use Rattle.dw_tablet.specs.declared.said.Said.TheVariants.{OfEvent}
use Rattle.dw_tablet.specs.Said.{said_of}
use Rattle.dw_tablet.specs.Places.{below, shard_start, shard_end}
use Rattle.dw_tablet.specs.Positions.{field_start, field_end}
use Rattle.dw_tablet.specs.Documents.{document_start, document_end}
use Rattle.dw_tablet.specs.Values.{Value, value_at}

-- a key that lies in a shard
pub record IsOfShard (shard key : List ℕ) : Type 0 where
  pub from : below key (shard_start shard) ≡ false
  pub before : below key (shard_end shard) ≡ true

-- by the bytes of the value, and then by the document
abbrev pub value_cmp : Value → Value → Ordering
value_cmp = then_cmp (on (λ v. v.0) (slice_cmp nat_cmp)) (on (λ v. v.1) doc_key_cmp)

-- the cells of a field stand between its ends, whatever else a shard has, and ascend by value and document
pub record ValuesStand (shard field : List ℕ) (names : List (List ℕ)) (snapshot : ℕ) : Type 0 where
  pub from : (key : List ℕ) (v : Value) → IsOfShard shard key → value_at field names snapshot key ≡ Some v → below key (field_start shard field) ≡ false
  pub before : (key : List ℕ) (v : Value) → IsOfShard shard key → value_at field names snapshot key ≡ Some v → below key (field_end shard field) ≡ true
  pub ascend : (key later : List ℕ) (v w : Value) → IsOfShard shard key → IsOfShard shard later → value_at field names snapshot key ≡ Some v → value_at field names snapshot later ≡ Some w
      → below key later ≡ true → is_gt (value_cmp v w) ≡ false

abbrev pub ValuesStandInFields : Type 0
ValuesStandInFields = (shard field : List ℕ) (names : List (List ℕ)) (snapshot : ℕ) → ValuesStand shard field names snapshot

-- the cells of a document stand between its ends, whatever else a shard has
pub record DocumentStands (shard key : List ℕ) (said : EventSaid) : Type 0 where
  pub from : below key (document_start shard said.doc) ≡ false
  pub before : below key (document_end shard said.doc) ≡ true

abbrev pub CellsStandInDocuments : Type 0
CellsStandInDocuments = (shard key : List ℕ) (said : EventSaid) → IsOfShard shard key → said_of key ≡ OfEvent said → DocumentStands shard key said
