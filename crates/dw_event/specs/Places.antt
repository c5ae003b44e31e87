-- Where an event is kept.
use Rattle.std.specs.Prelude.{ℕ, ◌%◌, List, ◌∷◌, ◌++◌, take, decimal}
use Rattle.std.specs.Ordering.{nat_cmp, on, then_cmp}
use Rattle.std.specs.Cmp.Lexicographic.{slice_cmp}
use Rattle.std.specs.declared.cmp.Ordering.{Ordering}
use Rattle.dw_key.specs.DocKeys.{doc_key_cmp}
use Rattle.dw_event.specs.declared.records.Record.{Record}
use Rattle.dw_event.specs.declared.records.Place.{Place}
use Rattle.dw_event.specs.Numbers.{big_endian}
use Rattle.dw_event.specs.Records.{canon}

-- the number of the shard of a uid within its day, from the first eight bytes
abbrev pub shard_number : List ℕ → ℕ
shard_number uid = big_endian (take 8 uid) % 16

-- the name of a shard: the date, `_` and that number in decimal, without padding
abbrev pub shard_name : List ℕ → List ℕ → List ℕ
shard_name date uid = date ++ 95 ∷ decimal (shard_number uid)

-- the place of a record: its shard, its type, and the digest of its canonical bytes as its uid
abbrev pub place_of : (List ℕ → List ℕ) → Record → Place
place_of digest r = record {
  shard = shard_name r.date (digest (canon r));
  key = record { dtype = r.dtype; uid = digest (canon r) };
}

-- the order of places: by the bytes of the shard, then of the type, then of the uid
abbrev pub place_cmp : Place → Place → Ordering
place_cmp = then_cmp (on (λ p. p.shard) (slice_cmp nat_cmp)) (on (λ p. p.key) doc_key_cmp)
