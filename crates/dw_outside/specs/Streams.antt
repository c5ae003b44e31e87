-- Readers and writers of the host, with the count of their faults.
use Rattle.std.specs.Prelude.{ℕ, Bool, None}
use Rattle.dw_outside.specs.Links.{Meaning}

-- a reader, a writer or both, and how many faults it had
pub record Stream (X : Type 0) : Type 0 where
  pub inner : X
  pub faults : ℕ

-- one that is read and written, with a count for each side
pub record TwoWay (X : Type 0) : Type 0 where
  pub inner : X
  pub read_faults : ℕ
  pub write_faults : ℕ

-- it tells no bytes
abbrev pub stream_meaning : {X : Type 0} → TwoWay X → Meaning
stream_meaning l = record {
  reading = record { bytes = None; faults = l.read_faults };
  writing = record { bytes = None; faults = l.write_faults };
}

-- a listener, whether a link of it is out, and how many faults it had
pub record Listening (X : Type 0) : Type 0 where
  pub inner : X
  pub out : Bool
  pub faults : ℕ
