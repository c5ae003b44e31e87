-- Laws of tables: what a read of one key and of a beginning gives, and how batches are applied.
use Rattle.std.specs.Prelude.{◌≡◌, ℕ, suc, List, [], ◌∷◌, ◌++◌, nat_eq, Option, Some, None}
use Rattle.std.specs.List.{starts_with}
use Rattle.std.specs.Option.{option_or}
use Rattle.std.specs.FinMap as map
use Rattle.dw_outside.specs.declared.slot.Slot.{Slot}
use Rattle.dw_outside.specs.declared.cell.Put.{Put}
use Rattle.dw_outside.specs.Tables.{Tables, applied, is_in_span, over, span_of}

-- the cell of a key, where it has a content
abbrev pub cell_of : List ℕ → Option (List ℕ) → List (List ℕ × List ℕ)
cell_of key None = []
cell_of key (Some content) = (key, content) ∷ []

-- a span from a key to that key and a byte 0 has the cell of the key alone
abbrev pub OneKeyIsRead : Type 0
OneKeyIsRead = (m : Tables) (s : Slot) → span_of s.table s.key (s.key ++ 0 ∷ []) m ≡ cell_of s.key (map.get m s)

-- a span up to the same bytes with the last one higher has the keys that begin with these bytes
abbrev pub PrefixesAreSpans : Type 0
PrefixesAreSpans = (front : List ℕ) (b : ℕ) (key : List ℕ) → is_in_span (front ++ b ∷ []) (front ++ suc b ∷ []) key ≡ starts_with nat_eq key (front ++ b ∷ [])

-- puts to a batch are puts to what the batch leaves: so a batch may grow and be applied once
pub record BatchesAreTables : Type 0 where
  pub none : (m : Tables) → over map.empty m ≡ m
  pub more : (puts : List Put) (p m : Tables) → over (applied puts p) m ≡ applied puts (over p m)
  pub get : (p m : Tables) (s : Slot) → map.get (over p m) s ≡ option_or (map.get p s) (map.get m s)
