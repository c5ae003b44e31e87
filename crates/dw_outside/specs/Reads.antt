-- The reads that a keeper made.
use Rattle.std.specs.Prelude.{ℕ, List, [], ◌∷◌, ◌++◌, Option}
use Rattle.std.specs.Option.{option_map}
use Rattle.dw_outside.specs.declared.cell.Reading.{Reading}

-- a read, by what was asked for
abbrev pub reading_of : ℕ → List ℕ → List ℕ → ℕ → Reading
reading_of table from before limit = record { table = table; from = from; before = before; limit = limit }

-- more reads after those before, where they are told
abbrev pub with_reads : Option (List Reading) → List Reading → Option (List Reading)
with_reads reads more = option_map (λ rs. rs ++ more) reads

-- one more read
abbrev pub with_read : Option (List Reading) → Reading → Option (List Reading)
with_read reads read = with_reads reads (read ∷ [])

-- the read of one key alone: up to that key and a byte 0, which is the next key
abbrev pub key_read : ℕ → List ℕ → Reading
key_read table key = reading_of table key (key ++ 0 ∷ []) 1
