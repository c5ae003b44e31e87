-- Which reads a page makes.
use Rattle.std.specs.Prelude.{◌≡◌, ◌≤◌, ◌++◌, ◌∷◌, ◌+◌, ℕ, List, Option, map, length, take, filter}
use Rattle.std.specs.Ordering.{nat_cmp, is_lt}
use Rattle.std.specs.Cmp.Lexicographic.{slice_cmp}
use Rattle.dw_event.specs.declared.reports.Shown.{Shown}
use Rattle.dw_outside.specs.declared.cell.Reading.{Reading}
use Rattle.dw_outside.specs.Reads.{reading_of, with_reads}
use Rattle.dw_plan.specs.Reads.{Adds, is_of_index}
use Rattle.dw_tablet.specs.Places.{shard_start, shard_end}
use Rattle.dw_scan.specs.declared.ask.Resume.{Resume}

-- the read of all places of a shard in table 0
abbrev pub shard_read : List ℕ → Reading
shard_read shard = reading_of 0 (shard_start shard) (shard_end shard) 0

-- the first of the shards that waited were read, in order and each once, and the rest wait
pub record Opens (before now : Option (List Reading)) (waiting rest : List Resume) : Type 0 where
  pub first : List Resume
  pub parts : waiting ≡ first ++ rest
  pub reads : now ≡ with_reads before (map (λ r. shard_read r.shard) first)

-- how many of some shards stand before one
abbrev pub count_before : List ℕ → List (List ℕ) → ℕ
count_before shard shards = length (filter (λ k. is_lt (slice_cmp nat_cmp k shard)) shards)

-- After reads of the indexes alone, the first so many of the shards that are walked were read, in order and each once. Where an
-- event stands after the page, they are no more than those before its shard, and the workers.
pub record ReadsPage (before now : Option (List Reading)) (shards : List (List ℕ)) (workers : ℕ) (past : List Shown) : Type 0 where
  pub planned : Option (List Reading)
  pub index : Adds is_of_index before planned
  pub count : ℕ
  pub within : count ≤ length shards
  pub reads : now ≡ with_reads planned (map shard_read (take count shards))
  pub near : (next : Shown) (later : List Shown) → past ≡ next ∷ later → count ≤ count_before next.shard shards + workers
