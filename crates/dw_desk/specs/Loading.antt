-- What a desk starts from: the rules, the grants and the last number that table 3 says.
use Rattle.std.specs.Prelude.{◌≡◌, ℕ, List, Option, Some, None, filter_map}
use Rattle.std.specs.FinMap as map
use Rattle.std.specs.declared.cmp.Ordering.{Ordering}
use Rattle.dw_derive.specs.MetaReaders.{commit_reading, field_reading, grant_reading}
use Rattle.dw_derive.specs.MetaTables.{cell_says, first_number}
use Rattle.dw_derive.specs.World.{World}
use Rattle.dw_desk.specs.Stands.{grants_of}
use Rattle.dw_desk.specs.declared.loading.Start.{Start}

-- the start has what these cells say, each by its key and its content; a cell that cannot be read says nothing
pub record IsSaid (cells : List (List ℕ × List ℕ)) (s : Start) : Type 0 where
  pub dict : s.dict ≡ map.from_entries (filter_map (cell_says field_reading) cells)
  pub grants : grants_of s.grants ≡ map.from_entries (filter_map (cell_says grant_reading) cells)
  pub last : s.last ≡ first_number (filter_map (cell_says commit_reading) cells)

-- the start has the rules, the grants and the last number of a world
pub record IsStart (w : World) (s : Start) : Type 0 where
  pub dict : s.dict ≡ w.dict
  pub grants : grants_of s.grants ≡ w.grants
  pub last : s.last ≡ w.last

-- the map with what is said, where something is
abbrev pub with_entry : {K V : Type 0} {R : K → K → Ordering} → Option (K × V) → map.FinMap R V → map.FinMap R V
with_entry None m = m
with_entry (Some e) m = map.insert m e.0 e.1
