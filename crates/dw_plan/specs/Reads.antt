-- Which reads a plan makes.
use Rattle.std.specs.Prelude.{◌≡◌, ◌==◌, ◌||◌, Bool, true, List, ◌++◌, length, drop, Option, Some, None}
use Rattle.std.specs.List.{list_all}
use Rattle.dw_outside.specs.declared.cell.Reading.{Reading}

-- the read is of table 1 or 2
abbrev pub is_of_index : Reading → Bool
is_of_index r = (r.table == 1) || (r.table == 2)

-- the reads made since
abbrev pub made : List Reading → List Reading → List Reading
made before now = drop (length before) now

-- where reads are told, some that pass stand behind those before
abbrev pub Adds : (Reading → Bool) → Option (List Reading) → Option (List Reading) → Type 0
Adds test None now = now ≡ None
Adds test (Some before) None = ⊥
Adds test (Some before) (Some now) = (now ≡ before ++ made before now) × (list_all test (made before now) ≡ true)
