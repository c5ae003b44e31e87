-- The first difference of the cells of one table.
use Rattle.std.specs.Prelude.{◌≡◌, ◌≢◌, ℕ, ◌&&◌, nat_le, Bool, List, [], ◌∷◌, length, Option, Some, None, Result, Ok, Err, if◌then◌else◌}
use Rattle.std.specs.Ordering.{nat_cmp, match_ordering}
use Rattle.std.specs.Cmp.Lexicographic.{slice_cmp}
use Rattle.std.specs.Str.{bytes_eq}
use Rattle.std.specs.FinMap as map
use Rattle.std.specs.declared.cmp.Ordering.TheVariants.{Less}
use Rattle.dw_outside.specs.declared.slot.Slot.{Slot}
use Rattle.dw_outside.specs.Tables.{Tables}
use Rattle.dw_derive.specs.declared.uid_list.Form.{Form}
use Rattle.dw_derive.specs.declared.uid_list.Form.TheVariants.{One}
use Rattle.dw_derive.specs.declared.uid_list.UidList.{UidList}
use Rattle.dw_derive.specs.declared.uid_list.UidList.TheVariants.{Kept, Counted}
use Rattle.dw_derive.specs.declared.list_bytes.BadList.{BadList}
use Rattle.dw_derive.specs.UidLists.{cap, list_bytes, list_read}
use Rattle.dw_audit.specs.declared.comparing.Difference.{Difference}
use Rattle.dw_audit.specs.WorldOf.{begins_with_one}

-- a list of the newer form as the older form has it
abbrev pub older_list : UidList → UidList
older_list (Kept uids) = if nat_le (length uids) (cap One) then Kept uids else Counted (length uids)
older_list (Counted n) = Counted n

abbrev pub older_read : List ℕ → Result (Form × UidList) BadList → List ℕ
older_read bytes (Ok read) = list_bytes One (older_list read.1)
older_read bytes (Err e) = bytes

-- the bytes of a list in the older form
abbrev pub older_bytes : List ℕ → List ℕ
older_bytes bytes = older_read bytes (list_read bytes)

-- what is wanted beside what is found: where lists stand, one that is found in the older form is wanted in it
abbrev pub formed : Bool → Option (List ℕ) → List ℕ → List ℕ
formed lists found wanted = if lists && begins_with_one found then older_bytes wanted else wanted

abbrev pub wanted_beside : Bool → Option (List ℕ) → Option (List ℕ) → Option (List ℕ)
wanted_beside lists found None = None
wanted_beside lists found (Some wanted) = Some (formed lists found wanted)

-- ---- two lists of cells, each ascending by key

abbrev pub Cells : Type 0
Cells = List (List ℕ × List ℕ)

abbrev pub only_found : List ℕ × List ℕ → Option Difference
only_found e = Some (record { key = e.0; found = Some e.1; wanted = None })

abbrev pub only_wanted : List ℕ × List ℕ → Option Difference
only_wanted f = Some (record { key = f.0; found = None; wanted = Some f.1 })

-- a cell that is found beside the content that is wanted, or what follows where they are alike
abbrev pub changed_or : Option Difference → List ℕ × List ℕ → List ℕ → Option Difference
changed_or follows e wanted = if bytes_eq e.1 wanted then follows else Some (record { key = e.0; found = Some e.1; wanted = Some wanted })

-- two cells, each the first of its list
abbrev pub differ_or : Bool → Option Difference → List ℕ × List ℕ → List ℕ × List ℕ → Option Difference
differ_or lists follows e f =
    match_ordering (slice_cmp nat_cmp e.0 f.0) (only_found e) (changed_or follows e (formed lists (Some e.1) f.1)) (only_wanted f)

-- the first key at which cells that are found differ from those that are wanted, and what each have there
abbrev pub first_difference : Bool → Cells → Cells → Option Difference
first_difference lists [] [] = None
first_difference lists [] (f ∷ fs) = only_wanted f
first_difference lists (e ∷ es) [] = only_found e
first_difference lists (e ∷ es) (f ∷ fs) = differ_or lists (first_difference lists es fs) e f

-- ---- one table

-- a slot has what is wanted there beside it
abbrev pub IsAlike : Bool → Tables → Tables → Slot → Type 0
IsAlike lists t u s = map.get t s ≡ wanted_beside lists (map.get t s) (map.get u s)

-- the first key of a table at which tables are not as they are wanted
pub record IsFirstIn (lists : Bool) (table : ℕ) (t u : Tables) (d : Difference) : Type 0 where
  pub found : map.get t (record { table = table; key = d.key }) ≡ d.found
  pub wanted : wanted_beside lists d.found (map.get u (record { table = table; key = d.key })) ≡ d.wanted
  pub differ : d.found ≢ d.wanted
  pub before : (key : List ℕ) → slice_cmp nat_cmp key d.key ≡ Less → IsAlike lists t u (record { table = table; key = key })

-- what comparing one table says
abbrev pub IsCompared : Bool → ℕ → Tables → Tables → Option Difference → Type 0
IsCompared lists table t u None = (key : List ℕ) → IsAlike lists t u (record { table = table; key = key })
IsCompared lists table t u (Some d) = IsFirstIn lists table t u d
