-- The cells of table 3: the number of the last batch, the rules of fields, and grants.
use Rattle.std.specs.Prelude.{ℕ, Bool, true, false, List, [], ◌∷◌, ◌++◌, length, codes}
use Rattle.std.specs.List.{flat_map}
use Rattle.std.specs.Int.{w16, w64, to_be_bytes}
use Rattle.dw_key.specs.declared.key.Key.{Key}
use Rattle.dw_key.specs.KeyCode.{code}
use Rattle.dw_dict.specs.Rules.{kind_number}
use Rattle.dw_dict.specs.declared.rule.FieldRule.{FieldRule}
use Rattle.dw_outside.specs.declared.slot.Slot.{Slot}
use Rattle.dw_outside.specs.declared.cell.Put.{Put}

-- a cell's key of this table: a row and a family, and nothing else
abbrev pub meta_key : List ℕ → List ℕ → Key
meta_key row family = record { row = row; family = family; qualifier = []; vis = []; stamp = 0 }

abbrev pub meta_slot : List ℕ → List ℕ → Slot
meta_slot row family = record { table = 3; key = code (meta_key row family) }

-- ---- the number of the last batch

abbrev pub commit_row : List ℕ
commit_row = codes "commit"

abbrev pub commit_slot : Slot
commit_slot = meta_slot commit_row []

-- its 8 bytes, the highest first
abbrev pub commit_bytes : ℕ → List ℕ
commit_bytes last = to_be_bytes w64 last

-- ---- the rule of a field

abbrev pub field_row : List ℕ
field_row = codes "field"

abbrev pub field_slot : List ℕ → Slot
field_slot field = meta_slot field_row field

abbrev pub bit : Bool → ℕ
bit true = 1
bit false = 0

-- three bytes: the number of the kind, and whether the field is indexed and reversed
abbrev pub rule_bytes : FieldRule → List ℕ
rule_bytes rule = kind_number rule.kind ∷ bit rule.indexed ∷ bit rule.reversed ∷ []

-- ---- what a caller was granted

abbrev pub grant_row : List ℕ
grant_row = codes "grant"

abbrev pub grant_slot : List ℕ → Slot
grant_slot caller = meta_slot grant_row caller

-- a name behind its length in 2 bytes, the highest first
abbrev pub name_bytes : List ℕ → List ℕ
name_bytes name = to_be_bytes w16 (length name) ++ name

-- the names one after another
abbrev pub names_bytes : List (List ℕ) → List ℕ
names_bytes names = flat_map name_bytes names

-- ---- as puts

abbrev pub put_at : Slot → List ℕ → Put
put_at s content = record { table = s.table; key = s.key; content = content }
