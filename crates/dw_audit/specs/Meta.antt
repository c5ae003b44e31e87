-- What the cells of table 3 say, from the last to the first.
use Rattle.std.specs.Prelude.{ℕ, List, [], ◌∷◌, Option, Some, None}
use Rattle.std.specs.FinMap as map
use Rattle.dw_dict.specs.declared.rule.FieldRule.{FieldRule}
use Rattle.dw_dict.specs.Dictionary.{Dictionary}
use Rattle.dw_outside.specs.Tables.{Tables}
use Rattle.dw_derive.specs.Meta.{field_slot, rule_bytes, grant_slot, names_bytes}
use Rattle.dw_derive.specs.MetaReaders.{commit_reading, field_reading, grant_reading}
use Rattle.dw_derive.specs.MetaTables.{cell_says}
use Rattle.dw_audit.specs.declared.meta.Meta.{Meta}

-- the rules of fields, the number of the last batch, or 0, and the cells of fields and of grants
pub record MetaSum : Type 0 where
  pub dict : Dictionary
  pub last : ℕ
  pub cells : Tables

abbrev pub sum_of : Meta → MetaSum
sum_of m = record { dict = m.dict; last = m.last; cells = m.cells }

abbrev pub nothing_said : MetaSum
nothing_said = record { dict = map.empty; last = 0; cells = map.empty }

-- the cell of a field stands as it is, as each rule has one spelling
abbrev pub with_field : Option (List ℕ × FieldRule) → MetaSum → MetaSum
with_field None m = m
with_field (Some f) m = record { dict = map.insert m.dict f.0 f.1; last = m.last; cells = map.insert m.cells (field_slot f.0) (rule_bytes f.1) }

-- and that of a grant
abbrev pub with_grant : Option (List ℕ × List (List ℕ)) → MetaSum → MetaSum
with_grant None m = m
with_grant (Some g) m = record { dict = m.dict; last = m.last; cells = map.insert m.cells (grant_slot g.0) (names_bytes g.1) }

abbrev pub with_number : Option ℕ → MetaSum → MetaSum
with_number None m = m
with_number (Some n) m = record { dict = m.dict; last = n; cells = m.cells }

-- with what one cell more says, by its key and its content
abbrev pub with_cell : List ℕ × List ℕ → MetaSum → MetaSum
with_cell c m = with_field (cell_says field_reading c) (with_grant (cell_says grant_reading c) (with_number (cell_says commit_reading c) m))

abbrev pub all_said : List (List ℕ × List ℕ) → MetaSum → MetaSum
all_said [] m = m
all_said (c ∷ cs) m = with_cell c (all_said cs m)
