-- A field that got a wider rule.
use Rattle.std.specs.Prelude.{◌≡◌, ℕ, ◌&&◌, ◌||◌, not, Bool, List, [], Option, Some, IsTrue, if◌then◌else◌}
use Rattle.dw_base.specs.FieldNames.{is_folded_name}
use Rattle.dw_dict.specs.declared.rule.FieldRule.{FieldRule}
use Rattle.dw_outside.specs.declared.cell.Reading.{Reading}
use Rattle.dw_outside.specs.Tables.{Tables}
use Rattle.dw_outside.specs.Reads.{reading_of, with_read}
use Rattle.dw_derive.specs.World.{World}
use Rattle.dw_derive.specs.Tables.{tables}
use Rattle.dw_derive.specs.Lawful.{IsWorld}
use Rattle.dw_derive.specs.MetaTables.{with_rule}
use Rattle.dw_derive.specs.Indexing.{new_cells}

-- the rule adds cells to the indexes
abbrev pub adds_cells : FieldRule → FieldRule → Bool
adds_cells old rule = (rule.indexed && not old.indexed) || (rule.reversed && not old.reversed)

-- the reads with that of a rule: all of table 0 by one, or none where it adds no cells
abbrev pub with_rule_read : FieldRule → FieldRule → Option (List Reading) → Option (List Reading)
with_rule_read old rule reads = if adds_cells old rule then with_read reads (reading_of 0 [] [] 0) else reads

-- the tables are those of the world with the rule, which keeps the rules of a world where the field's name keeps its
-- limits, and the number counts the cells of the tables 0 to 2 that are new
pub record Reindexed (w : World) (field : List ℕ) (rule : FieldRule) (new : ℕ) (told : Option Tables) : Type 0 where
  pub count : new ≡ new_cells (tables w) (tables (with_rule w field rule))
  pub tables : told ≡ Some (tables (with_rule w field rule))
  pub world : IsTrue (is_folded_name field) → IsWorld (with_rule w field rule)
