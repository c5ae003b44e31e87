-- What table 3 has, and what one cell more of it makes of the tables.
use Rattle.std.specs.Prelude.{◌≡◌, ℕ, List, [], ◌∷◌, IsTrue, filter_map, Option}
use Rattle.std.specs.Option.{option_and_then}
use Rattle.std.specs.FinMap as map
use Rattle.dw_base.specs.Callers.{is_caller}
use Rattle.dw_base.specs.FieldNames.{is_folded_name}
use Rattle.dw_key.specs.declared.key.Key.{Key}
use Rattle.dw_dict.specs.declared.rule.FieldRule.{FieldRule}
use Rattle.dw_dict.specs.Dictionary.{Dictionary}
use Rattle.dw_outside.specs.Tables.{Tables, span_of}
use Rattle.dw_derive.specs.Decoded.{key_from}
use Rattle.dw_derive.specs.Meta.{field_slot, rule_bytes, grant_slot, names_bytes}
use Rattle.dw_derive.specs.MetaReaders.{commit_reading, field_reading, grant_reading, AreGranted}
use Rattle.dw_derive.specs.World.{World, Grants}
use Rattle.dw_derive.specs.Tables.{tables}
use Rattle.dw_derive.specs.Lawful.{IsWorld}

-- what a cell says by its key and its content
abbrev pub cell_says : {A : Type 0} → (Key → List ℕ → Option A) → List ℕ × List ℕ → Option A
cell_says reading cell = option_and_then (λ k. reading k cell.1) (key_from cell.0)

-- the cells of table 3
abbrev pub meta_of : Tables → List (List ℕ × List ℕ)
meta_of t = span_of 3 [] [] t

-- the first of some numbers, or 0
abbrev pub first_number : List ℕ → ℕ
first_number [] = 0
first_number (n ∷ ns) = n

-- the number of the last batch
abbrev pub last_of : Tables → ℕ
last_of t = first_number (filter_map (cell_says commit_reading) (meta_of t))

-- the rules of fields
abbrev pub dict_of : Tables → Dictionary
dict_of t = map.from_entries (filter_map (cell_says field_reading) (meta_of t))

-- what callers were granted
abbrev pub grants_of : Tables → Grants
grants_of t = map.from_entries (filter_map (cell_says grant_reading) (meta_of t))

-- what the tables of a world have in table 3
pub record MetaSaid (w : World) : Type 0 where
  pub last : last_of (tables w) ≡ w.last
  pub dict : dict_of (tables w) ≡ w.dict
  pub grants : grants_of (tables w) ≡ w.grants

-- the number, the rules and the grants of a world are read from its tables
abbrev pub MetaIsRead : Type 0
MetaIsRead = (w : World) → IsWorld w → MetaSaid w

-- ---- one cell more

-- the world with the rule of a field
abbrev pub with_rule : World → List ℕ → FieldRule → World
with_rule w field rule = record { events = w.events; dict = map.insert w.dict field rule; grants = w.grants; last = w.last; old = w.old }

-- and with the grant of a caller
abbrev pub with_grant : World → List ℕ → List (List ℕ) → World
with_grant w caller names = record { events = w.events; dict = w.dict; grants = map.insert w.grants caller names; last = w.last; old = w.old }

-- where there is no event the rule of a field is one cell
abbrev pub RulesAreCells : Type 0
RulesAreCells = (w : World) (field : List ℕ) (rule : FieldRule) → w.events ≡ [] →
    map.insert (tables w) (field_slot field) (rule_bytes rule) ≡ tables (with_rule w field rule)

-- a grant is one cell
abbrev pub GrantsAreCells : Type 0
GrantsAreCells = (w : World) (caller : List ℕ) (names : List (List ℕ)) →
    map.insert (tables w) (grant_slot caller) (names_bytes names) ≡ tables (with_grant w caller names)

-- such a world keeps the rules of a world, where the field and the grant keep theirs
abbrev pub RulesKeepWorlds : Type 0
RulesKeepWorlds = (w : World) (field : List ℕ) (rule : FieldRule) → w.events ≡ [] → IsWorld w → IsTrue (is_folded_name field) → IsWorld (with_rule w field rule)

abbrev pub GrantsKeepWorlds : Type 0
GrantsKeepWorlds = (w : World) (caller : List ℕ) (names : List (List ℕ)) → IsWorld w → IsTrue (is_caller caller) → AreGranted names → IsWorld (with_grant w caller names)
