-- What holds of each query that a text spells.
use Rattle.std.specs.Prelude.{ℕ, Bool, true, false, ◌&&◌, List, [], ◌∷◌, length, nat_lt, bytes_eq}
use Rattle.dw_jexl.specs.declared.query.Query.{Query}
use Rattle.dw_jexl.specs.declared.query.Query.TheOpen.{Query-F, Cmp, Pattern, Bounded, Not, And, Or}
use Rattle.dw_jexl.specs.declared.query.Query.TheFolds.{fold-Query}
use Rattle.dw_jexl.specs.Grammar.{folded, names_field}

-- the text of a field, in upper case
unfoldable pub is_upper_field : List ℕ → Bool
is_upper_field w = names_field w && bytes_eq (folded w) w

abbrev pub are_all : List Bool → Bool
are_all [] = true
are_all (b ∷ bs) = b && are_all bs

-- at least two
abbrev pub are_several : List Bool → Bool
are_several [] = false
are_several (b ∷ []) = false
are_several (b ∷ c ∷ bs) = true

abbrev pub well_made_step : Query-F Bool → Bool
well_made_step (Cmp field op literal) = is_upper_field field
well_made_step (Pattern field negated lead trail text) = is_upper_field field && nat_lt 0 (length text)
well_made_step (Bounded field low low_open high high_open) = is_upper_field field
well_made_step (Not child) = child
well_made_step (And children) = are_several children && are_all children
well_made_step (Or children) = are_several children && are_all children

-- Each field stands in upper case, each pattern has text, and each And and Or has at least two children.
abbrev pub is_well_made : Query → Bool
is_well_made = fold-Query Bool well_made_step
