-- Names as lists of bytes, and sets of names as ascending lists.
use Rattle.std.specs.Prelude.{ℕ, Bool, List, filter}
use Rattle.std.specs.Ordering.{nat_cmp}
use Rattle.std.specs.Cmp.Lexicographic.{slice_cmp}
use Rattle.std.specs.List.{list_any}
use Rattle.std.specs.Str.{bytes_eq}
use Rattle.std.specs.declared.cmp.Ordering.{Ordering}
use Rattle.dw_base.specs.Ascending as set

-- names are ordered as lists of unsigned bytes, a beginning first
abbrev pub name_cmp : List ℕ → List ℕ → Ordering
name_cmp = slice_cmp nat_cmp

-- each name comes before all that follow it
abbrev pub IsAscending : List (List ℕ) → Type 0
IsAscending names = set.IsAscending name_cmp names

-- whether the name is among the names
abbrev pub has : List (List ℕ) → List ℕ → Bool
has names name = list_any (λ n. bytes_eq n name) names

-- ascending names with one more at its place
abbrev pub with_name : List ℕ → List (List ℕ) → List (List ℕ)
with_name name names = set.with_item name_cmp names name

-- the names that both have
abbrev pub common_names : List (List ℕ) → List (List ℕ) → List (List ℕ)
common_names names others = filter (λ n. has others n) names
