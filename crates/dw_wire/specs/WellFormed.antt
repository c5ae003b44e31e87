-- When a request is well formed: each of its parts keeps its rule and its limits.
use Rattle.std.specs.Prelude.{ℕ, Bool, true, ◌&&◌, nat_le, IsTrue, IfSome, List, length}
use Rattle.std.specs.List.{list_all}
use Rattle.std.specs.Ordering.{nat_cmp, is_le}
use Rattle.std.specs.Cmp.Lexicographic.{slice_cmp}
use Rattle.dw_base.specs.Days.{names_day}
use Rattle.dw_base.specs.FieldNames.{is_folded_name}
use Rattle.dw_event.specs.declared.days.Days.{Days}
use Rattle.dw_groups.specs.Batches.{IsBatch}
use Rattle.dw_vis.specs.Names.{IsAscending}
use Rattle.dw_event.specs.declared.types.Types.{Types}
use Rattle.dw_event.specs.declared.types.Types.TheVariants.{All, Only}
use Rattle.dw_jexl.specs.declared.query.Query.{Query}
use Rattle.dw_jexl.specs.Spelling.{Spells}
use Rattle.dw_key.specs.TypeName.{is_type_name}
use Rattle.dw_wire.specs.declared.request.Request.{Request}
use Rattle.dw_wire.specs.declared.request.Request.TheVariants.{Define, Grant, Ingest, Create, Page, Close}
use Rattle.dw_base.specs.Callers.{is_auth, is_caller}
use Rattle.dw_base.specs.declared.limits.TheConstants.{MAX_NAMES}
use Rattle.dw_wire.specs.declared.limits.TheConstants.{MAX_TYPES, MAX_SIZE, MAX_NUMBER, MAX_PAGE}

-- at most 256 names of authorisations, each by its rule
abbrev pub are_auths : List (List ℕ) → Bool
are_auths names = nat_le (length names) MAX_NAMES && list_all is_auth names

-- such names, as a set in order
pub record IsAuthSet (names : List (List ℕ)) : Type 0 where
  pub rules : IsTrue (are_auths names)
  pub ordered : IsAscending names

-- some text spells the query
abbrev pub IsSpelt : Query → Type 0
IsSpelt query = (text : List ℕ) × Spells text query

-- two days, the first not after the last
abbrev pub are_days : Days → Bool
are_days days = names_day days.first && names_day days.last && is_le (slice_cmp nat_cmp days.first days.last)

-- a number from 1 to the most
abbrev pub is_counted_to : ℕ → ℕ → Bool
is_counted_to most n = nat_le 1 n && nat_le n most

-- all types, or 1 to 64 of them
abbrev pub are_types : Types → Bool
are_types All = true
are_types (Only types) = is_counted_to MAX_TYPES (length types) && list_all is_type_name types

-- the number of a query: it fits in 63 bits
abbrev pub is_query_number : ℕ → Bool
is_query_number number = is_counted_to MAX_NUMBER number

-- a request whose parts keep their rules
abbrev pub IsWellFormed : Request → Type 0
IsWellFormed (Define field rule) = IsTrue (is_folded_name field)
IsWellFormed (Grant caller auths) = IsTrue (is_caller caller) × IsAuthSet auths
IsWellFormed (Ingest recs) = IsBatch recs
IsWellFormed (Create caller query days types size asked) =
    IsTrue (is_caller caller && are_days days && are_types types && is_counted_to MAX_SIZE size) × IsSpelt query × IfSome asked IsAuthSet
IsWellFormed (Page caller number page) = IsTrue (is_caller caller && is_query_number number && is_counted_to MAX_PAGE page)
IsWellFormed (Close caller number) = IsTrue (is_caller caller && is_query_number number)
