-- Which events are asked for, by their days and types.
use Rattle.std.specs.Prelude.{ℕ, Bool, true, ◌&&◌, nat_eq, List, take}
use Rattle.std.specs.List.{list_any}
use Rattle.std.specs.Ordering.{nat_cmp, is_le}
use Rattle.std.specs.Cmp.Lexicographic.{pointwise, slice_cmp}
use Rattle.dw_event.specs.declared.days.Days.{Days}
use Rattle.dw_event.specs.declared.types.Types.{Types}
use Rattle.dw_event.specs.declared.types.Types.TheVariants.{All, Only}

-- the day of a shard, its first eight bytes, is one of the days
abbrev pub is_in_range : Days → List ℕ → Bool
is_in_range days shard = is_le (slice_cmp nat_cmp days.first (take 8 shard)) && is_le (slice_cmp nat_cmp (take 8 shard) days.last)

-- the type is one of those that are asked for
abbrev pub is_type_wanted : Types → List ℕ → Bool
is_type_wanted All dtype = true
is_type_wanted (Only types) dtype = list_any (λ t. pointwise nat_eq t dtype) types
