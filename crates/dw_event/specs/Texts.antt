-- The equality of texts.
use Rattle.std.specs.Prelude.{ℕ, Bool, List}
use Rattle.std.specs.Ordering.{nat_cmp}
use Rattle.std.specs.BTreeMap.{is_at}
use Rattle.std.specs.Cmp.Lexicographic.{slice_cmp}

-- two texts of the same bytes
abbrev pub is_same : List ℕ → List ℕ → Bool
is_same a b = is_at (slice_cmp nat_cmp a) b
