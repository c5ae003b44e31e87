-- Sets of shards, joined.
use Rattle.std.specs.Prelude.{ℕ, Bool, List, [], ◌∷◌, Option, Some, None}
use Rattle.std.specs.List.{list_any}
use Rattle.std.specs.Ordering.{nat_cmp}
use Rattle.std.specs.Cmp.Lexicographic.{slice_cmp}
use Rattle.std.specs.declared.cmp.Ordering.{Ordering}
use Rattle.std.specs.declared.cmp.Ordering.TheVariants.{Less, Greater}
use Rattle.dw_event.specs.Texts.{is_same}

-- the shard is in the list
abbrev pub has : List (List ℕ) → List ℕ → Bool
has shards s = list_any (is_same s) shards

-- it is in a list that was found; before any was, all are where both have to have it, and none where one has to
abbrev pub has_found : Bool → Option (List (List ℕ)) → List ℕ → Bool
has_found both None s = both
has_found both (Some shards) s = has shards s

-- which list has the first item, where a list without one comes last
abbrev pub first_order : List (List ℕ) → List (List ℕ) → Ordering
first_order [] ys = Greater
first_order (x ∷ xs) [] = Less
first_order (x ∷ xs) (y ∷ ys) = slice_cmp nat_cmp x y

-- what was found, and no shard where nothing was
abbrev pub all_found : Option (List (List ℕ)) → List (List ℕ)
all_found None = []
all_found (Some shards) = shards
