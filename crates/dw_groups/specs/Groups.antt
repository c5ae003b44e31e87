-- How a list falls into groups of 1,000, of which the last may have fewer.
use Rattle.std.specs.Prelude.{ℕ, Bool, true, ◌==◌, ◌&&◌, ◌≡◌, nat_le, nat_lt, List, [], ◌∷◌, ◌++◌, length, IsTrue, Result, if◌then◌else◌}
use Rattle.dw_event.specs.declared.records.Record.{Record}
use Rattle.dw_event.specs.declared.reports.BadRecord.{BadRecord}
use Rattle.dw_groups.specs.declared.limits.TheConstants.{MAX_GROUP}

-- the whole groups, where the first one begins with these items
abbrev pub full_groups_after : {A : Type 0} → List A → List A → List (List A)
full_groups_after front [] = []
full_groups_after front (x ∷ xs) =
    if length (front ++ x ∷ []) == MAX_GROUP then (front ++ x ∷ []) ∷ full_groups_after [] xs else full_groups_after (front ++ x ∷ []) xs

-- what stands after the last whole group, and else after these items
abbrev pub rest_after_groups : {A : Type 0} → List A → List A → List A
rest_after_groups front [] = front
rest_after_groups front (x ∷ xs) =
    if length (front ++ x ∷ []) == MAX_GROUP then rest_after_groups [] xs else rest_after_groups (front ++ x ∷ []) xs

-- the whole groups
abbrev pub full_groups : {A : Type 0} → List A → List (List A)
full_groups xs = full_groups_after [] xs

-- what stands after the last whole group
abbrev pub last_items : {A : Type 0} → List A → List A
last_items xs = rest_after_groups [] xs

-- a last group, where it is not empty
abbrev pub last_group : {A : Type 0} → List A → List (List A)
last_group [] = []
last_group (x ∷ xs) = (x ∷ xs) ∷ []

-- the groups
abbrev pub groups : {A : Type 0} → List A → List (List A)
groups xs = full_groups xs ++ last_group (last_items xs)

-- ---- a law

-- the items of lists, one list after another
abbrev pub joined : {A : Type 0} → List (List A) → List A
joined [] = []
joined (xs ∷ xss) = xs ++ joined xss

-- each group but the last has 1,000 items, and the last has from 1 to 1,000
abbrev pub are_cut : {A : Type 0} → List (List A) → Bool
are_cut [] = true
are_cut (g ∷ []) = nat_lt 0 (length g) && nat_le (length g) MAX_GROUP
are_cut (g ∷ h ∷ gs) = (length g == MAX_GROUP) && are_cut (h ∷ gs)

-- the groups are together the list, in order, and are cut so
abbrev pub GroupsAreCuts : Type 0
GroupsAreCuts = (recs : List (Result Record BadRecord)) → (joined (groups recs) ≡ recs) × IsTrue (are_cut (groups recs))
