-- A set as the list of its items that ascends by an order.
use Rattle.std.specs.Prelude.{◌≡◌, ℕ, ◌≤◌, List, [], ◌∷◌, length, insert}
use Rattle.std.specs.List.Sorted.{IsStrictlySortedBy}
use Rattle.std.specs.BTreeSet.{insert_key}
use Rattle.std.specs.declared.cmp.Ordering.{Ordering}

-- each item is below those after it
abbrev pub IsAscending : {T : Type 0} → (T → T → Ordering) → List T → Type 0
IsAscending cmp items = IsStrictlySortedBy cmp items

-- the items with one more at its place, unless an equal one is there
abbrev pub with_item : {T : Type 0} → (T → T → Ordering) → List T → T → List T
with_item cmp items item = insert_key cmp items item

-- the items with more of them, one after another
abbrev pub with_items : {T : Type 0} → (T → T → Ordering) → List T → List T → List T
with_items cmp items [] = items
with_items cmp items (x ∷ xs) = with_items cmp (with_item cmp items x) xs

-- the set of some items
abbrev pub set_of : {T : Type 0} → (T → T → Ordering) → List T → List T
set_of cmp items = with_items cmp [] items

-- the place at which a new item goes in
pub record IsGap {T : Type 0} (cmp : T → T → Ordering) (items : List T) (item : T) (at : ℕ) : Type 0 where
  pub within : at ≤ length items
  pub placed : with_item cmp items item ≡ insert items at item
