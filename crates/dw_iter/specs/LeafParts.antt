-- What a leaf is as an iterator, by what it is made of.
use Rattle.std.specs.Prelude.{◌≡◌, ℕ, Bool, false, is_some, List, [], Some, slice_get, nat_eq}
use Rattle.std.specs.Cmp.Lexicographic.{pointwise}
use Rattle.dw_key.specs.declared.doc_key.DocKey.{DocKey}
use Rattle.dw_nest.specs.declared.bound.Bound.{Bound}
use Rattle.dw_nest.specs.declared.bound.Top.{Top}
use Rattle.dw_nest.specs.Bounds.{Ascends, rest}
use Rattle.dw_tablet.specs.Values.{shown_at, docs_of}
use Rattle.dw_tablet.specs.Walks.{gap_shown}
use Rattle.dw_iter.specs.declared.equal.EqualLeaf.{EqualLeaf}
use Rattle.dw_iter.specs.declared.set.SetLeaf.{SetLeaf}
use Rattle.dw_iter.specs.declared.leaf.Leaf.{Leaf}
use Rattle.dw_iter.specs.declared.leaf.Leaf.TheVariants.{Equal, Set}
use Rattle.dw_iter.specs.LeafLists.{StandsFor}
use Rattle.dw_iter.specs.Made.{made_of}
use Rattle.dw_iter.specs.Tops.{top_of, set_top}

-- the lists that an equality stands for
abbrev pub equal_stands : EqualLeaf → List DocKey → Type 0
equal_stands s = StandsFor s.tablet.now s.field.now (λ form. pointwise nat_eq form s.value.now) s.auths.now s.snapshot s.types.now

-- the documents of all cells of its tablet that it may show
abbrev pub equal_keys : EqualLeaf → List DocKey
equal_keys s = docs_of (shown_at s.field.now s.auths.now s.snapshot (Some s.value.now) (Some s.types.now)) s.tablet.now.keys

-- the list of a set
abbrev pub set_stands : SetLeaf → List DocKey → Type 0
set_stands s all = (all ≡ s.keys) × Ascends all

abbrev pub bound_of : Leaf → Bound
bound_of (Equal s) = s.bound
bound_of (Set s) = s.bound

abbrev pub is_stuck : Leaf → Bool
is_stuck (Equal s) = is_some (gap_shown s.cursor)
is_stuck (Set s) = false

abbrev pub LeafStands : Leaf → List DocKey → Type 0
LeafStands (Equal s) = equal_stands s
LeafStands (Set s) = set_stands s

abbrev pub top_shown : Leaf → Top
top_shown (Equal s) = top_of s.cursor
top_shown (Set s) = set_top (slice_get (rest s.keys s.bound) 0)

abbrev pub keys_of : Leaf → List DocKey
keys_of (Equal s) = equal_keys s
keys_of (Set s) = s.keys

abbrev pub made_from : Leaf → List (List ℕ)
made_from (Equal s) = made_of s.tablet.now s.field.now s.value.now
made_from (Set s) = []
