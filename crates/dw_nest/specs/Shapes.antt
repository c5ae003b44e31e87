-- The shape of a tree, with something at each leaf: an iterator, or the list of keys that it stands for.
use Rattle.std.specs.Prelude.{◌≡◌, ◌↔◌, ◌<◌, ℕ, zero, suc, Bool, true, false, ◌&&◌, ◌||◌, List, [], ◌∷◌, ◌++◌, length, slice_index_or, map}
use Rattle.dw_key.specs.declared.doc_key.DocKey.{DocKey}
use Rattle.dw_nest.specs.declared.place.Place.{Place}
use Rattle.dw_nest.specs.declared.place.Place.TheVariants.{Positive, Negative}
use Rattle.dw_nest.specs.declared.truth.Truth.{Truth}
use Rattle.dw_nest.specs.declared.truth.Truth.TheVariants.{Unknown as Unclear}
use Rattle.dw_nest.specs.declared.tree.Tree.{Tree}
use Rattle.dw_nest.specs.declared.tree.Tree.TheOpen.{Tree-F, Leaf, Unknown, Not, And, Or}
use Rattle.dw_nest.specs.declared.tree.Tree.TheFolds.{fold-Tree}
use Rattle.dw_nest.specs.Kleene.{swapped, least_of, most_of, in_list}

-- a leaf, what is not known, the opposite of a shape, or so many children under an And or an Or
pub data Shape (X : Type 0) : Type 0 where
  leaf : X → Shape X
  unknown : Shape X
  opposite : Shape X → Shape X
  and : ℕ → (ℕ → Shape X) → Shape X
  or : ℕ → (ℕ → Shape X) → Shape X

-- one level, with the shape of each child in its place
abbrev pub shape_step : {L : Type 0} → Tree-F L (Shape L) → Shape L
shape_step (Leaf x) = leaf x
shape_step Unknown = unknown
shape_step (Not child) = opposite child.value
shape_step (And children) = and (length children.items) (λ i. slice_index_or children.items i unknown)
shape_step (Or children) = or (length children.items) (λ i. slice_index_or children.items i unknown)

-- the shape of a tree, with its iterators at the leaves
abbrev pub shape : {L : Type 0} → Tree L → Shape L
shape {L} = fold-Tree L (Shape L) shape_step

-- two trees of one shape, with a fact of each two leaves that are in one place
abbrev pub Alike : {X Y : Type 0} → (X → Y → Type 0) → Shape X → Shape Y → Type 0
Alike fact (leaf x) (leaf y) = fact x y
Alike fact unknown unknown = Unit {0}
Alike fact (opposite a) (opposite b) = Alike fact a b
Alike fact (and m a) (and n b) = (m ≡ n) × ((i : ℕ) → i < m → Alike fact (a i) (b i))
Alike fact (or m a) (or n b) = (m ≡ n) × ((i : ℕ) → i < m → Alike fact (a i) (b i))
Alike fact _ _ = ⊥

-- Kleene's value at a key, by the lists of keys at the leaves
abbrev pub value : Shape (List DocKey) → DocKey → Truth
value (leaf all) key = in_list all key
value unknown key = Unclear
value (opposite a) key = swapped (value a key)
value (and count child) key = least_of count (λ i. value (child i) key)
value (or count child) key = most_of count (λ i. value (child i) key)

-- whether one of the first `count` holds
abbrev pub any_of : ℕ → (ℕ → Bool) → Bool
any_of zero holds = false
any_of (suc count) holds = any_of count holds || holds count

-- whether all of the first `count` hold
abbrev pub all_of : ℕ → (ℕ → Bool) → Bool
all_of zero holds = true
all_of (suc count) holds = all_of count holds && holds count

-- whether all keys at which the tree's value is not No, at a negative place not Yes, are keys of its leaves
abbrev pub is_enumerable : {X : Type 0} → Place → Shape X → Bool
is_enumerable Positive (leaf x) = true
is_enumerable Negative (leaf x) = false
is_enumerable place unknown = false
is_enumerable Positive (opposite a) = is_enumerable Negative a
is_enumerable Negative (opposite a) = is_enumerable Positive a
is_enumerable Positive (and count child) = any_of count (λ i. is_enumerable Positive (child i))
is_enumerable Negative (and count child) = all_of count (λ i. is_enumerable Negative (child i))
is_enumerable Positive (or count child) = all_of count (λ i. is_enumerable Positive (child i))
is_enumerable Negative (or count child) = any_of count (λ i. is_enumerable Negative (child i))

-- the lists of so many, one after the other
abbrev pub joined : {X : Type 0} → ℕ → (ℕ → List X) → List X
joined zero part = []
joined (suc count) part = joined count part ++ part count

-- the leaves, from the left
abbrev pub leaves : {X : Type 0} → Shape X → List X
leaves (leaf x) = x ∷ []
leaves unknown = []
leaves (opposite a) = leaves a
leaves (and count child) = joined count (λ i. leaves (child i))
leaves (or count child) = joined count (λ i. leaves (child i))

-- the shape of the i-th of a list of trees
abbrev pub shapes : {L : Type 0} → List (Tree L) → ℕ → Shape L
shapes children i = slice_index_or (map shape children) i unknown

-- two leaves that stand for the same lists, show their keys out of one list, and were made from the same
abbrev pub Stays : {L M : Type 0} → (L → List DocKey → Type 0) → (L → List DocKey) → (L → M) → L → L → Type 0
Stays stands keys made old new = ((all : List DocKey) → stands new all ↔ stands old all) × (keys new ≡ keys old) × (made new ≡ made old)
