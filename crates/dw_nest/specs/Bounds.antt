-- Bounds, and the keys of a list that meet them.
use Rattle.std.specs.Prelude.{Bool, true, IsTrue, List, [], ◌∷◌, filter}
use Rattle.std.specs.Ordering.{is_le, is_lt, is_eq}
use Rattle.std.specs.List.{list_any, AllByRecursion}
use Rattle.dw_key.specs.DocKeys.{doc_key_cmp}
use Rattle.dw_key.specs.declared.doc_key.DocKey.{DocKey}
use Rattle.dw_nest.specs.declared.bound.Bound.{Bound}
use Rattle.dw_nest.specs.declared.bound.Bound.TheVariants.{Start, From, After}
use Rattle.dw_nest.specs.declared.bound.Top.{Top}
use Rattle.dw_nest.specs.declared.bound.Top.TheVariants.{Key, End, Missing}

-- whether one key comes before another
abbrev pub is_before : DocKey → DocKey → Bool
is_before a b = is_lt (doc_key_cmp a b)

-- whether a key meets a bound
abbrev pub meets : Bound → DocKey → Bool
meets Start key = true
meets (From from) key = is_le (doc_key_cmp from key)
meets (After after) key = is_before after key

-- the keys of a list that meet a bound
abbrev pub rest : List DocKey → Bound → List DocKey
rest all bound = filter (meets bound) all

-- whether a key is in a list
abbrev pub has : List DocKey → DocKey → Bool
has all key = list_any (λ k. is_eq (doc_key_cmp key k)) all

-- the keys strictly ascend
abbrev pub Ascends : List DocKey → Type 0
Ascends [] = Unit {0}
Ascends (key ∷ later) = AllByRecursion (λ k. IsTrue (is_before key k)) later × Ascends later

-- a fact of the key at the top, if one is there
abbrev pub IfTopKey : Top → (DocKey → Type 0) → Type 0
IfTopKey (Key key) fact = fact key
IfTopKey End fact = Unit {0}
IfTopKey Missing fact = Unit {0}

-- a key is at the top
abbrev pub IsTopKey : Top → Type 0
IsTopKey (Key key) = Unit {0}
IsTopKey End = ⊥
IsTopKey Missing = ⊥
