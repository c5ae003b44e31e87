-- A leaf of a query, by what it is made of.
use Rattle.std.proofs.Common.{◌≡◌, ◌↔◌, List, sym, subst, Some}
use Rattle.std.specs.Prelude.{slice_get}
use Rattle.dw_key.specs.declared.doc_key.DocKey.{DocKey}
use Rattle.dw_nest.specs.declared.bound.Top.{Top}
use Rattle.dw_nest.specs.Bounds.{rest, IfTopKey}
use Rattle.dw_iter.specs.declared.leaf.Leaf.{Leaf}
use Rattle.dw_iter.specs.LeafParts.{bound_of, LeafStands}

-- what is known of a leaf is known of one that equals it
pub stands_moved : (N : List DocKey → Type 0) (s t : Leaf) → s ≡ t → ((all : List DocKey) → N all ↔ LeafStands t all) → (all : List DocKey) → N all ↔ LeafStands s all
stands_moved N s t e h = subst (λ (l : Leaf). (all : List DocKey) → N all ↔ LeafStands l all) (sym e) h

pub key_moved : (top : Top) (s t : Leaf) → s ≡ t → IfTopKey top (λ k. (all : List DocKey) → LeafStands t all → slice_get (rest all (bound_of t)) 0 ≡ Some k)
    → IfTopKey top (λ k. (all : List DocKey) → LeafStands s all → slice_get (rest all (bound_of s)) 0 ≡ Some k)
key_moved top s t e h = subst (λ (l : Leaf). IfTopKey top (λ k. (all : List DocKey) → LeafStands l all → slice_get (rest all (bound_of l)) 0 ≡ Some k)) (sym e) h
