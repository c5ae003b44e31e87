-- An iterator over the cells of one value.
use Rattle.std.proofs.Common.{◌≡◌, ◌↔◌, ℕ, Bool, true, false, ◌&&◌, List, [], ◌∷◌, refl, sym, ap, subst, ◌∙◌}
use Rattle.std.specs.Prelude.{filter_map, slice_get, Option, Some, None, nat_eq, if◌then◌else◌}
use Rattle.std.specs.Cmp.Lexicographic.{pointwise}
use Rattle.dw_key.specs.declared.doc_key.DocKey.{DocKey}
use Rattle.dw_event.specs.declared.types.Types.{Types}
use Rattle.dw_nest.specs.declared.bound.Bound.{Bound}
use Rattle.dw_nest.specs.Bounds.{rest}
use Rattle.dw_tablet.specs.Held.{Held, Agrees}
use Rattle.dw_tablet.specs.Places.{between}
use Rattle.dw_tablet.specs.Positions.{bound_place, value_end}
use Rattle.dw_tablet.specs.Cursors.{known_keys}
use Rattle.dw_tablet.specs.Values.{Value, value_at, is_of, kept_if, shown_at, AreDocs}
use Rattle.dw_tablet.specs.EqualWalks.{EqualWalk, of_value, walked, walked_known}
use Rattle.dw_iter.specs.LeafLists.{passed_if, leaf_value, StandsFor}

-- what an equality shows
equal_kept : (value : List ℕ) (types : Types) (o : Option Value) → passed_if (λ form. pointwise nat_eq form value) (kept_if None (Some types) o) ≡ kept_if (Some value) (Some types) o
equal_kept value types None = refl
equal_kept value types (Some v) = at (is_of (Some types) v.1.dtype) (pointwise nat_eq v.0 value) refl
  where
    at : (b c : Bool) → pointwise nat_eq v.0 value ≡ c → passed_if (λ form. pointwise nat_eq form value) (if true && b then Some v else None) ≡ (if c && b then Some v else None)
    at true true e = ap (λ t. if t then Some v else None) e
    at true false e = ap (λ t. if t then Some v else None) e
    at false true e = refl
    at false false e = refl

pub equal_value : (field : List ℕ) (names : List (List ℕ)) (snapshot : ℕ) (value : List ℕ) (types : Types)
    → leaf_value field (λ form. pointwise nat_eq form value) names snapshot types ≡ shown_at field names snapshot (Some value) (Some types)
equal_value field names snapshot value types = λ i key. equal_kept value types (value_at field names snapshot key) i

module _ (t : Held) (field : List ℕ) (names : List (List ℕ)) (snapshot : ℕ) (value : List ℕ) (types : Types) (bound : Bound) (walk : EqualWalk t field names snapshot value types bound)
    (f : List ℕ → Option Value) (p e : List ℕ) (asked : f ≡ shown_at field names snapshot (Some value) (Some types)) (place : p ≡ bound_place t.shard field value bound) (end : e ≡ value_end t.shard field value)
  where
    docs_are : (content : List (List ℕ)) (all : List DocKey) → AreDocs (leaf_value field (λ form. pointwise nat_eq form value) names snapshot types) content all → AreDocs (of_value t field names snapshot value types bound) content all
    docs_are content all h = subst (λ g. AreDocs g content all) (equal_value field names snapshot value types) h

    walk_is : (content : List (List ℕ)) → filter_map f (between p e content) ≡ walked t field names snapshot value types bound content
    walk_is content = λ i. filter_map (asked i) (between (place i) (end i) content)

    known_is : filter_map f (known_keys t p e) ≡ walked_known t field names snapshot value types bound
    known_is = λ i. filter_map (asked i) (known_keys t (place i) (end i))

    pub top_first : (v : Value) → ((content : List (List ℕ)) → Agrees t content → slice_get (filter_map f (between p e content)) 0 ≡ Some v) → (all : List DocKey) → StandsFor t field (λ form. pointwise nat_eq form value) names snapshot types all → slice_get (rest all bound) 0 ≡ Some v.1
    top_first v h all s = walk.first s.0 all v s.1 (docs_are s.0 all s.2) (ap (λ vs. slice_get vs 0) (sym (walk_is s.0)) ∙ h s.0 s.1)

    pub top_none : ((content : List (List ℕ)) → Agrees t content → filter_map f (between p e content) ≡ []) → (all : List DocKey) → StandsFor t field (λ form. pointwise nat_eq form value) names snapshot types all → rest all bound ≡ []
    top_none h all s = walk.none s.0 all s.1 (docs_are s.0 all s.2) (sym (walk_is s.0) ∙ h s.0 s.1)

    pub known_at : (v : Value) → slice_get (filter_map f (known_keys t p e)) 0 ≡ Some v → slice_get (walked_known t field names snapshot value types bound) 0 ≡ Some v
    known_at v h = ap (λ vs. slice_get vs 0) (sym known_is) ∙ h

-- ---- what it was made from

abbrev pub Made : Type 0
Made = Held × (List ℕ × (List ℕ × (Types × (List (List ℕ) × ℕ))))

abbrev pub MadeStands : Made → List DocKey → Type 0
MadeStands m all = StandsFor m.0 m.1.0 (λ form. pointwise nat_eq form m.1.1.0) m.1.1.1.1.0 m.1.1.1.1.1 m.1.1.1.0 all

pub stands_alike : (a b : Made) → a ≡ b → (all : List DocKey) → MadeStands a all ↔ MadeStands b all
stands_alike a b e all = ((λ s. subst (λ m. MadeStands m all) e s), λ s. subst (λ m. MadeStands m all) (sym e) s)
