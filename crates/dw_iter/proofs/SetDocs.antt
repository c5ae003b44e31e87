-- The documents of a set that is gathered from the cells of a field.
use Rattle.std.proofs.Common.{◌≡◌, ◌↔◌, ℕ, List, [], ◌∷◌, ◌++◌, refl, sym, ap, subst, ◌∙◌, Bool, true, false, cond, ◌&&◌, ◌||◌, ◌⊎◌, inl, inr}
use Rattle.std.specs.Prelude.{filter, filter_map, Contains, Option, Some, None, if◌then◌else◌}
use Rattle.std.specs.Option.{option_map}
use Rattle.std.specs.List.{AllByRecursion, cons_option}
use Rattle.std.specs.List.Sorted.{IsStrictlySortedBy}
use Rattle.std.specs.Cmp.{both_ways}
use Rattle.std.specs.Ordering.{is_eq}
use Rattle.dw_base.proofs.Members.{StandsIn, stands_from, from_stands}
use Rattle.dw_key.specs.declared.doc_key.DocKey.{DocKey}
use Rattle.dw_key.specs.DocKeys.{doc_key_cmp}
use Rattle.dw_event.specs.declared.types.Types.{Types}
use Rattle.dw_nest.specs.Bounds.{has}
use Rattle.dw_eval.specs.declared.nquery.NQuery.{NQuery}
use Rattle.dw_eval.specs.Meeting.{meets, field_of, front_of, FormsBeginSo}
use Rattle.dw_tablet.specs.Held.{Held, Agrees}
use Rattle.dw_tablet.specs.Places.{below, AreFrom, AreBefore, shard_start, shard_end}
use Rattle.dw_tablet.specs.Fronts.{begins, with_front, values_front, ValuesStandInFronts}
use Rattle.dw_tablet.specs.Values.{Value, value_at, shown_at, is_of_doc, some_says}
use Rattle.dw_tablet.proofs.Equals.{kept_some}
use Rattle.dw_tablet.proofs.LeastDocs.{same_doc, itself}
use Rattle.dw_iter.specs.LeafLists.{passed_if, doc_where, leaf_value, AreLeafDocs}
use Rattle.dw_iter.proofs.SetTops.{ascend}

-- ---- what is in a list of keys

has_stands : (ks : List DocKey) (d : DocKey) → has ks d ≡ true → StandsIn ks d
has_stands [] d h = cc
has_stands (k ∷ ks) d h = at (λ g. has_stands ks d g) (is_eq (doc_key_cmp d k)) refl h
  where
    at : (has ks d ≡ true → StandsIn ks d) → (b : Bool) → is_eq (doc_key_cmp d k) ≡ b → (b || has ks d) ≡ true → StandsIn (k ∷ ks) d
    at later true e g = inl (sym (same_doc d k e))
    at later false e g = inr (later g)

or_right : (a b : Bool) → b ≡ true → (a || b) ≡ true
or_right true b i = refl
or_right false b i = i

stands_has : (ks : List DocKey) (d : DocKey) → StandsIn ks d → has ks d ≡ true
stands_has [] d h = absurd h
stands_has (k ∷ ks) d (inl e) = ap (λ x. is_eq (doc_key_cmp d x) || has ks d) e ∙ ap (λ b. b || has ks d) (itself d)
stands_has (k ∷ ks) d (inr h) = or_right (is_eq (doc_key_cmp d k)) (has ks d) (stands_has ks d h)

-- ---- what some keys say

abbrev doc_by : (List ℕ → Option Value) → List ℕ → Option DocKey
doc_by f key = option_map (λ v. v.1) (f key)

stands_says : (f : List ℕ → Option Value) (keys : List (List ℕ)) (d : DocKey) → StandsIn (filter_map (doc_by f) keys) d → some_says f keys d ≡ true
stands_says f [] d h = absurd h
stands_says f (k ∷ ks) d h = at (λ g. stands_says f ks d g) (f k) h
  where
    at : (StandsIn (filter_map (doc_by f) ks) d → some_says f ks d ≡ true) → (o : Option Value) → StandsIn (cons_option (option_map (λ v. v.1) o) (filter_map (doc_by f) ks)) d → (is_of_doc d o || some_says f ks d) ≡ true
    at later None g = later g
    at later (Some v) (inl e) = ap (λ x. is_eq (doc_key_cmp d x) || some_says f ks d) e ∙ ap (λ b. b || some_says f ks d) (itself d)
    at later (Some v) (inr g) = or_right (is_eq (doc_key_cmp d v.1)) (some_says f ks d) (later g)

says_stands : (f : List ℕ → Option Value) (keys : List (List ℕ)) (d : DocKey) → some_says f keys d ≡ true → StandsIn (filter_map (doc_by f) keys) d
says_stands f [] d h = cc
says_stands f (k ∷ ks) d h = at (λ g. says_stands f ks d g) (f k) h
  where
    at : (some_says f ks d ≡ true → StandsIn (filter_map (doc_by f) ks) d) → (o : Option Value) → (is_of_doc d o || some_says f ks d) ≡ true → StandsIn (cons_option (option_map (λ v. v.1) o) (filter_map (doc_by f) ks)) d
    at later None g = later g
    at later (Some v) g = which (is_eq (doc_key_cmp d v.1)) refl g
      where
        which : (b : Bool) → is_eq (doc_key_cmp d v.1) ≡ b → (b || some_says f ks d) ≡ true → StandsIn (v.1 ∷ filter_map (doc_by f) ks) d
        which true e i = inl (sym (same_doc d v.1 e))
        which false e i = inr (later i)

-- a test that all keys pass which say a value leaves what is said
filtered : (f : List ℕ → Option Value) (p : List ℕ → Bool) (keys : List (List ℕ)) (d : DocKey) → AllByRecursion (λ k. (v : Value) → f k ≡ Some v → p k ≡ true) keys → some_says f (filter p keys) d ≡ some_says f keys d
filtered f p [] d h = refl
filtered f p (k ∷ ks) d h = at (p k) refl (f k) refl (filtered f p ks d h.1)
  where
    at : (b : Bool) → p k ≡ b → (o : Option Value) → f k ≡ o → some_says f (filter p ks) d ≡ some_says f ks d → some_says f (cond b (k ∷ filter p ks) (filter p ks)) d ≡ (is_of_doc d (f k) || some_says f ks d)
    at true e o g l = ap (λ b. is_of_doc d (f k) || b) l
    at false e None g l = l ∙ sym (ap (λ x. is_of_doc d x || some_says f ks d) g)
    at false e (Some v) g l = absurd (clash (h.0 v g) e)
      where
        clash : p k ≡ true → p k ≡ false → ⊥
        clash a b = cc

-- ---- the cells of a leaf

passed_some : (test : List ℕ → Bool) (o : Option Value) (v : Value) → passed_if test o ≡ Some v → (o ≡ Some v) × (test v.0 ≡ true)
passed_some test None v h = cc
passed_some test (Some w) v h = at (test w.0) refl h
  where
    at : (b : Bool) → test w.0 ≡ b → (if b then Some w else None) ≡ Some v → (Some w ≡ Some v) × (test v.0 ≡ true)
    at true e g = let same : w ≡ v = cc in (g, sym (ap (λ (x : Value). test x.0) same) ∙ e)
    at false e g = cc

module _ (t : Held) (leaf : NQuery) (names : List (List ℕ)) (snapshot : ℕ) (types : Types) (begin_so : FormsBeginSo) (stand : ValuesStandInFronts) where
  abbrev f : List ℕ → Option Value
  f = leaf_value (field_of leaf) (meets leaf) names snapshot types

  abbrev front : List ℕ
  front = values_front t.shard (field_of leaf) (front_of leaf)

  begins_front : (k : List ℕ) → below k (shard_start t.shard) ≡ false → below k (shard_end t.shard) ≡ true → (v : Value) → f k ≡ Some v → begins front k ≡ true
  begins_front k low high v h =
      let passed = passed_some (meets leaf) (shown_at (field_of leaf) names snapshot None (Some types) k) v h in
      let kept = kept_some None (Some types) (value_at (field_of leaf) names snapshot k) v passed.0 in
      stand t.shard (field_of leaf) (front_of leaf) names snapshot k v low high kept.0 (begin_so leaf v.0 passed.1)

  all_begin : (keys : List (List ℕ)) → AreFrom (shard_start t.shard) keys → AreBefore (shard_end t.shard) keys → AllByRecursion (λ k. (v : Value) → f k ≡ Some v → begins front k ≡ true) keys
  all_begin [] from before = tt
  all_begin (k ∷ ks) from before = (begins_front k from.0 before.0, all_begin ks from.1 before.1)

  -- the set of the documents that were gathered is that of the leaf
  pub set_docs : (content : List (List ℕ)) → Agrees t content → (g : List ℕ → Option Value) → g ≡ shown_at (field_of leaf) names snapshot None (Some types) → (keys : List (List ℕ)) → keys ≡ with_front front content
      → (docs all : List DocKey) → docs ≡ filter_map (doc_where (meets leaf) g) keys → IsStrictlySortedBy doc_key_cmp all → ((x : DocKey) → Contains all x ↔ Contains docs x) → AreLeafDocs (field_of leaf) (meets leaf) names snapshot types content all
  set_docs content agrees g asked keys lent docs all is sorted members =
      let gathered : docs ≡ filter_map (doc_by f) (with_front front content) = is ∙ (λ i. filter_map (doc_where (meets leaf) (asked i)) (lent i)) in
      let same : (d : DocKey) → some_says f (with_front front content) d ≡ some_says f content d =
      λ d. filtered f (begins front) content d (all_begin content agrees.is.from agrees.is.before) in
      record {
        ascends = ascend all sorted;
        has = λ d. both_ways (has all d) (some_says f content d)
            (λ h. sym (same d) ∙ stands_says f (with_front front content) d (subst (λ xs. StandsIn xs d) gathered (stands_from docs d ((members d).0 (from_stands all d (has_stands all d h))))))
            (λ h. stands_has all d (stands_from all d ((members d).1 (from_stands docs d (subst (λ xs. StandsIn xs d) (sym gathered) (says_stands f (with_front front content) d (same d ∙ h)))))));
      }
