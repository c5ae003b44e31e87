-- The tree of a query beside the shape of its lists.
use Rattle.std.proofs.Common.{◌≡◌, ℕ, ◌<◌, zero, suc, Bool, true, false, cond, ◌&&◌, ◌||◌, ◌⊎◌, inl, inr, List, [], ◌∷◌, ◌++◌, map, length, refl, sym, ap, subst, ◌∙◌, arith}
use Rattle.std.specs.Prelude.{nat_eq, not, slice_index_or, ◌==◌}
use Rattle.std.specs.List.{list_all, list_any, starts_with, ends_with}
use Rattle.std.proofs.lemmas.Bool.{and_parts}
use Rattle.std.proofs.lemmas.List.Folds.{list_any-append}
use Rattle.dw_base.proofs.Members.{StandsIn}
use Rattle.dw_dict.specs.Dictionary.{Dictionary, rule_of}
use Rattle.dw_dict.specs.Rules.{widens}
use Rattle.dw_dict.specs.declared.rule.FieldRule.{FieldRule}
use Rattle.dw_event.specs.Texts.{is_same}
use Rattle.dw_nest.specs.declared.place.Place.TheVariants.{Positive}
use Rattle.dw_nest.specs.Shapes.{Shape, leaf, unknown, opposite, and, or, Alike, leaves, joined, is_enumerable}
use Rattle.dw_nest.proofs.Kept.{enumerable-alike}
use Rattle.dw_eval.specs.declared.nquery.NQuery.{NQuery, map-NQuery}
use Rattle.dw_eval.specs.declared.nquery.NQuery.TheOpen.{NQuery-F}
use Rattle.dw_eval.specs.declared.nquery.NQuery.TheOpen as layer
use Rattle.dw_eval.specs.declared.nquery.NQuery.TheViews.{roll-NQuery}
use Rattle.dw_eval.specs.declared.nquery.NQuery.TheFolds.{fold-roll-NQuery, ind-NQuery}
use Rattle.dw_eval.specs.Leaves.{is_below, is_above, holds}
use Rattle.dw_plan.specs.Anchored.{anchored}
use Rattle.dw_plan.specs.PlanLaws.{is_ruled_as, ruled_step, is_ruled}
use Rattle.dw_scan.specs.Trees.{leaf_of, tree_step, tree_of}
use Rattle.dw_scan.specs.Parts.{LeafPart, part_where, part_step, parts_of}
use Rattle.dw_scan.proofs.Enumerated.{tree_is, anchored_listed}
use Rattle.dw_scan.proofs.QueryParts.{parts_is}

-- a leaf's rule has the field indexed only where the dictionary has
indexed_by : (dict : Dictionary) (field : List ℕ) (rule : FieldRule) → is_ruled_as dict field rule ≡ true → rule.indexed ≡ true → (rule_of dict field).indexed ≡ true
indexed_by dict field rule h i =
    let p = and_parts (widens (rule_of dict field) rule) (widens rule (rule_of dict field)) h in
    kept (rule_of dict field).indexed rule.indexed (and_parts _ ((rule_of dict field).indexed || not rule.indexed) (and_parts _ ((rule_of dict field).reversed || not rule.reversed) p.0).0).1 i
  where
    kept : (a b : Bool) → (a || not b) ≡ true → b ≡ true → a ≡ true
    kept true b g k = refl
    kept false true g k = cc
    kept false false g k = cc

module _ {L X : Type 0} (shard : List ℕ) (dict : Dictionary) (fact : L → LeafPart → Type 0) (stands : L → X → Type 0) (make : List ℕ → (List ℕ → Bool) → X)
    (at_leaf : (x : L) (part : LeafPart) → (rule_of dict part.field).indexed ≡ true → fact x part → stands x (make part.field part.test))
  where
    abbrev IsAlike : NQuery → Type 0
    IsAlike q = (s : Shape L) → is_ruled dict q ≡ true → Alike fact s (parts_of shard q) → Alike stands s (tree_of make q)

    abbrev Child : Type 0
    Child = (q : NQuery) × IsAlike q

    abbrev those : List Child → List NQuery
    those es = map (λ e. e.0) es

    ruled_is : (y : NQuery-F NQuery) → is_ruled dict (roll-NQuery y) ≡ ruled_step dict (map-NQuery NQuery Bool (is_ruled dict) y)
    ruled_is y = fold-roll-NQuery Bool (ruled_step dict) y

    of_leaf : (s : Shape L) (rule : FieldRule) (part : LeafPart) → is_ruled_as dict part.field rule ≡ true → (b : Bool) → rule.indexed ≡ b → Alike fact s (cond b (leaf part) unknown) → Alike stands s (cond b (leaf (make part.field part.test)) unknown)
    of_leaf (leaf x) rule part h true i a = at_leaf x part (indexed_by dict part.field rule h i) a
    of_leaf (leaf x) rule part h false i a = a
    of_leaf unknown rule part h true i a = a
    of_leaf unknown rule part h false i a = a
    of_leaf (opposite s) rule part h true i a = a
    of_leaf (opposite s) rule part h false i a = a
    of_leaf (and m s) rule part h true i a = a
    of_leaf (and m s) rule part h false i a = a
    of_leaf (or m s) rule part h true i a = a
    of_leaf (or m s) rule part h false i a = a

    at_rule : (y : NQuery-F NQuery) (rule : FieldRule) (part : LeafPart) → part_step shard (map-NQuery NQuery (Shape LeafPart) (parts_of shard) y) ≡ part_where rule part
        → tree_step make (map-NQuery NQuery (Shape X) (tree_of make) y) ≡ leaf_of make rule part.field part.test → ruled_step dict (map-NQuery NQuery Bool (is_ruled dict) y) ≡ is_ruled_as dict part.field rule → IsAlike (roll-NQuery y)
    at_rule y rule part p t r s h a =
        subst (λ z. Alike stands s z) (sym (tree_is make y ∙ t))
        (of_leaf s rule part (sym (ruled_is y ∙ r) ∙ h) rule.indexed refl (subst (λ z. Alike fact s z) (parts_is shard y ∙ p) a))

    record AllSame (m : ℕ) (s : ℕ → Shape L) (qs : List NQuery) : Type 0 where
      count : m ≡ length (map (tree_of make) qs)
      each : (i : ℕ) → i < m → Alike stands (s i) (slice_index_or (map (tree_of make) qs) i unknown)

    all_same : (m : ℕ) (s : ℕ → Shape L) (es : List Child) → list_all (λ b. b) (map (is_ruled dict) (those es)) ≡ true → m ≡ length (map (parts_of shard) (those es))
        → ((i : ℕ) → i < m → Alike fact (s i) (slice_index_or (map (parts_of shard) (those es)) i unknown)) → AllSame m s (those es)
    all_same m s [] h c a = record { count = c; each = λ i lt. absurd (omega (arith, lt, c)) }
    all_same zero s (e ∷ es) h c a = absurd (omega (arith, c))
    all_same (suc m) s (e ∷ es) h c a =
        let p = and_parts (is_ruled dict e.0) (list_all (λ b. b) (map (is_ruled dict) (those es))) h in
        let rest = all_same m (λ i. s (suc i)) es p.1 (omega (arith, c)) (λ i lt. a (suc i) (omega (arith, lt))) in
        record { count = ap suc rest.count; each = at rest (e.1 (s 0) p.0 (a 0 (omega arith))) }
      where
        at : AllSame m (λ i. s (suc i)) (those es) → Alike stands (s 0) (tree_of make e.0) → (i : ℕ) → i < suc m → Alike stands (s i) (slice_index_or (map (tree_of make) (those (e ∷ es))) i unknown)
        at rest first zero lt = first
        at rest first (suc i) lt = rest.each i (omega (arith, lt))

    of_and : (es : List Child) (s : Shape L) → list_all (λ b. b) (map (is_ruled dict) (those es)) ≡ true
        → Alike fact s (and (length (map (parts_of shard) (those es))) (λ i. slice_index_or (map (parts_of shard) (those es)) i unknown)) → Alike stands s (and (length (map (tree_of make) (those es))) (λ i. slice_index_or (map (tree_of make) (those es)) i unknown))
    of_and es (leaf x) h a = a
    of_and es unknown h a = a
    of_and es (opposite s) h a = a
    of_and es (and m s) h a = let r = all_same m s es h a.0 a.1 in (r.count, r.each)
    of_and es (or m s) h a = a

    of_or : (es : List Child) (s : Shape L) → list_all (λ b. b) (map (is_ruled dict) (those es)) ≡ true
        → Alike fact s (or (length (map (parts_of shard) (those es))) (λ i. slice_index_or (map (parts_of shard) (those es)) i unknown)) → Alike stands s (or (length (map (tree_of make) (those es))) (λ i. slice_index_or (map (tree_of make) (those es)) i unknown))
    of_or es (leaf x) h a = a
    of_or es unknown h a = a
    of_or es (opposite s) h a = a
    of_or es (and m s) h a = a
    of_or es (or m s) h a = let r = all_same m s es h a.0 a.1 in (r.count, r.each)

    of_not : (e : Child) (s : Shape L) → is_ruled dict e.0 ≡ true → Alike fact s (opposite (parts_of shard e.0)) → Alike stands s (opposite (tree_of make e.0))
    of_not e (leaf x) h a = a
    of_not e unknown h a = a
    of_not e (opposite s) h a = e.1 s h a
    of_not e (and m s) h a = a
    of_not e (or m s) h a = a

    at_layer : (y : NQuery-F Child) → IsAlike (roll-NQuery (map-NQuery Child NQuery (λ e. e.0) y))
    at_layer (layer.Equal f r v) = at_rule (layer.Equal f r v) r (record { field = f; test = λ form. is_same form v; places = _ }) refl refl refl
    at_layer (layer.Below f r v e) = at_rule (layer.Below f r v e) r (record { field = f; test = λ form. is_below form v e; places = _ }) refl refl refl
    at_layer (layer.Above f r v e) = at_rule (layer.Above f r v e) r (record { field = f; test = λ form. is_above form v e; places = _ }) refl refl refl
    at_layer (layer.Between f r l e h g) = at_rule (layer.Between f r l e h g) r (record { field = f; test = λ form. is_above form l e && is_below form h g; places = _ }) refl refl refl
    at_layer (layer.Starts f r t) = at_rule (layer.Starts f r t) r (record { field = f; test = λ form. starts_with nat_eq form t; places = _ }) refl refl refl
    at_layer (layer.Ends f r t) = at_rule (layer.Ends f r t) r (record { field = f; test = λ form. ends_with nat_eq form t; places = _ }) refl refl refl
    at_layer (layer.Holds f r t) = at_rule (layer.Holds f r t) r (record { field = f; test = λ form. holds form t; places = _ }) refl refl refl
    at_layer (layer.Not e) = λ s h a.
        subst (λ z. Alike stands s z) (sym (tree_is make (layer.Not e.0)))
        (of_not e s (sym (ruled_is (layer.Not e.0)) ∙ h) (subst (λ z. Alike fact s z) (parts_is shard (layer.Not e.0)) a))
    at_layer (layer.And es) = λ s h a.
        subst (λ z. Alike stands s z) (sym (tree_is make (layer.And (those es))))
        (of_and es s (sym (ruled_is (layer.And (those es))) ∙ h) (subst (λ z. Alike fact s z) (parts_is shard (layer.And (those es))) a))
    at_layer (layer.Or es) = λ s h a.
        subst (λ z. Alike stands s z) (sym (tree_is make (layer.Or (those es))))
        (of_or es s (sym (ruled_is (layer.Or (those es))) ∙ h) (subst (λ z. Alike fact s z) (parts_is shard (layer.Or (those es))) a))

    pub lists_alike : (q : NQuery) → IsAlike q
    lists_alike = ind-NQuery IsAlike (λ x y is. subst (λ z. IsAlike (roll-NQuery z)) is (at_layer y))

-- the tree of an anchored query can be enumerated
pub tree_enumerable : {L : Type 0} (shard : List ℕ) (dict : Dictionary) (fact : L → LeafPart → Type 0) (q : NQuery) (s : Shape L) → is_ruled dict q ≡ true → anchored q ≡ true → Alike fact s (parts_of shard q) → is_enumerable Positive s ≡ true
tree_enumerable shard dict fact q s ruled anchor a =
    enumerable-alike (λ _ _. Unit {0}) s (tree_of (λ _ _. tt {0}) q) (lists_alike shard dict fact (λ _ _. Unit {0}) (λ _ _. tt {0}) (λ x part i f. tt {0}) q s ruled a) Positive
    ∙ anchored_listed (λ _ _. tt {0}) q anchor

-- ---- what some leaf lacks

module _ {L M : Type 0} (fact : L → LeafPart → Type 0) (made : L → M) (P : M → Type 0) (place : List ℕ) (Q : Type 0) (lacked : (x : L) (part : LeafPart) → fact x part → P (made x) → (part.places place ≡ true) × Q) where
  abbrev found : Shape LeafPart → Bool
  found p = list_any (λ part. part.places place) (leaves p)

  or_right : (a b : Bool) → b ≡ true → (a || b) ≡ true
  or_right true b h = refl
  or_right false b h = h

  or_left : (a b : Bool) → a ≡ true → (a || b) ≡ true
  or_left true b h = refl
  or_left false b h = cc

  stands_either : (xs ys : List L) (m : M) → StandsIn (map made (xs ++ ys)) m → StandsIn (map made xs) m ⊎ StandsIn (map made ys) m
  stands_either [] ys m h = inr h
  stands_either (x ∷ xs) ys m (inl e) = inl (inl e)
  stands_either (x ∷ xs) ys m (inr h) = at (stands_either xs ys m h)
    where
      at : StandsIn (map made xs) m ⊎ StandsIn (map made ys) m → StandsIn (map made (x ∷ xs)) m ⊎ StandsIn (map made ys) m
      at (inl g) = inl (inr g)
      at (inr g) = inr g

  -- a fact of one of some children
  of_children : (n : ℕ) (s : ℕ → Shape L) (p : ℕ → Shape LeafPart) (m : M) → ((i : ℕ) → i < n → StandsIn (map made (leaves (s i))) m → (found (p i) ≡ true) × Q)
      → StandsIn (map made (joined n (λ i. leaves (s i)))) m → (list_any (λ part. part.places place) (joined n (λ i. leaves (p i))) ≡ true) × Q
  of_children zero s p m each h = absurd h
  of_children (suc n) s p m each h =
      at (stands_either (joined n (λ i. leaves (s i))) (leaves (s n)) m h) (λ g. of_children n s p m (λ i lt. each i (omega (arith, lt))) g)
    where
      whole : list_any (λ part. part.places place) (joined n (λ i. leaves (p i)) ++ leaves (p n)) ≡ (list_any (λ part. part.places place) (joined n (λ i. leaves (p i))) || found (p n))
      whole = list_any-append (λ part. part.places place) (joined n (λ i. leaves (p i))) (leaves (p n))

      at : StandsIn (map made (joined n (λ i. leaves (s i)))) m ⊎ StandsIn (map made (leaves (s n))) m → (StandsIn (map made (joined n (λ i. leaves (s i)))) m → (list_any (λ part. part.places place) (joined n (λ i. leaves (p i))) ≡ true) × Q)
          → (list_any (λ part. part.places place) (joined n (λ i. leaves (p i)) ++ leaves (p n)) ≡ true) × Q
      at (inl g) earlier = let e = earlier g in (whole ∙ or_left (list_any (λ part. part.places place) (joined n (λ i. leaves (p i)))) (found (p n)) e.0, e.1)
      at (inr g) earlier = let e = each n (omega arith) g in (whole ∙ or_right (list_any (λ part. part.places place) (joined n (λ i. leaves (p i)))) (found (p n)) e.0, e.1)

  pub some_lacked : (s : Shape L) (p : Shape LeafPart) (m : M) → Alike fact s p → StandsIn (map made (leaves s)) m → P m → (found p ≡ true) × Q
  some_lacked (leaf x) (leaf part) m a (inl e) h = let l = lacked x part a (subst P (sym e) h) in (or_left (part.places place) false l.0, l.1)
  some_lacked (leaf x) (leaf part) m a (inr g) h = absurd g
  some_lacked (leaf x) unknown m a g h = absurd a
  some_lacked (leaf x) (opposite p) m a g h = absurd a
  some_lacked (leaf x) (and n p) m a g h = absurd a
  some_lacked (leaf x) (or n p) m a g h = absurd a
  some_lacked unknown p m a g h = absurd g
  some_lacked (opposite s) (leaf part) m a g h = absurd a
  some_lacked (opposite s) unknown m a g h = absurd a
  some_lacked (opposite s) (opposite p) m a g h = some_lacked s p m a g h
  some_lacked (opposite s) (and n p) m a g h = absurd a
  some_lacked (opposite s) (or n p) m a g h = absurd a
  some_lacked (and k s) (leaf part) m a g h = absurd a
  some_lacked (and k s) unknown m a g h = absurd a
  some_lacked (and k s) (opposite p) m a g h = absurd a
  some_lacked (and k s) (and n p) m a g h =
      let r = of_children k s p m (λ i lt l. some_lacked (s i) (p i) m (a.1 i lt) l h) g in
      (subst (λ c. list_any (λ part. part.places place) (joined c (λ i. leaves (p i))) ≡ true) a.0 r.0, r.1)
  some_lacked (and k s) (or n p) m a g h = absurd a
  some_lacked (or k s) (leaf part) m a g h = absurd a
  some_lacked (or k s) unknown m a g h = absurd a
  some_lacked (or k s) (opposite p) m a g h = absurd a
  some_lacked (or k s) (and n p) m a g h = absurd a
  some_lacked (or k s) (or n p) m a g h =
      let r = of_children k s p m (λ i lt l. some_lacked (s i) (p i) m (a.1 i lt) l h) g in
      (subst (λ c. list_any (λ part. part.places place) (joined c (λ i. leaves (p i))) ≡ true) a.0 r.0, r.1)
