-- The leaves of a query, and trees of iterators over them.
use Rattle.std.proofs.Common.{◌≡◌, ℕ, ◌<◌, ◌≤◌, zero, suc, Bool, true, false, cond, ◌&&◌, List, [], ◌∷◌, ◌++◌, map, length, drop, refl, sym, ap, subst, ◌∙◌, arith}
use denote.Hole.Carrier.{roll}
use Rattle.std.specs.Prelude.{slice_index_or}
use Rattle.std.proofs.lemmas.List.{drop_all}
use Rattle.std.specs.declared.boxed.Box.{Box}
use Rattle.std.proofs.Common.{Vec, Global}
use Rattle.dw_dict.specs.declared.rule.FieldRule.{FieldRule}
use Rattle.dw_event.specs.Texts.{is_same}
use Rattle.dw_nest.specs.declared.tree.Tree.{Tree}
use Rattle.dw_nest.specs.declared.tree.Tree.TheViews as view
use Rattle.dw_nest.specs.Parts.{shape_not, shape_and, shape_or}
use Rattle.dw_nest.specs.Shapes.{Shape, leaf, unknown, opposite, and, or, shape, shapes, Alike}
use Rattle.dw_eval.specs.declared.nquery.NQuery.{NQuery, map-NQuery}
use Rattle.dw_eval.specs.declared.nquery.NQuery.TheVariants as nquery
use Rattle.dw_eval.specs.declared.nquery.NQuery.TheOpen.{NQuery-F}
use Rattle.dw_eval.specs.declared.nquery.NQuery.TheOpen as layer
use Rattle.dw_eval.specs.declared.nquery.NQuery.TheViews.{roll-NQuery}
use Rattle.dw_eval.specs.declared.nquery.NQuery.TheFolds.{fold-roll-NQuery}
use Rattle.dw_eval.specs.Meeting.{meets, meets_step, field_of, field_step, front_of, front_step}
use Rattle.dw_tablet.specs.Held.{Held}
use Rattle.dw_tablet.specs.Fronts.{begins, values_front}
use Rattle.dw_iter.specs.declared.leaf.Leaf.{Leaf}
use Rattle.dw_iter.specs.Made.{is_value_place}
use Rattle.dw_scan.specs.declared.ask.Ask.{Ask}
use Rattle.dw_scan.specs.Parts.{LeafPart, part_where, part_step, parts_of, set_part, IsLeafOf, IsTreeOf, AreTreesOf}

module _ (shard : List ℕ) where
  pub parts_is : (y : NQuery-F NQuery) → parts_of shard (roll-NQuery y) ≡ part_step shard (map-NQuery NQuery (Shape LeafPart) (parts_of shard) y)
  parts_is y = fold-roll-NQuery (Shape LeafPart) (part_step shard) y

  abbrev stepped : NQuery-F NQuery → LeafPart
  stepped y = record {
    field = field_step (map-NQuery NQuery (List ℕ) field_of y);
    test = meets_step (map-NQuery NQuery (List ℕ → Bool) meets y);
    places = begins (values_front shard (field_step (map-NQuery NQuery (List ℕ) field_of y)) (front_step (map-NQuery NQuery (List ℕ) front_of y)));
  }

  part_is : (y : NQuery-F NQuery) → set_part shard (roll-NQuery y) ≡ stepped y
  part_is y = λ i. record {
    field = fold-roll-NQuery (List ℕ) field_step y i;
    test = fold-roll-NQuery (List ℕ → Bool) meets_step y i;
    places = begins (values_front shard (fold-roll-NQuery (List ℕ) field_step y i) (fold-roll-NQuery (List ℕ) front_step y i));
  }

  of_layer : (y : NQuery-F NQuery) (r : FieldRule) → part_step shard (map-NQuery NQuery (Shape LeafPart) (parts_of shard) y) ≡ part_where r (stepped y) → parts_of shard (roll-NQuery y) ≡ part_where r (set_part shard (roll-NQuery y))
  of_layer y r h = parts_is y ∙ h ∙ ap (part_where r) (sym (part_is y))

  pub equal_parts : (f : List ℕ) (r : FieldRule) (v : List ℕ) → parts_of shard (nquery.Equal f r v) ≡ part_where r (record { field = f; test = λ form. is_same form v; places = is_value_place shard f v })
  unfolding roll-NQuery roll
  equal_parts f r v = parts_is (layer.Equal f r v)

  pub below_parts : (f : List ℕ) (r : FieldRule) (v : List ℕ) (e : Bool) → parts_of shard (nquery.Below f r v e) ≡ part_where r (set_part shard (nquery.Below f r v e))
  unfolding roll-NQuery roll
  below_parts f r v e = of_layer (layer.Below f r v e) r refl

  pub above_parts : (f : List ℕ) (r : FieldRule) (v : List ℕ) (e : Bool) → parts_of shard (nquery.Above f r v e) ≡ part_where r (set_part shard (nquery.Above f r v e))
  unfolding roll-NQuery roll
  above_parts f r v e = of_layer (layer.Above f r v e) r refl

  pub between_parts : (f : List ℕ) (r : FieldRule) (l : List ℕ) (e : Bool) (h : List ℕ) (g : Bool) → parts_of shard (nquery.Between f r l e h g) ≡ part_where r (set_part shard (nquery.Between f r l e h g))
  unfolding roll-NQuery roll
  between_parts f r l e h g = of_layer (layer.Between f r l e h g) r refl

  pub starts_parts : (f : List ℕ) (r : FieldRule) (t : List ℕ) → parts_of shard (nquery.Starts f r t) ≡ part_where r (set_part shard (nquery.Starts f r t))
  unfolding roll-NQuery roll
  starts_parts f r t = of_layer (layer.Starts f r t) r refl

  pub ends_parts : (f : List ℕ) (r : FieldRule) (t : List ℕ) → parts_of shard (nquery.Ends f r t) ≡ part_where r (set_part shard (nquery.Ends f r t))
  unfolding roll-NQuery roll
  ends_parts f r t = of_layer (layer.Ends f r t) r refl

  pub holds_parts : (f : List ℕ) (r : FieldRule) (t : List ℕ) → parts_of shard (nquery.Holds f r t) ≡ part_where r (set_part shard (nquery.Holds f r t))
  unfolding roll-NQuery roll
  holds_parts f r t = of_layer (layer.Holds f r t) r refl

  pub not_parts : (q : NQuery) → parts_of shard (nquery.Not q) ≡ opposite (parts_of shard q)
  unfolding roll-NQuery roll
  not_parts q = parts_is (layer.Not q)

  pub and_parts : (qs : List NQuery) → parts_of shard (nquery.And qs) ≡ and (length (map (parts_of shard) qs)) (λ i. slice_index_or (map (parts_of shard) qs) i unknown)
  unfolding roll-NQuery roll
  and_parts qs = parts_is (layer.And qs)

  pub or_parts : (qs : List NQuery) → parts_of shard (nquery.Or qs) ≡ or (length (map (parts_of shard) qs)) (λ i. slice_index_or (map (parts_of shard) qs) i unknown)
  unfolding roll-NQuery roll
  or_parts qs = parts_is (layer.Or qs)

-- ---- trees

module _ (tablet : Held) (ask : Ask) where
  abbrev fact : Leaf → LeafPart → Type 0
  fact = IsLeafOf tablet ask

  -- the tree of a leaf, where its field is indexed
  pub leaf_tree : (t : Tree Leaf) (q : NQuery) (r : FieldRule) (part : LeafPart) → parts_of tablet.shard q ≡ part_where r part → r.indexed ≡ true → Alike fact (shape t) (leaf part) → IsTreeOf tablet ask t q
  leaf_tree t q r part is indexed h = subst (λ s. Alike fact (shape t) s) (sym (is ∙ ap (λ b. cond b (leaf part) unknown) indexed)) h

  pub no_tree : (t : Tree Leaf) (q : NQuery) (r : FieldRule) (part : LeafPart) → parts_of tablet.shard q ≡ part_where r part → r.indexed ≡ false → Alike fact (shape t) unknown → IsTreeOf tablet ask t q
  no_tree t q r part is indexed h = subst (λ s. Alike fact (shape t) s) (sym (is ∙ ap (λ b. cond b (leaf part) unknown) indexed)) h

  pub not_tree : (child : Box (Tree Leaf) Global) (q : NQuery) → IsTreeOf tablet ask child.value q → IsTreeOf tablet ask (view.Not child) (nquery.Not q)
  not_tree child q h = subst (λ s. Alike fact s (parts_of tablet.shard (nquery.Not q))) (sym (shape_not child)) (subst (λ s. Alike fact (opposite (shape child.value)) s) (sym (not_parts tablet.shard q)) h)

  record AreAlike (ts : List (Tree Leaf)) (qs : List NQuery) : Type 0 where
    count : length ts ≡ length (map (parts_of tablet.shard) qs)
    each : (i : ℕ) → i < length ts → Alike fact (shapes ts i) (slice_index_or (map (parts_of tablet.shard) qs) i unknown)

  are_alike : (ts : List (Tree Leaf)) (qs : List NQuery) → AreTreesOf tablet ask ts qs → AreAlike ts qs
  are_alike [] [] h = record { count = refl; each = λ i lt. absurd (omega (arith, lt)) }
  are_alike [] (q ∷ qs) h = absurd h
  are_alike (t ∷ ts) [] h = absurd h
  are_alike (t ∷ ts) (q ∷ qs) h =
      let rest = are_alike ts qs h.1 in
      record { count = ap suc rest.count; each = at rest }
    where
      at : AreAlike ts qs → (i : ℕ) → i < length (t ∷ ts) → Alike fact (shapes (t ∷ ts) i) (slice_index_or (map (parts_of tablet.shard) (q ∷ qs)) i unknown)
      at rest zero lt = h.0
      at rest (suc i) lt = rest.each i (omega (arith, lt))

  pub and_tree : (children : Vec (Tree Leaf) Global) (qs : List NQuery) → AreTreesOf tablet ask children.items qs → IsTreeOf tablet ask (view.And children) (nquery.And qs)
  and_tree children qs h =
      let a = are_alike children.items qs h in
      subst (λ s. Alike fact s (parts_of tablet.shard (nquery.And qs))) (sym (shape_and children)) (subst (λ s. Alike fact (and (length children.items) (shapes children.items)) s) (sym (and_parts tablet.shard qs)) (a.count, a.each))

  pub or_tree : (children : Vec (Tree Leaf) Global) (qs : List NQuery) → AreTreesOf tablet ask children.items qs → IsTreeOf tablet ask (view.Or children) (nquery.Or qs)
  or_tree children qs h =
      let a = are_alike children.items qs h in
      subst (λ s. Alike fact s (parts_of tablet.shard (nquery.Or qs))) (sym (shape_or children)) (subst (λ s. Alike fact (or (length children.items) (shapes children.items)) s) (sym (or_parts tablet.shard qs)) (a.count, a.each))

  -- one tree more
  pub one_more : (ts rest : List (Tree Leaf)) (t : Tree Leaf) (qs : List NQuery) (i : ℕ) (q : NQuery) → i < length qs → q ≡ slice_index_or qs i q → IsTreeOf tablet ask t q
      → ((more : List (Tree Leaf)) → AreTreesOf tablet ask more (drop i qs) → AreTreesOf tablet ask (ts ++ more) qs) → AreTreesOf tablet ask rest (drop (suc i) qs) → AreTreesOf tablet ask ((ts ++ t ∷ []) ++ rest) qs
  one_more ts rest t qs i q lt is h so_far more =
      subst (λ l. AreTreesOf tablet ask l qs) (sym (joined ts)) (so_far (t ∷ rest) (subst (λ l. AreTreesOf tablet ask (t ∷ rest) l) (sym (dropped qs i lt is)) (h, more)))
    where
      joined : (xs : List (Tree Leaf)) → (xs ++ t ∷ []) ++ rest ≡ xs ++ (t ∷ rest)
      joined [] = refl
      joined (x ∷ xs) = ap (λ l. x ∷ l) (joined xs)

      dropped : (xs : List NQuery) (j : ℕ) → j < length xs → q ≡ slice_index_or xs j q → drop j xs ≡ q ∷ drop (suc j) xs
      dropped [] j k e = absurd (omega (arith, k))
      dropped (x ∷ xs) zero k e = ap (λ y. y ∷ xs) (sym e)
      dropped (x ∷ xs) (suc j) k e = dropped xs j (omega (arith, k)) e

  -- ---- the trees that are built

  pub equal_built : (t : Tree Leaf) (q : NQuery) (f : List ℕ) (r : FieldRule) (v field value : List ℕ) → q ≡ nquery.Equal f r v → field ≡ f → value ≡ v
      → Alike fact (shape t) (cond r.indexed (leaf (record { field = field; test = λ form. is_same form value; places = is_value_place tablet.shard field value })) unknown) → IsTreeOf tablet ask t q
  equal_built t q f r v field value is same_field same_value h =
      let part : LeafPart = record { field = f; test = λ form. is_same form v; places = is_value_place tablet.shard f v } in
      let moved : Alike fact (shape t) (part_where r part) =
      subst (λ (m : List ℕ × List ℕ). Alike fact (shape t) (cond r.indexed (leaf (record { field = m.0; test = λ form. is_same form m.1; places = is_value_place tablet.shard m.0 m.1 })) unknown)) (λ i. (same_field i, same_value i)) h in
      subst (λ x. IsTreeOf tablet ask t x) (sym is) (subst (λ s. Alike fact (shape t) s) (sym (equal_parts tablet.shard f r v)) moved)

  pub and_built : (children : Vec (Tree Leaf) Global) (q : NQuery) (qs lent : List NQuery) → q ≡ nquery.And qs → lent ≡ qs → AreTreesOf tablet ask children.items lent → IsTreeOf tablet ask (view.And children) q
  and_built children q qs lent is same h = subst (λ x. IsTreeOf tablet ask (view.And children) x) (sym is) (and_tree children qs (subst (λ l. AreTreesOf tablet ask children.items l) same h))

  pub or_built : (children : Vec (Tree Leaf) Global) (q : NQuery) (qs lent : List NQuery) → q ≡ nquery.Or qs → lent ≡ qs → AreTreesOf tablet ask children.items lent → IsTreeOf tablet ask (view.Or children) q
  or_built children q qs lent is same h = subst (λ x. IsTreeOf tablet ask (view.Or children) x) (sym is) (or_tree children qs (subst (λ l. AreTreesOf tablet ask children.items l) same h))

  -- all queries have their trees
  pub all_built : (ts : List (Tree Leaf)) (qs : List NQuery) (n : ℕ) → length qs ≤ n → ((more : List (Tree Leaf)) → AreTreesOf tablet ask more (drop n qs) → AreTreesOf tablet ask (ts ++ more) qs) → AreTreesOf tablet ask ts qs
  all_built ts qs n end so_far =
      subst (λ l. AreTreesOf tablet ask l qs) (ended ts) (so_far [] (subst (λ l. AreTreesOf tablet ask [] l) (sym (drop_all n qs end)) tt))
    where
      ended : (xs : List (Tree Leaf)) → xs ++ [] ≡ xs
      ended [] = refl
      ended (x ∷ xs) = ap (λ l. x ∷ l) (ended xs)
