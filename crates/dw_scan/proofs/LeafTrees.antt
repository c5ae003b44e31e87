-- The iterators of the leaves of a query.
use Rattle.std.proofs.Common.{◌≡◌, ℕ, Bool, true, false, ◌&&◌, ◌||◌, List, [], ◌∷◌, refl, sym, ap, subst, ◌∙◌}
use Rattle.std.specs.Prelude.{nat_eq, IsTrue}
use Rattle.std.specs.List.{AllByRecursion}
use Rattle.std.specs.Ordering.{is_eq}
use Rattle.std.specs.Cmp.{tied_itself}
use Rattle.std.specs.Cmp.Lexicographic.{pointwise}
use Rattle.dw_key.specs.declared.doc_key.DocKey.{DocKey}
use Rattle.dw_key.specs.DocKeys.{doc_key_cmp}
use Rattle.dw_event.specs.Texts.{is_same}
use Rattle.dw_event.specs.declared.types.Types.{Types}
use Rattle.dw_nest.specs.declared.tree.Tree.TheVariants as tree
use Rattle.dw_nest.specs.declared.tree.Tree.TheOpen as layer
use Rattle.dw_nest.specs.declared.tree.Tree.TheViews.{roll-Tree}
use Rattle.dw_nest.specs.declared.tree.Tree.TheFolds.{fold-roll-Tree}
use denote.Hole.Carrier.{roll}
use Rattle.dw_nest.specs.Bounds.{Ascends, has, is_before}
use Rattle.dw_nest.specs.Shapes.{Shape, leaf, shape, shape_step, Alike}
use Rattle.dw_nest.proofs.Order.{total, exact, not_both, not_itself}
use Rattle.dw_outside.proofs.CellMaps.{tied}
use Rattle.dw_tablet.specs.Held.{Held, Agrees}
use Rattle.dw_tablet.specs.Places.{covers}
use Rattle.dw_iter.specs.declared.equal.EqualLeaf.{EqualLeaf}
use Rattle.dw_iter.specs.declared.set.SetLeaf.{SetLeaf}
use Rattle.dw_iter.specs.declared.leaf.Leaf.{Leaf}
use Rattle.dw_iter.specs.declared.leaf.Leaf.TheVariants.{Equal, Set}
use Rattle.dw_iter.specs.LeafLists.{AreLeafDocs}
use Rattle.dw_iter.specs.Made.{is_value_place, LacksPlace, made_of}
use Rattle.dw_iter.proofs.Lacking.{within_ends}
use Rattle.dw_scan.specs.declared.ask.Ask.{Ask}
use Rattle.dw_scan.specs.Parts.{LeafPart, IsLeafOf}
use Rattle.dw_scan.proofs.FieldCells.{same_texts}

-- ---- two ascending lists with the same keys are one

has_itself : (x : DocKey) (xs : List DocKey) → has (x ∷ xs) x ≡ true
has_itself x xs = ap (λ o. is_eq o || has xs x) (tied_itself total x)

same_key : (a b : DocKey) → is_eq (doc_key_cmp a b) ≡ true → a ≡ b
same_key a b h = exact a b (tied (doc_key_cmp a b) h)

later_has : (k d : DocKey) (ks : List DocKey) → AllByRecursion (λ j. IsTrue (is_before k j)) ks → has ks d ≡ true → is_before k d ≡ true
later_has k d [] h e = cc
later_has k d (j ∷ ks) h e = at (λ g. later_has k d ks h.1 g) (is_eq (doc_key_cmp d j)) refl e
  where
    at : (has ks d ≡ true → is_before k d ≡ true) → (b : Bool) → is_eq (doc_key_cmp d j) ≡ b → (b || has ks d) ≡ true → is_before k d ≡ true
    at later true g f = subst (λ x. is_before k x ≡ true) (sym (same_key d j g)) h.0
    at later false g f = later f

none_has : (k : DocKey) (ks : List DocKey) → AllByRecursion (λ j. IsTrue (is_before k j)) ks → has ks k ≡ false
none_has k ks h = at (has ks k) refl
  where
    at : (b : Bool) → has ks k ≡ b → b ≡ false
    at true e = absurd (not_itself k (later_has k k ks h e))
    at false e = refl

-- the first key of a list, among another
headed : (x y : DocKey) (ys : List DocKey) → AllByRecursion (λ j. IsTrue (is_before y j)) ys → has (y ∷ ys) x ≡ true → (is_before y x ≡ false) → x ≡ y
headed x y ys up h n = at (is_eq (doc_key_cmp x y)) refl h
  where
    at : (b : Bool) → is_eq (doc_key_cmp x y) ≡ b → (b || has ys x) ≡ true → x ≡ y
    at true e g = same_key x y e
    at false e g = absurd (clash (later_has y x ys up g) n)
      where
        clash : is_before y x ≡ true → is_before y x ≡ false → ⊥
        clash p q = cc

pub one_list : (xs ys : List DocKey) → Ascends xs → Ascends ys → ((d : DocKey) → has xs d ≡ has ys d) → xs ≡ ys
one_list [] [] u v h = refl
one_list [] (y ∷ ys) u v h = absurd (clash (h y ∙ has_itself y ys))
  where
    clash : false ≡ true → ⊥
    clash e = cc
one_list (x ∷ xs) [] u v h = absurd (clash (sym (h x) ∙ has_itself x xs))
  where
    clash : false ≡ true → ⊥
    clash e = cc
one_list (x ∷ xs) (y ∷ ys) u v h = at (λ g. one_list xs ys u.1 v.1 g) (is_before y x) refl
  where
    rest : x ≡ y → (d : DocKey) → has xs d ≡ has ys d
    rest e d = by (is_eq (doc_key_cmp d x)) refl
      where
        by : (b : Bool) → is_eq (doc_key_cmp d x) ≡ b → has xs d ≡ has ys d
        by true g =
            let dx = same_key d x g in
            ap (has xs) dx ∙ none_has x xs u.0 ∙ sym (ap (has ys) (dx ∙ e) ∙ none_has y ys v.0)
        by false g =
            sym (ap (λ t. t || has xs d) g) ∙ h d ∙ ap (λ t. t || has ys d) (ap (λ z. is_eq (doc_key_cmp d z)) (sym e) ∙ g)

    heads : x ≡ y → (((d : DocKey) → has xs d ≡ has ys d) → xs ≡ ys) → x ∷ xs ≡ y ∷ ys
    heads e later = let tails = later (rest e) in λ i. e i ∷ tails i

    at : (((d : DocKey) → has xs d ≡ has ys d) → xs ≡ ys) → (b : Bool) → is_before y x ≡ b → x ∷ xs ≡ y ∷ ys
    at later false n = heads (headed x y ys v.0 (sym (h x) ∙ has_itself x xs) n) later
    at later true n = heads (sym (headed y x xs u.0 (h y ∙ has_itself y ys) (other (is_before x y) refl))) later
      where
        other : (b : Bool) → is_before x y ≡ b → b ≡ false
        other true g = absurd (not_both x y g n)
        other false g = refl

-- ---- leaves

shape_leaf : (x : Leaf) → shape (tree.Leaf x) ≡ leaf x
unfolding roll-Tree roll
shape_leaf x = fold-roll-Tree Leaf (Shape Leaf) shape_step (layer.Leaf x)

module _ (tablet : Held) (ask : Ask) where
  pub equal_of : (e : EqualLeaf) (field value : List ℕ) → e.tablet.now ≡ tablet → e.field.now ≡ field → e.value.now ≡ value → e.types.now ≡ ask.types → e.auths.now ≡ ask.auths → e.snapshot ≡ ask.snapshot
      → Alike (IsLeafOf tablet ask) (shape (tree.Leaf (Equal e))) (leaf (record { field = field; test = λ form. is_same form value; places = is_value_place tablet.shard field value }))
  equal_of e field value t f v y n s =
      let part : LeafPart = record { field = field; test = λ form. is_same form value; places = is_value_place tablet.shard field value } in
      let test : (λ (form : List ℕ). is_same form value) ≡ (λ form. pointwise nat_eq form e.value.now) = sym (λ i form. same_texts form value i) ∙ sym (λ i form. pointwise nat_eq form (v i)) in
      subst (λ x. Alike (IsLeafOf tablet ask) x (leaf part)) (sym (shape_leaf (Equal e)))
      (record {
        stands = λ content all agrees docs. (
          content,
          subst (λ h. Agrees h content) (sym t) agrees,
          subst (λ (m : List ℕ × ((List ℕ → Bool) × (List (List ℕ) × (ℕ × Types)))). AreLeafDocs m.0 m.1.0 m.1.1.0 m.1.1.1.0 m.1.1.1.1 content all) (λ i. (sym f i, (test i, (sym n i, (sym s i, sym y i))))) docs,
        );
        lacks = λ place h. lacked place (subst (λ (m : List (List ℕ)). LacksPlace m place) (λ i. made_of (t i) (f i) (v i)) h);
      })
    where
      lacked : (place : List ℕ) → LacksPlace (made_of tablet field value) place → (is_value_place tablet.shard field value place ≡ true) × (covers tablet.spans place ≡ false)
      lacked place h = (h.0, sym (within_ends tablet.spans place) ∙ h.1)

  pub set_of : (s : SetLeaf) (part : LeafPart) → ((content : List (List ℕ)) → Agrees tablet content → AreLeafDocs part.field part.test ask.auths ask.snapshot ask.types content s.keys)
      → Alike (IsLeafOf tablet ask) (shape (tree.Leaf (Set s))) (leaf part)
  set_of s part h =
      subst (λ x. Alike (IsLeafOf tablet ask) x (leaf part)) (sym (shape_leaf (Set s)))
      (record {
        stands = λ content all agrees docs.
            let gathered = h content agrees in
            (one_list all s.keys docs.ascends gathered.ascends (λ d. docs.has d ∙ sym (gathered.has d)), docs.ascends);
        lacks = λ place g. absurd g;
      })
