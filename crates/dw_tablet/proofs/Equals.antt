-- The first cell of a walk over one value.
use Rattle.std.proofs.Common.{◌≡◌, ℕ, List, [], ◌∷◌, ◌++◌, refl, sym, ap, subst, ◌∙◌, Bool, true, false, not, cond, ◌&&◌, ◌||◌, map as list_map, ◌⊎◌, inl, inr}
use Rattle.std.specs.Prelude.{filter_map, slice_get, Option, Some, None, if◌then◌else◌}
use Rattle.std.specs.List.{AllByRecursion, cons_option}
use Rattle.std.specs.Ordering.{is_eq, is_lt}
use Rattle.std.specs.Cmp.Lexicographic.{bytes_decides}
use Rattle.dw_base.proofs.Members.{StandsIn, from_stands}
use Rattle.dw_key.specs.declared.doc_key.DocKey.{DocKey}
use Rattle.dw_key.specs.DocKeys.{doc_key_cmp}
use Rattle.dw_key.specs.KeyCode.{escaped, part_code}
use Rattle.dw_event.specs.declared.types.Types.{Types}
use Rattle.dw_nest.specs.declared.bound.Bound.{Bound}
use Rattle.dw_nest.specs.declared.bound.Bound.TheVariants.{Start, From, After}
use Rattle.dw_nest.specs.Bounds.{meets, is_before, has}
use Rattle.dw_derive.specs.Entries.{zero_joined, doc_text, field_index}
use Rattle.dw_tablet.specs.Places.{below, Ascends, AreFrom, AreBefore, between, shard_start, shard_end}
use Rattle.dw_tablet.specs.Positions.{value_start, value_end, bound_place}
use Rattle.dw_tablet.specs.Held.{Held, Agrees}
use Rattle.dw_tablet.specs.Cursors.{known_upto}
use Rattle.dw_tablet.specs.Values.{Value, value_at, is_only, is_of, kept_if, is_of_doc, some_says, docs_of}
use Rattle.dw_tablet.specs.EqualWalks.{BoundFits, EqualWalk, EqualWalksAreOrdered, of_value, walked, walked_known}
use Rattle.dw_tablet.proofs.Order.{clash, upto, below_upto, past}
use Rattle.dw_tablet.proofs.Shards.{same_front}
use Rattle.dw_tablet.proofs.Joined.{joined_on}
use Rattle.dw_tablet.proofs.Shown.{known_end}
use Rattle.dw_tablet.proofs.IndexKeys.{index_key, ValueKey, value_key, value_then, field_then}
use Rattle.dw_tablet.proofs.EqualPlaces.{before_end, by_bound, in_order, not_below_front}
use Rattle.dw_tablet.proofs.LeastDocs.{same_doc, itself, not_before_itself, least_first, none_meets, said_by}

or_right : (a b : Bool) → b ≡ true → (a || b) ≡ true
or_right true b i = refl
or_right false b i = i

-- a key of the shard
record IsIn (start end key : List ℕ) : Type 0 where
  from : below key start ≡ false
  before : below key end ≡ true

in_all : (start end : List ℕ) (keys : List (List ℕ)) → AreFrom start keys → AreBefore end keys → AllByRecursion (IsIn start end) keys
in_all start end [] h g = tt
in_all start end (k ∷ keys) h g = (record { from = h.0; before = g.0 }, in_all start end keys h.1 g.1)

both_all : (P Q : List ℕ → Type 0) (keys : List (List ℕ)) → AllByRecursion P keys → AllByRecursion Q keys → AllByRecursion (λ k. P k × Q k) keys
both_all P Q [] h g = tt
both_all P Q (k ∷ keys) h g = ((h.0, g.0), both_all P Q keys h.1 g.1)

-- what is known of the keys that say a value
record Placed (In : List ℕ → Type 0) (f : List ℕ → Option Value) (bound : Bound) (p e : List ℕ) : Type 0 where
  place : (k : List ℕ) (v : Value) → In k → f k ≡ Some v → below k p ≡ not (meets bound v.1)
  end : (k : List ℕ) (v : Value) → In k → f k ≡ Some v → below k e ≡ true
  order : (k j : List ℕ) (v w : Value) → In k → In j → f k ≡ Some v → f j ≡ Some w → below k j ≡ true → is_before w.1 v.1 ≡ false

-- the first value of a walk is of the least document
record IsLeast (f : List ℕ → Option Value) (content : List (List ℕ)) (bound : Bound) (d : DocKey) : Type 0 where
  said : some_says f content d ≡ true
  met : meets bound d ≡ true
  least : (x : DocKey) → some_says f content x ≡ true → meets bound x ≡ true → is_before x d ≡ false

module _ (In : List ℕ → Type 0) (f : List ℕ → Option Value) (bound : Bound) (p e : List ℕ) (placed : Placed In f bound p e) where
  -- a key that says nothing does not count
  passed_over : (k : List ℕ) (ks : List (List ℕ)) → f k ≡ None → filter_map f (between p e (k ∷ ks)) ≡ filter_map f (between p e ks)
  passed_over k ks h = at (not (below k p) && below k e)
    where
      at : (b : Bool) → filter_map f (cond b (k ∷ between p e ks) (between p e ks)) ≡ filter_map f (between p e ks)
      at true = ap (λ o. cons_option o (filter_map f (between p e ks))) h
      at false = refl

  -- whether a key that says a value is walked over
  taken : (k : List ℕ) (ks : List (List ℕ)) (v : Value) → In k → f k ≡ Some v
      → filter_map f (between p e (k ∷ ks)) ≡ cond (meets bound v.1) (v ∷ filter_map f (between p e ks)) (filter_map f (between p e ks))
  taken k ks v i h =
      (λ n. filter_map f (cond (not (placed.place k v i h n) && placed.end k v i h n) (k ∷ between p e ks) (between p e ks)))
      ∙ at (meets bound v.1)
    where
      at : (b : Bool) → filter_map f (cond (not (not b) && true) (k ∷ between p e ks) (between p e ks)) ≡ cond b (v ∷ filter_map f (between p e ks)) (filter_map f (between p e ks))
      at true = ap (λ o. cons_option o (filter_map f (between p e ks))) h
      at false = refl

  first_least : (content : List (List ℕ)) → Ascends content → AllByRecursion In content → (v : Value) → slice_get (filter_map f (between p e content)) 0 ≡ Some v → IsLeast f content bound v.1
  first_least [] up in_it v h = cc
  first_least (k ∷ ks) up in_it v h = at (λ g. first_least ks up.1 in_it.1 v g) (f k) refl
    where
      more : (o : Option Value) → f k ≡ o → ((x : DocKey) → meets bound x ≡ true → is_of_doc x o ≡ false) → IsLeast f ks bound v.1 → IsLeast f (k ∷ ks) bound v.1
      more o g other l = record {
        said = or_right (is_of_doc v.1 (f k)) (some_says f ks v.1) l.said;
        met = l.met;
        least = λ x s m. l.least x (sym (ap (λ b. b || some_says f ks x) (ap (is_of_doc x) g ∙ other x m)) ∙ s) m;
      }

      heads : (w : Value) (ws : List Value) → slice_get (w ∷ ws) 0 ≡ Some v → w ≡ v
      heads w ws g = cc

      here : (w : Value) → f k ≡ Some w → meets bound w.1 ≡ true → IsLeast f (k ∷ ks) bound w.1
      here w g m = record {
        said = ap (λ o. is_of_doc w.1 o || some_says f ks w.1) g ∙ ap (λ b. b || some_says f ks w.1) (itself w.1);
        met = m;
        least = λ x s n. which x (is_eq (doc_key_cmp x w.1)) refl (sym (ap (λ o. is_of_doc x o || some_says f ks x) g) ∙ s);
      }
        where
          which : (x : DocKey) (b : Bool) → is_eq (doc_key_cmp x w.1) ≡ b → (b || some_says f ks x) ≡ true → is_before x w.1 ≡ false
          which x true j s = subst (λ y. is_before y w.1 ≡ false) (sym (same_doc x w.1 j)) (not_before_itself w.1)
          which x false j s =
              let by = said_by (λ l. In l × (below k l ≡ true)) f ks x (both_all In (λ l. below k l ≡ true) ks in_it.1 up.0) s in
              placed.order k by.key w (by.value, x) in_it.0 by.holds.0 g by.is by.holds.1

      at : (slice_get (filter_map f (between p e ks)) 0 ≡ Some v → IsLeast f ks bound v.1) → (o : Option Value) → f k ≡ o → IsLeast f (k ∷ ks) bound v.1
      at later None g = more None g (λ x m. refl) (later (ap (λ l. slice_get l 0) (sym (passed_over k ks g)) ∙ h))
      at later (Some w) g = by (meets bound w.1) refl (ap (λ l. slice_get l 0) (sym (taken k ks w in_it.0 g)) ∙ h)
        where
          differs : meets bound w.1 ≡ false → (x : DocKey) → meets bound x ≡ true → is_eq (doc_key_cmp x w.1) ≡ false
          differs n x m = which (is_eq (doc_key_cmp x w.1)) refl
            where
              which : (b : Bool) → is_eq (doc_key_cmp x w.1) ≡ b → b ≡ false
              which true j = absurd (clash (subst (λ y. meets bound y ≡ true) (same_doc x w.1 j) m) n)
              which false j = refl

          by : (b : Bool) → meets bound w.1 ≡ b → slice_get (cond b (w ∷ filter_map f (between p e ks)) (filter_map f (between p e ks))) 0 ≡ Some v → IsLeast f (k ∷ ks) bound v.1
          by true m j = subst (λ (y : Value). IsLeast f (k ∷ ks) bound y.1) (heads w (filter_map f (between p e ks)) j) (here w g m)
          by false m j = more (Some w) g (differs m) (later j)

  none_left : (content : List (List ℕ)) → AllByRecursion In content → filter_map f (between p e content) ≡ [] → (x : DocKey) → some_says f content x ≡ true → meets bound x ≡ false
  none_left [] in_it h x s = cc
  none_left (k ∷ ks) in_it h x s = at (λ g t. none_left ks in_it.1 g x t) (f k) refl s
    where
      at : (filter_map f (between p e ks) ≡ [] → some_says f ks x ≡ true → meets bound x ≡ false) → (o : Option Value) → f k ≡ o → (is_of_doc x o || some_says f ks x) ≡ true → meets bound x ≡ false
      at later None g t = later (sym (passed_over k ks g) ∙ h) t
      at later (Some w) g t = by (meets bound w.1) refl (sym (taken k ks w in_it.0 g) ∙ h)
        where
          by : (b : Bool) → meets bound w.1 ≡ b → cond b (w ∷ filter_map f (between p e ks)) (filter_map f (between p e ks)) ≡ [] → meets bound x ≡ false
          by true m j = cc
          by false m j = which (is_eq (doc_key_cmp x w.1)) refl t
            where
              which : (b : Bool) → is_eq (doc_key_cmp x w.1) ≡ b → (b || some_says f ks x) ≡ true → meets bound x ≡ false
              which true i u = subst (λ y. meets bound y ≡ false) (sym (same_doc x w.1 i)) m
              which false i u = later j u

-- a value at the front of those between two places
record IsBetween (f : List ℕ → Option Value) (keys : List (List ℕ)) (p q : List ℕ) (v : Value) : Type 0 where
  key : List ℕ
  is : f key ≡ Some v
  from : below key p ≡ false
  before : below key q ≡ true
  stands : StandsIn (docs_of f keys) v.1

between_first : (f : List ℕ → Option Value) (keys : List (List ℕ)) (p q : List ℕ) (v : Value) → slice_get (filter_map f (between p q keys)) 0 ≡ Some v → IsBetween f keys p q v
between_first f [] p q v h = cc
between_first f (k ∷ ks) p q v h = at (λ j. more (between_first f ks p q v j)) (below k p) refl (below k q) refl h
  where
    more_docs : (o : Option Value) → StandsIn (docs_of f ks) v.1 → StandsIn (list_map (λ (w : Value). w.1) (cons_option o (filter_map f ks))) v.1
    more_docs None s = s
    more_docs (Some w) s = inr s

    more : IsBetween f ks p q v → IsBetween f (k ∷ ks) p q v
    more b = record { key = b.key; is = b.is; from = b.from; before = b.before; stands = more_docs (f k) b.stands }

    at : (slice_get (filter_map f (between p q ks)) 0 ≡ Some v → IsBetween f (k ∷ ks) p q v) → (b : Bool) → below k p ≡ b → (c : Bool) → below k q ≡ c
        → slice_get (filter_map f (cond (not b && c) (k ∷ between p q ks) (between p q ks))) 0 ≡ Some v → IsBetween f (k ∷ ks) p q v
    at later true g c i j = later j
    at later false g false i j = later j
    at later false g true i j = by (f k) refl j
      where
        by : (o : Option Value) → f k ≡ o → slice_get (cons_option o (filter_map f (between p q ks))) 0 ≡ Some v → IsBetween f (k ∷ ks) p q v
        by None l m = later m
        by (Some w) l m =
            let same : w ≡ v = cc in
            record { key = k; is = l ∙ ap Some same; from = g; before = i; stands = ap-stands l same }
          where
            ap-stands : f k ≡ Some w → w ≡ v → StandsIn (list_map (λ (x : Value). x.1) (cons_option (f k) (filter_map f ks))) v.1
            ap-stands r s = subst (λ o. StandsIn (list_map (λ (x : Value). x.1) (cons_option o (filter_map f ks))) v.1) (sym r) (inl (ap (λ (x : Value). x.1) s))

-- ---- the cells of one value

pub kept_some : (only : Option (List ℕ)) (types : Option Types) (o : Option Value) (v : Value) → kept_if only types o ≡ Some v → (o ≡ Some v) × (is_only only v.0 ≡ true)
kept_some only types None v h = cc
kept_some only types (Some w) v h = at (is_only only w.0) refl (is_of types w.1.dtype) h
  where
    at : (b : Bool) → is_only only w.0 ≡ b → (c : Bool) → (if b && c then Some w else None) ≡ Some v → (Some w ≡ Some v) × (is_only only v.0 ≡ true)
    at true g true i = let same : w ≡ v = cc in (i, sym (ap (λ (x : Value). is_only only x.0) same) ∙ g)
    at true g false i = cc
    at false g c i = cc

module _ (t : Held) (field : List ℕ) (names : List (List ℕ)) (snapshot : ℕ) (value : List ℕ) (types : Types) (bound : Bound) (fits : BoundFits bound) where
  abbrev f : List ℕ → Option Value
  f = of_value t field names snapshot value types bound

  abbrev In : List ℕ → Type 0
  In = IsIn (shard_start t.shard) (shard_end t.shard)

  value_is : (k : List ℕ) (v : Value) → f k ≡ Some v → (value_at field names snapshot k ≡ Some v) × (v.0 ≡ value)
  value_is k v h = let both = kept_some (Some value) (Some types) (value_at field names snapshot k) v h in (both.0, (bytes_decides v.0 value).0 both.1)

  key_of : (k : List ℕ) (v : Value) → In k → f k ≡ Some v → ValueKey t.shard field k (value, v.1)
  key_of k v i h =
      let is = value_is k v h in
      subst (λ x. ValueKey t.shard field k (x, v.1)) is.1 (value_key t.shard field k v (index_key field names snapshot k v is.0) i.from i.before)

  placed : Placed In f bound (bound_place t.shard field value bound) (value_end t.shard field value)
  placed = record {
    place = λ k v i h. by_bound t.shard field k (value, v.1) bound (key_of k v i h) fits;
    end = λ k v i h. before_end t.shard field k (value, v.1) (key_of k v i h);
    order = λ k j v w i l g h b. in_order t.shard field value k j v.1 w.1 (key_of k v i g) (key_of j w l h) b;
  }

  -- places of the value lie in the shard
  value_from : (x : List ℕ) → below (value_start t.shard field value ++ x) (shard_start t.shard) ≡ false
  value_from x =
      ap (λ p. below p (shard_start t.shard)) (value_then t.shard field value x ∙ field_then t.shard field (escaped value ++ (0 ∷ 255 ∷ x)))
      ∙ not_below_front (part_code t.shard) (part_code (zero_joined field_index field) ++ (escaped value ++ (0 ∷ 255 ∷ x)))

  empty_end : (xs : List ℕ) → xs ++ [] ≡ xs
  empty_end [] = refl
  empty_end (x ∷ xs) = ap (λ l. x ∷ l) (empty_end xs)

  bound_from : (b : Bound) → below (bound_place t.shard field value b) (shard_start t.shard) ≡ false
  bound_from Start = ap (λ p. below p (shard_start t.shard)) (sym (empty_end (value_start t.shard field value))) ∙ value_from []
  bound_from (From doc) = value_from (escaped (doc_text doc) ++ 0 ∷ 0 ∷ [])
  bound_from (After doc) = value_from (escaped (doc_text doc) ++ 0 ∷ 1 ∷ [])

  end_before : below (value_end t.shard field value) (shard_end t.shard) ≡ true
  end_before =
      let more = part_code (zero_joined field_index field) ++ (escaped value ++ 1 ∷ []) in
      ap (λ p. below p (shard_end t.shard)) (field_then t.shard field (escaped value ++ 1 ∷ []) ∙ joined_on (escaped t.shard) (0 ∷ 0 ∷ []) more)
      ∙ ap is_lt (same_front (escaped t.shard) (0 ∷ 0 ∷ more) (0 ∷ 1 ∷ []))

  known_key : (v : Value) → slice_get (walked_known t field names snapshot value types bound) 0 ≡ Some v → IsBetween f t.keys (bound_place t.shard field value bound) (known_upto t (bound_place t.shard field value bound) (value_end t.shard field value)) v
  known_key v h = between_first f t.keys (bound_place t.shard field value bound) (known_upto t (bound_place t.shard field value bound) (value_end t.shard field value)) v h

  met_key : (v : Value) → slice_get (walked_known t field names snapshot value types bound) 0 ≡ Some v → meets bound v.1 ≡ true
  met_key v h =
      let p = bound_place t.shard field value bound in
      let e = value_end t.shard field value in
      let b = known_key v h in
      let in_it : In b.key = record {
        from = upto (shard_start t.shard) p b.key (bound_from bound) b.from;
        before = past b.key e (shard_end t.shard) (below_upto b.key (known_upto t p e) e b.before (known_end t p e)) end_before;
      } in
      not_not (meets bound v.1) (sym (placed.place b.key v in_it b.is) ∙ b.from)
    where
      not_not : (b : Bool) → not b ≡ false → b ≡ true
      not_not true g = refl
      not_not false g = cc

  in_content : (content : List (List ℕ)) → Agrees t content → AllByRecursion In content
  in_content content agrees = in_all (shard_start t.shard) (shard_end t.shard) content agrees.is.from agrees.is.before

  walk : EqualWalk t field names snapshot value types bound
  walk = record {
    first = λ content all v agrees docs h.
        let l = first_least In f bound (bound_place t.shard field value bound) (value_end t.shard field value) placed content agrees.is.ascends (in_content content agrees) v h in
        least_first all bound v.1 docs.ascends (docs.has v.1 ∙ l.said) l.met (λ x s m. l.least x (sym (docs.has x) ∙ s) m);
    none = λ content all agrees docs h.
        none_meets all bound (λ x s. none_left In f bound (bound_place t.shard field value bound) (value_end t.shard field value) placed content (in_content content agrees) h x (sym (docs.has x) ∙ s));
    met = λ v h. met_key v h;
    known = λ v h. from_stands (docs_of f t.keys) v.1 (known_key v h).stands;
  }

pub equal_walks : EqualWalksAreOrdered
equal_walks t field names snapshot value types bound fits = walk t field names snapshot value types bound fits
