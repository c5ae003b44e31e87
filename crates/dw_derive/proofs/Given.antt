-- On the slots that an event gives.
use Rattle.std.proofs.Common.{◌≡◌, ◌||◌, ◌&&◌, ◌==◌, ◌⊎◌, inl, inr, ℕ, zero, suc, Bool, true, false, not, cond, List, [], ◌∷◌, ◌++◌, map, refl, sym, ap, ◌∙◌, arith}
use Rattle.std.specs.Prelude.{Option, Some, None}
use Rattle.std.specs.List.{list_any, flat_map, AllByRecursion}
use Rattle.std.specs.FinMap as finmap
use Rattle.std.proofs.lemmas.Bool.Decides.{nat_tests}
use Rattle.dw_key.specs.declared.key.Key.{Key}
use Rattle.dw_key.specs.KeyCode.{code}
use Rattle.dw_key.specs.KeyLaws.{CodesTellKeys}
use Rattle.dw_norm.specs.Normal.{norm}
use Rattle.dw_norm.specs.Reversal.{rev}
use Rattle.dw_dict.specs.declared.rule.FieldRule.{FieldRule}
use Rattle.dw_dict.specs.Dictionary.{Dictionary, rule_of}
use Rattle.dw_event.specs.declared.cells.EventCell.{EventCell}
use Rattle.dw_event.specs.Names.{lacks_zero}
use Rattle.dw_event.specs.Take.{Event}
use Rattle.dw_outside.specs.declared.slot.Slot.{Slot}
use Rattle.dw_outside.specs.Tables.{slot_cmp, is_slot}
use Rattle.dw_outside.proofs.CellMaps.{same_slot}
use Rattle.dw_derive.specs.declared.event_cells.Entry.{Entry}
use Rattle.dw_derive.specs.Entries.{global_key, forward_entries, backward_entries, index_entries, cell_entries, entries_of, slot_of, slots_of}
use Rattle.dw_derive.specs.World.{World}
use Rattle.dw_derive.specs.Meta.{commit_slot}
use Rattle.dw_derive.specs.Tables.{gives, commit_cells, field_cell, grant_cell, meta_cells}
use Rattle.dw_derive.proofs.Lists.{any_mapped}

-- ---- lists

pub all_append : {A : Type 0} (P : A → Type 0) (xs ys : List A) → AllByRecursion P xs → AllByRecursion P ys → AllByRecursion P (xs ++ ys)
all_append P [] ys h k = k
all_append P (x ∷ xs) ys h k = (h.0, all_append P xs ys h.1 k)

pub all_mapped : {A B : Type 0} (P : B → Type 0) (f : A → B) → ((x : A) → P (f x)) → (xs : List A) → AllByRecursion P (map f xs)
all_mapped P f h [] = tt
all_mapped P f h (x ∷ xs) = (h x, all_mapped P f h xs)

pub all_flat : {A B : Type 0} (P : B → Type 0) (f : A → List B) → ((x : A) → AllByRecursion P (f x)) → (xs : List A) → AllByRecursion P (flat_map f xs)
all_flat P f h [] = tt
all_flat P f h (x ∷ xs) = all_append P (f x) (flat_map f xs) (h x) (all_flat P f h xs)

-- what passes a test is among those of which something holds
pub found_all : {A : Type 0} (P : A → Type 0) (p : A → Bool) (xs : List A) → AllByRecursion P xs → list_any p xs ≡ true → (x : A) × (p x ≡ true) × P x
found_all P p [] all h = cc
found_all {A = A} P p (x ∷ xs) all h = at (p x) refl h (found_all P p xs all.1)
  where
    at : (b : Bool) → p x ≡ b → (b || list_any p xs) ≡ true → (list_any p xs ≡ true → (y : A) × (p y ≡ true) × P y) → (y : A) × (p y ≡ true) × P y
    at true e h r = (x, e, all.0)
    at false e h r = r h

-- ---- what the entries of an event are

-- an entry of table 0, or one of a global index
abbrev pub Shape : Event → Entry → Type 0
Shape e n = (n.table ≡ 0) ⊎ (((n.table ≡ 1) ⊎ (n.table ≡ 2)) × ((c : EventCell) × ((v : List ℕ) × (n.key ≡ global_key e c v))))

abbrev global_shape : (e : Event) (c : EventCell) (v : List ℕ) → (c' : EventCell) × ((v' : List ℕ) × (global_key e c v ≡ global_key e c' v'))
global_shape e c v = (c, (v, refl))

index_shapes : (rule : FieldRule) (e : Event) (c : EventCell) (o : Option (List ℕ)) → AllByRecursion (Shape e) (index_entries rule e c o)
index_shapes rule e c None = tt
index_shapes rule e c (Some v) = all_append (Shape e) (cond rule.indexed (forward_entries e c v) []) (cond rule.reversed (backward_entries e c v) []) (forward rule.indexed) (backward rule.reversed)
  where
    forward : (b : Bool) → AllByRecursion (Shape e) (cond b (forward_entries e c v) [])
    forward true = (inl refl, (inr (inl refl, global_shape e c v), tt))
    forward false = tt

    backward : (b : Bool) → AllByRecursion (Shape e) (cond b (backward_entries e c v) [])
    backward true = (inr (inr refl, global_shape e c (rev v)), tt)
    backward false = tt

pub shapes : (dict : Dictionary) (e : Event) → AllByRecursion (Shape e) (entries_of dict e)
shapes dict e = all_flat (Shape e) (cell_entries dict e) (λ c. (inl refl, index_shapes (rule_of dict c.field) e c (norm (rule_of dict c.field).kind c.raw))) e.1.cells

-- an entry of a slot that an event gives
pub entry_at : (dict : Dictionary) (e : Event) (s : Slot) → gives (slots_of dict) s e ≡ true → (n : Entry) × (is_slot s (slot_of n) ≡ true) × Shape e n
entry_at dict e s g = found_all (Shape e) (λ n. is_slot s (slot_of n)) (entries_of dict e) (shapes dict e) (sym (any_mapped (is_slot s) slot_of (entries_of dict e)) ∙ g)

pub not_zero : {A : Type 0} (n : ℕ) → (n == 0) ≡ false → n ≡ 0 → A
not_zero n h e = absurd (grind (arith, nat_tests))

-- events give no slot of table 3
pub below_three : {A : Type 0} (dict : Dictionary) (e : Event) (s : Slot) → gives (slots_of dict) s e ≡ true → s.table ≡ 3 → A
below_three {A = A} dict e s g t =
    let at : (n : Entry) × (is_slot s (slot_of n) ≡ true) × Shape e n = entry_at dict e s g in
    let same : s.table ≡ at.0.table = ap (λ (x : Slot). x.table) (same_slot s (slot_of at.0) at.1) in
    elim at.2 as (λ _. A) [
      | inl z ↦ absurd (omega arith)
      | inr g ↦ by g.0 same
    ]
  where
    by : {n : ℕ} → (n ≡ 1) ⊎ (n ≡ 2) → s.table ≡ n → A
    by {n = n} (inl o) q = absurd (omega arith)
    by {n = n} (inr o) q = absurd (omega arith)

-- a slot of an index is the code of a key that says shard and type
pub global_at : (dict : Dictionary) (e : Event) (s : Slot) → (s.table == 0) ≡ false → gives (slots_of dict) s e ≡ true → (c : EventCell) × ((v : List ℕ) × (s.key ≡ code (global_key e c v)))
global_at dict e s t g =
    let at : (n : Entry) × (is_slot s (slot_of n) ≡ true) × Shape e n = entry_at dict e s g in
    let same : s ≡ slot_of at.0 = same_slot s (slot_of at.0) at.1 in
    elim at.2 as (λ _. (c : EventCell) × ((v : List ℕ) × (s.key ≡ code (global_key e c v)))) [
      | inl z ↦ not_zero s.table t (ap (λ (x : Slot). x.table) same ∙ z)
      | inr g ↦ (g.1.0, (g.1.1.0, ap (λ (x : Slot). x.key) same ∙ ap code g.1.1.1))
    ]

-- ---- texts around a byte 0

pub no_zero : {A : Type 0} (x : ℕ) (xs : List ℕ) → lacks_zero (x ∷ xs) ≡ true → 0 ≡ x → A
no_zero zero xs h e = cc
no_zero (suc n) xs h e = absurd (omega arith)

pub rest_lacks : (x : ℕ) (xs : List ℕ) → lacks_zero (x ∷ xs) ≡ true → lacks_zero xs ≡ true
rest_lacks x xs h = at (not (x == 0)) h
  where
    at : (b : Bool) → (b && lacks_zero xs) ≡ true → lacks_zero xs ≡ true
    at true h = h
    at false h = cc

-- at its first byte 0 a text splits in one way
pub split : (a b s t : List ℕ) → lacks_zero a ≡ true → lacks_zero b ≡ true → a ++ 0 ∷ s ≡ b ++ 0 ∷ t → (a ≡ b) × (s ≡ t)
split [] [] s t p q e = (refl, cc)
split [] (y ∷ b) s t p q e = no_zero y b q cc
split (x ∷ a) [] s t p q e = no_zero x a p cc
split (x ∷ a) (y ∷ b) s t p q e =
    let r : (a ≡ b) × (s ≡ t) = split a b s t (rest_lacks x a p) (rest_lacks y b q) cc in
    let h : x ≡ y = cc in
    ((λ i. h i ∷ r.0 i), r.1)

-- events that give one slot of an index are of one shard and type
pub one_shard : CodesTellKeys → (dict : Dictionary) (s : Slot) (d e : Event) → lacks_zero d.0.shard ≡ true → lacks_zero e.0.shard ≡ true → (s.table == 0) ≡ false → gives (slots_of dict) s d ≡ true → gives (slots_of dict) s e ≡ true
    → (d.0.shard ≡ e.0.shard) × (d.0.key.dtype ≡ e.0.key.dtype)
one_shard tell dict s d e i j t g h =
    let a : (c : EventCell) × ((v : List ℕ) × (s.key ≡ code (global_key d c v))) = global_at dict d s t g in
    let b : (c : EventCell) × ((v : List ℕ) × (s.key ≡ code (global_key e c v))) = global_at dict e s t h in
    let same : global_key d a.0 a.1.0 ≡ global_key e b.0 b.1.0 = tell (global_key d a.0 a.1.0) (global_key e b.0 b.1.0) (omega arith) (omega arith) (sym a.1.1 ∙ b.1.1) in
    split d.0.shard e.0.shard d.0.key.dtype e.0.key.dtype i j (ap (λ (k : Key). k.qualifier) same)

-- ---- the cells of table 3

abbrev IsMeta : Slot × List ℕ → Type 0
IsMeta e = e.0.table ≡ 3

commit_is_meta : (b : Bool) (bytes : List ℕ) → AllByRecursion IsMeta (cond b [] ((commit_slot, bytes) ∷ []))
commit_is_meta true bytes = tt
commit_is_meta false bytes = (refl, tt)

pub meta_cells_are_meta : (w : World) → AllByRecursion IsMeta (meta_cells w)
meta_cells_are_meta w =
    all_append IsMeta _ (map grant_cell (finmap.entries w.grants))
    (all_append IsMeta (commit_cells w.last) (map field_cell (finmap.entries w.dict)) (commit_is_meta (w.last == 0) _) (all_mapped IsMeta field_cell (λ f. refl) (finmap.entries w.dict)))
    (all_mapped IsMeta grant_cell (λ g. refl) (finmap.entries w.grants))

-- no cell of table 3 stands in a slot of another table
pub not_meta : (s : Slot) → (s.table ≡ 3 → ⊥) → (es : List (Slot × List ℕ)) → AllByRecursion IsMeta es → finmap.find slot_cmp s es ≡ None
not_meta s h [] all = refl
not_meta s h (e ∷ es) all = at (is_slot s e.0) refl (not_meta s h es all.1)
  where
    at : (b : Bool) → is_slot s e.0 ≡ b → finmap.find slot_cmp s es ≡ None → cond b (Some e.1) (finmap.find slot_cmp s es) ≡ None
    at true q r = absurd (h (ap (λ (x : Slot). x.table) (same_slot s e.0 q) ∙ all.0))
    at false q r = r
