-- What a test finds in the content of a shard of a world, cell by cell of its events.
use Rattle.std.proofs.Common.{◌≡◌, ◌||◌, ◌&&◌, ◌==◌, ◌++◌, ℕ, Bool, true, false, nat_eq, cond, List, [], ◌∷◌, map, refl, sym, ap, subst, ◌∙◌, append_assoc}
use Rattle.std.specs.Prelude.{Option, Some, None}
use Rattle.std.specs.Option.{option_map_or}
use Rattle.std.specs.List.{list_any, list_all, filter, starts_with, AllByRecursion}
use Rattle.std.specs.List.Sorted.{IsStrictlySortedBy}
use Rattle.std.specs.Map.{lookup, keys_of}
use Rattle.std.specs.BTreeMap.{is_at}
use Rattle.std.specs.FinMap.{entries}
use Rattle.std.specs.Ordering.{is_eq}
use Rattle.std.specs.declared.cmp.Ordering.{Ordering}
use Rattle.std.specs.declared.cmp.Ordering.TheVariants.{Less, Equal, Greater}
use Rattle.std.proofs.lemmas.Map.Keys.{sorted_head, sorted_tail}
use Rattle.dw_key.specs.declared.key.Key.{Key}
use Rattle.dw_key.specs.KeyCode.{escaped, part_code, code_of, code}
use Rattle.dw_key.proofs.Prefixes.{no_part_behind}
use Rattle.dw_dict.specs.declared.rule.FieldRule.{FieldRule}
use Rattle.dw_dict.specs.Dictionary.{Dictionary, rule_of}
use Rattle.dw_norm.specs.Normal.{norm}
use Rattle.dw_event.specs.declared.cells.EventCell.{EventCell}
use Rattle.dw_event.specs.declared.records.Place.{Place}
use Rattle.dw_event.specs.declared.records.Held.{Held}
use Rattle.dw_event.specs.Places.{place_cmp}
use Rattle.dw_event.specs.Records.{is_cell}
use Rattle.dw_event.specs.Take.{Event}
use Rattle.dw_outside.specs.declared.slot.Slot.{Slot}
use Rattle.dw_outside.specs.Tables.{is_in_span, span_of}
use Rattle.dw_outside.proofs.Spanning.{prefix_span}
use Rattle.dw_derive.specs.Entries.{event_key, field_key, forward_entries, backward_entries, index_entries, cell_entries, entries_of, slot_of, slots_of}
use Rattle.dw_derive.specs.ReaderLaws.{IsDocKey}
use Rattle.dw_derive.specs.World.{World}
use Rattle.dw_derive.specs.Tables.{tables}
use Rattle.dw_derive.specs.Lawful.{record_of, IsEvent}
use Rattle.dw_derive.proofs.Lists.{any_mapped, any_alike, any_flat}
use Rattle.dw_derive.proofs.Sets.{any_filtered}
use Rattle.dw_derive.proofs.Shards.{left, right, KeepsRules, rules_of}
use Rattle.dw_derive.proofs.Stepping.{any_cell}
use Rattle.dw_derive.proofs.Reading.{exact_places, begins_with, begins}
use Rattle.dw_tablet.specs.Places.{shard_start, shard_end}
use Rattle.dw_scan.specs.Worlds.{content_of}

and_assoc : (a b c : Bool) → ((a && b) && c) ≡ (a && (b && c))
and_assoc true b c = refl
and_assoc false b c = refl

or_none : (a : Bool) → (a || false) ≡ a
or_none true = refl
or_none false = refl

pub and_any : {A : Type 0} (b : Bool) (f : A → Bool) (xs : List A) → list_any (λ x. b && f x) xs ≡ (b && list_any f xs)
and_any true f xs = refl
and_any false f [] = refl
and_any false f (x ∷ xs) = and_any false f xs

pub alike_where : {A : Type 0} (P : A → Type 0) (f g : A → Bool) → ((x : A) → P x → f x ≡ g x) → (xs : List A) → AllByRecursion P xs → list_any f xs ≡ list_any g xs
alike_where P f g h [] all = refl
alike_where P f g h (x ∷ xs) all = ap (λ b. b || list_any f xs) (h x all.0) ∙ ap (λ b. g x || b) (alike_where P f g h xs all.1)

-- ---- which keys lie in the shard

front_zero : (shard : List ℕ) → (escaped shard ++ 0 ∷ []) ++ 0 ∷ [] ≡ shard_start shard
front_zero shard = append_assoc (escaped shard) (0 ∷ []) (0 ∷ [])

front_one : (shard : List ℕ) → (escaped shard ++ 0 ∷ []) ++ 1 ∷ [] ≡ shard_end shard
front_one shard = append_assoc (escaped shard) (0 ∷ []) (1 ∷ [])

abbrev pub in_shard : List ℕ → List ℕ → Bool
in_shard shard key = is_in_span (shard_start shard) (shard_end shard) key

in_shard_is : (shard key : List ℕ) → in_shard shard key ≡ starts_with nat_eq key (shard_start shard)
in_shard_is shard key =
    (λ i. is_in_span (sym (front_zero shard) i) (sym (front_one shard) i) key)
    ∙ prefix_span (escaped shard ++ 0 ∷ []) 0 key
    ∙ ap (λ xs. starts_with nat_eq key xs) (front_zero shard)

-- those whose row it is
pub row_within : (shard : List ℕ) (k : Key) → k.row ≡ shard → in_shard shard (code k) ≡ true
row_within shard k r =
    let tail = code_of (k.family ∷ k.qualifier ∷ k.vis ∷ []) k.stamp in
    in_shard_is shard (code k)
    ∙ ap (λ row. starts_with nat_eq (part_code row ++ tail) (shard_start shard)) r
    ∙ begins (shard_start shard) tail

-- and no others
pub within_row : (shard : List ℕ) (k : Key) → in_shard shard (code k) ≡ true → k.row ≡ shard
within_row shard k h =
    let b : (rest : List ℕ) × (code k ≡ shard_start shard ++ rest) = begins_with (code k) (shard_start shard) (sym (in_shard_is shard (code k)) ∙ h) in
    (no_part_behind k.row shard _ _ b.1).0

-- ---- a test over the content

module _ (w : World) (shard : List ℕ) (test : List ℕ → Bool) where
  -- the slot is of table 0 and in the shard, and its key passes
  abbrev pub at_slot : Slot → Bool
  at_slot s = (s.table == 0) && (in_shard shard s.key && test s.key)

  abbrev inside : Slot × List ℕ → Bool
  inside e = (e.0.table == 0) && in_shard shard e.0.key

  none_there : (n : ℕ) (c : Bool) → n ≡ 3 → ((n == 0) && c) ≡ false
  none_there n c t = ap (λ k. (k == 0) && c) t

  -- it finds a key where it finds one among the slots of the events
  pub found_in : list_any test (content_of w shard) ≡ list_any (λ e. list_any at_slot (slots_of w.dict e)) w.events
  found_in =
      any_mapped test (λ (c : List ℕ × List ℕ). c.0) (span_of 0 (shard_start shard) (shard_end shard) (tables w))
      ∙ any_mapped (λ (c : List ℕ × List ℕ). test c.0) (λ (e : Slot × List ℕ). (e.0.key, e.1)) (filter inside (entries (tables w)))
      ∙ any_filtered (λ (e : Slot × List ℕ). test e.0.key) inside (entries (tables w))
      ∙ any_alike _ _ (λ e. and_assoc (e.0.table == 0) (in_shard shard e.0.key) (test e.0.key)) (entries (tables w))
      ∙ sym (any_mapped at_slot (λ (e : Slot × List ℕ). e.0) (entries (tables w)))
      ∙ any_cell w at_slot (λ s t. none_there s.table _ t)

  -- ---- among the slots of one event

  abbrev pub at_event_cell : Event → EventCell → Bool
  at_event_cell e c = in_shard shard (code (event_key e c)) && test (code (event_key e c))

  abbrev pub at_index_cell : Event → EventCell → List ℕ → Bool
  at_index_cell e c v = in_shard shard (code (field_key e c v)) && test (code (field_key e c v))

  -- what it finds in the field index for a normal form
  abbrev pub at_index : FieldRule → Event → EventCell → Option (List ℕ) → Bool
  at_index rule e c o = rule.indexed && option_map_or (at_index_cell e c) o false

  map-append : {A B : Type 0} (f : A → B) (xs ys : List A) → map f (xs ++ ys) ≡ map f xs ++ map f ys
  map-append f [] ys = refl
  map-append f (x ∷ xs) ys = ap (λ zs. f x ∷ zs) (map-append f xs ys)

  any-append : {A : Type 0} (p : A → Bool) (xs ys : List A) → list_any p (xs ++ ys) ≡ (list_any p xs || list_any p ys)
  any-append p [] ys = refl
  any-append p (x ∷ xs) ys = ap (λ b. p x || b) (any-append p xs ys) ∙ shift (p x) (list_any p xs) (list_any p ys)
    where
      shift : (a b c : Bool) → (a || (b || c)) ≡ ((a || b) || c)
      shift true b c = refl
      shift false b c = refl

  forward : (e : Event) (c : EventCell) (v : List ℕ) (b : Bool) → list_any at_slot (map slot_of (cond b (forward_entries e c v) [])) ≡ (b && at_index_cell e c v)
  forward e c v true = or_none (at_index_cell e c v)
  forward e c v false = refl

  backward : (e : Event) (c : EventCell) (v : List ℕ) (b : Bool) → list_any at_slot (map slot_of (cond b (backward_entries e c v) [])) ≡ false
  backward e c v true = refl
  backward e c v false = refl

  and_false : (a : Bool) → false ≡ (a && false)
  and_false true = refl
  and_false false = refl

  indexed : (rule : FieldRule) (e : Event) (c : EventCell) (o : Option (List ℕ)) → list_any at_slot (map slot_of (index_entries rule e c o)) ≡ at_index rule e c o
  indexed rule e c None = and_false rule.indexed
  indexed rule e c (Some v) =
      ap (list_any at_slot) (map-append slot_of (cond rule.indexed (forward_entries e c v) []) (cond rule.reversed (backward_entries e c v) []))
      ∙ any-append at_slot (map slot_of (cond rule.indexed (forward_entries e c v) [])) (map slot_of (cond rule.reversed (backward_entries e c v) []))
      ∙ ap (λ t. t || list_any at_slot (map slot_of (cond rule.reversed (backward_entries e c v) []))) (forward e c v rule.indexed)
      ∙ ap (λ t. (rule.indexed && at_index_cell e c v) || t) (backward e c v rule.reversed)
      ∙ or_none (rule.indexed && at_index_cell e c v)

  -- the cell of the event, and the one of its normal form
  abbrev pub at_cell : Dictionary → Event → EventCell → Bool
  at_cell dict e c = at_event_cell e c || at_index (rule_of dict c.field) e c (norm (rule_of dict c.field).kind c.raw)

  pub of_event : (dict : Dictionary) (e : Event) → list_any at_slot (slots_of dict e) ≡ list_any (at_cell dict e) e.1.cells
  of_event dict e =
      any_mapped at_slot slot_of (entries_of dict e)
      ∙ any_flat (λ n. at_slot (slot_of n)) (cell_entries dict e) e.1.cells
      ∙ any_alike _ _
      (λ c.
      sym (any_mapped at_slot slot_of (cell_entries dict e c))
      ∙ ap (λ t. at_slot (slot_of (record { table = 0; key = event_key e c })) || t) (indexed (rule_of dict c.field) e c (norm (rule_of dict c.field).kind c.raw))) e.1.cells

-- ---- what events have

each_cell : (cells : List EventCell) → list_all is_cell cells ≡ true → AllByRecursion (λ (c : EventCell). is_cell c ≡ true) cells
each_cell [] h = tt
each_cell (c ∷ cells) h = (left (is_cell c) (list_all is_cell cells) h, each_cell cells (right (is_cell c) (list_all is_cell cells) h))

pub cells_of_event : (e : Event) → IsEvent e → AllByRecursion (λ (c : EventCell). is_cell c ≡ true) e.1.cells
cells_of_event e i = let r : KeepsRules (record_of e) = rules_of (record_of e) i.rules.rules in each_cell e.1.cells r.cells

pub doc_of_event : (e : Event) → IsEvent e → IsDocKey e.0.key
doc_of_event e i = let r : KeepsRules (record_of e) = rules_of (record_of e) i.rules.rules in record { dtype = r.dtype; uid = i.uid }

-- ---- the event of a place

module _ (p : Place) (passes : Held → Bool) where
  abbrev is_there : Event → Bool
  is_there e = is_eq (place_cmp p e.0) && passes e.1

  none_further : (es : List Event) → AllByRecursion (λ (y : Place). place_cmp p y ≡ Less) (keys_of es) → list_any is_there es ≡ false
  none_further [] h = refl
  none_further (e ∷ es) h = ap (λ o. (is_eq o && passes e.1) || list_any is_there es) h.0 ∙ none_further es h.1

  pub found_at : (es : List Event) → IsStrictlySortedBy place_cmp (keys_of es) → list_any is_there es ≡ option_map_or passes (lookup (is_at (place_cmp p)) es) false
  found_at [] s = refl
  found_at (e ∷ es) s = at (place_cmp p e.0) refl (found_at es (sorted_tail place_cmp e.0 (keys_of es) s)) (none_further es)
    where
      below : place_cmp p e.0 ≡ Equal → AllByRecursion (λ (y : Place). place_cmp p y ≡ Less) (keys_of es)
      below h = let same : p ≡ e.0 = exact_places p e.0 h in let P : Place → Type 0 = λ x. AllByRecursion (λ (y : Place). place_cmp x y ≡ Less) (keys_of es) in subst P (sym same) (sorted_head place_cmp e.0 (keys_of es) s)

      at : (o : Ordering) → place_cmp p e.0 ≡ o → list_any is_there es ≡ option_map_or passes (lookup (is_at (place_cmp p)) es) false
          → (AllByRecursion (λ (y : Place). place_cmp p y ≡ Less) (keys_of es) → list_any is_there es ≡ false)
          → ((is_eq o && passes e.1) || list_any is_there es) ≡ option_map_or passes (cond (is_eq o) (Some e.1) (lookup (is_at (place_cmp p)) es)) false
      at Less h r n = r
      at Equal h r n = ap (λ t. passes e.1 || t) (n (below h)) ∙ or_none (passes e.1)
      at Greater h r n = r
