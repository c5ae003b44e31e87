-- On what a field's new rule adds to the tables.
use Rattle.std.proofs.Common.{◌≡◌, ◌≢◌, ◌⊎◌, inl, inr, ◌<◌, ◌≤◌, ◌||◌, ◌&&◌, ◌==◌, ◌++◌, ℕ, Bool, true, false, not, cond, List, [], ◌∷◌, map, length, T, refl, sym, ap, subst, ◌∙◌, append_assoc, arith}
use Rattle.std.specs.Prelude.{Option, Some, None, IsTrue, filter, is_none, unwrap_or}
use Rattle.std.specs.Option.{is_some, option_or}
use Rattle.std.specs.List.{list_any, flat_map, AllByRecursion}
use Rattle.std.specs.List.Sorted.{IsStrictlySortedBy}
use Rattle.std.specs.Str.{bytes_eq}
use Rattle.std.specs.Map.{keys_of}
use Rattle.std.specs.BTreeMap.{is_at, insert_entry}
use Rattle.std.specs.Cmp.Lexicographic.{slice_cmp, nat_list_cmp_total}
use Rattle.std.specs.Ordering.{match_ordering, ordering_reverse, nat_cmp, is_eq, is_lt}
use Rattle.std.specs.FinMap.{empty, find, is_sorted, get, insert, entries, keys, len, get-insert, contains_key-keys, len-entries, entries_sorted, same_map}
use Rattle.std.specs.FinMap.Entries.{below_all}
use Rattle.std.specs.declared.cmp.Ordering.{Ordering}
use Rattle.std.specs.declared.cmp.Ordering.TheVariants.{Less, Equal, Greater}
use Rattle.std.proofs.lemmas.List.{append-nil, length-map}
use Rattle.std.specs.FinSet as set
use Rattle.std.proofs.lemmas.Bool.Decides.{nat_tests}
use Rattle.std.proofs.lemmas.List.Folds.{list_any-append}
use Rattle.std.proofs.lemmas.Map.{NonePasses}
use Rattle.std.proofs.lemmas.Map.Text.{is_eq-slice_cmp}
use Rattle.std.proofs.lemmas.Map.Lookups.{exact_bytes}
use Rattle.dw_key.specs.declared.key.Key.{Key}
use Rattle.dw_key.specs.KeyCode.{code}
use Rattle.dw_key.specs.KeyLaws.{CodesTellKeys}
use Rattle.dw_key.specs.TypeName.{is_type_name}
use Rattle.dw_norm.specs.declared.kind.Kind.{Kind}
use Rattle.dw_base.specs.FieldNames.{is_folded_name}
use Rattle.dw_norm.specs.Normal.{norm}
use Rattle.dw_norm.specs.Reversal.{rev}
use Rattle.dw_dict.specs.declared.rule.FieldRule.{FieldRule}
use Rattle.dw_dict.specs.Rules.{Widens}
use Rattle.dw_dict.specs.Dictionary.{Dictionary, rule_of, undefined}
use Rattle.dw_event.specs.declared.cells.EventCell.{EventCell}
use Rattle.dw_event.specs.declared.records.Place.{Place}
use Rattle.dw_event.specs.Places.{place_cmp}
use Rattle.dw_event.specs.Take.{Event}
use Rattle.dw_outside.specs.declared.slot.Slot.{Slot}
use Rattle.dw_outside.specs.Tables.{slot_cmp, is_slot, applied, over}
use Rattle.dw_outside.proofs.CellMaps.{exact_slots, slots_total, same_slot, tied}
use Rattle.dw_outside.proofs.Batches.{get_over, first_part, second_part}
use Rattle.dw_derive.specs.declared.event_cells.Entry.{Entry}
use Rattle.dw_derive.specs.declared.uid_list.Form.TheVariants.{One, Two}
use Rattle.dw_derive.specs.UidLists.{list_of, list_bytes}
use Rattle.dw_derive.specs.Entries.{field_index, zero_joined, event_key, field_key, global_key, forward_entries, backward_entries, index_entries, cell_entries, entries_of, slot_of, slots_of}
use Rattle.dw_derive.specs.Meta.{put_at, field_slot, rule_bytes}
use Rattle.dw_derive.specs.World.{World}
use Rattle.dw_derive.specs.Tables.{gives, uid_of, givers, content, form_at, meta_cells, tables}
use Rattle.dw_derive.specs.Lawful.{record_of, IsEvent, HasEvents}
use Rattle.dw_derive.specs.Laws.{grown, list_with}
use Rattle.dw_derive.specs.MetaTables.{with_rule}
use Rattle.dw_derive.specs.Indexing.{WiderRulesKeepWorlds, index_stepped, all_stepped, IndexesAreSteps, entries_beside, cell_adds, entries_added, slots_added, index_tables, added_tables, IndexesAreAdded, new_cells, AddedAreNew}
use Rattle.dw_derive.proofs.Lists.{any_flat, any_mapped, any_or, any_alike, all_filtered, filter_alike, filter_first, filter_second, any_inserted}
use Rattle.dw_derive.proofs.Sets.{any_filtered, same_sorted}
use Rattle.dw_derive.proofs.Maps.{get_of}
use Rattle.dw_derive.proofs.Given.{all_append, all_flat, found_all, meta_cells_are_meta, not_meta, not_zero, split}
use Rattle.dw_derive.proofs.Orders.{places_total}
use Rattle.dw_derive.proofs.Shards.{rules_of, shard_lacks}
use Rattle.dw_derive.proofs.Growing.{OneShard, content_at, get_tables, givers_more, list_grows}
use Rattle.dw_derive.proofs.Stepping.{get_applied}
use Rattle.dw_derive.proofs.Rereading.{never_meet}
use Rattle.dw_derive.proofs.MetaTableLemmas.{all_inserted, meta_has, find_rule, rule_apart, itself_there}

-- ---- the slots of the new rule are those of the old one and those that are added

or_of_two : (ri rr oi or f b : Bool) → (IsTrue oi → IsTrue ri) → (IsTrue or → IsTrue rr)
    → ((ri && f) || (rr && b)) ≡ (((oi && f) || (or && b)) || (((ri && not oi) && f) || ((rr && not or) && b)))
or_of_two true true true true f b h k = one f b
  where
    one : (f b : Bool) → (f || b) ≡ ((f || b) || false)
    one true b = refl
    one false true = refl
    one false false = refl
or_of_two true true true false f b h k = one f b
  where
    one : (f b : Bool) → (f || b) ≡ ((f || false) || b)
    one true b = refl
    one false b = refl
or_of_two true true false true f b h k = one f b
  where
    one : (f b : Bool) → (f || b) ≡ (b || (f || false))
    one true true = refl
    one true false = refl
    one false true = refl
    one false false = refl
or_of_two true true false false f b h k = refl
or_of_two true false true true f b h k = absurd (cc (k refl))
or_of_two true false true false f b h k = one f
  where
    one : (f : Bool) → (f || false) ≡ ((f || false) || false)
    one true = refl
    one false = refl
or_of_two true false false true f b h k = absurd (cc (k refl))
or_of_two true false false false f b h k = refl
or_of_two false rr true or f b h k = absurd (cc (h refl))
or_of_two false true false true f b h k = one b
  where
    one : (b : Bool) → b ≡ (b || false)
    one true = refl
    one false = refl
or_of_two false true false false f b h k = refl
or_of_two false false false true f b h k = absurd (cc (k refl))
or_of_two false false false false f b h k = refl

any_if : {A : Type 0} (p : A → Bool) (b : Bool) (xs : List A) → list_any p (cond b xs []) ≡ (b && list_any p xs)
any_if p true xs = refl
any_if p false xs = refl

or_nothing : (a : Bool) → a ≡ (a || false)
or_nothing true = refl
or_nothing false = refl

module _ (p : Entry → Bool) (old rule : FieldRule) (wide : Widens rule old) (e : Event) (c : EventCell) where
  two : (t u : Bool) (v : List ℕ) → list_any p (cond t (forward_entries e c v) [] ++ cond u (backward_entries e c v) []) ≡ ((t && list_any p (forward_entries e c v)) || (u && list_any p (backward_entries e c v)))
  two t u v =
      list_any-append p (cond t (forward_entries e c v) []) (cond u (backward_entries e c v) [])
      ∙ ap (λ b. b || list_any p (cond u (backward_entries e c v) [])) (any_if p t (forward_entries e c v))
      ∙ ap (λ b. (t && list_any p (forward_entries e c v)) || b) (any_if p u (backward_entries e c v))

  index_joined : (o : Option (List ℕ)) → list_any p (index_entries rule e c o) ≡ (list_any p (index_entries old e c o) || list_any p (entries_beside old rule e c o))
  index_joined None = refl
  index_joined (Some v) =
      two rule.indexed rule.reversed v
      ∙ or_of_two rule.indexed rule.reversed old.indexed old.reversed (list_any p (forward_entries e c v)) (list_any p (backward_entries e c v)) wide.1 wide.2
      ∙ sym (ap (λ b. b || list_any p (entries_beside old rule e c (Some v))) (two old.indexed old.reversed v)
      ∙ ap (λ b. ((old.indexed && list_any p (forward_entries e c v)) || (old.reversed && list_any p (backward_entries e c v))) || b) (two (rule.indexed && not old.indexed) (rule.reversed && not old.reversed) v))

or_behind : (a b c : Bool) → (a || (b || c)) ≡ ((a || b) || c)
or_behind true b c = refl
or_behind false b c = refl

module _ (dict : Dictionary) (field : List ℕ) (rule : FieldRule) (wide : Widens rule (rule_of dict field)) where
  abbrev old : FieldRule
  old = rule_of dict field

  abbrev next : Dictionary
  next = insert dict field rule

  abbrev adds : Event → List Slot
  adds = slots_added field old rule

  rule_next : (f : List ℕ) → rule_of next f ≡ cond (bytes_eq f field) rule (rule_of dict f)
  rule_next f = ap (λ (o : Option FieldRule). unwrap_or o undefined) (get-insert nat_list_cmp_total dict field rule f ∙ ap (λ b. cond b (Some rule) (get dict f)) (is_eq-slice_cmp f field)) ∙ at (bytes_eq f field)
    where
      at : (b : Bool) → unwrap_or (cond b (Some rule) (get dict f)) undefined ≡ cond b rule (rule_of dict f)
      at true = refl
      at false = refl

  same_field : (f : List ℕ) → bytes_eq f field ≡ true → f ≡ field
  same_field f h = exact_bytes f field (tied (slice_cmp nat_cmp f field) (is_eq-slice_cmp f field ∙ h))

  cell_joined : (p : Entry → Bool) (e : Event) (c : EventCell) → list_any p (cell_entries next e c) ≡ (list_any p (cell_entries dict e c) || list_any p (cell_adds field old rule e c))
  cell_joined p e c =
      ap (λ r. p here || list_any p (index_entries r e c (norm r.kind c.raw))) (rule_next c.field)
      ∙ at (bytes_eq c.field field) refl
    where
      here : Entry
      here = record { table = 0; key = event_key e c }

      at : (b : Bool) → bytes_eq c.field field ≡ b → (p here || list_any p (index_entries (cond b rule (rule_of dict c.field)) e c (norm (cond b rule (rule_of dict c.field)).kind c.raw)))
          ≡ ((p here || list_any p (index_entries (rule_of dict c.field) e c (norm (rule_of dict c.field).kind c.raw))) || list_any p (cond b (entries_beside old rule e c (norm rule.kind c.raw)) []))
      at true h =
          let mine : rule_of dict c.field ≡ old = ap (rule_of dict) (same_field c.field h) in
          ap (λ b. p here || b) (index_joined p old rule wide e c (norm rule.kind c.raw))
          ∙ or_behind (p here) (list_any p (index_entries old e c (norm rule.kind c.raw))) (list_any p (entries_beside old rule e c (norm rule.kind c.raw)))
          ∙ ap (λ b. (p here || b) || list_any p (entries_beside old rule e c (norm rule.kind c.raw)))
          (ap (λ (k : Kind). list_any p (index_entries old e c (norm k c.raw))) wide.0 ∙ ap (λ (r : FieldRule). list_any p (index_entries r e c (norm r.kind c.raw))) (sym mine))
      at false h = or_nothing (p here || list_any p (index_entries (rule_of dict c.field) e c (norm (rule_of dict c.field).kind c.raw)))

  pub gives_joined : (s : Slot) (e : Event) → gives (slots_of next) s e ≡ (gives (slots_of dict) s e || gives adds s e)
  gives_joined s e =
      any_mapped (is_slot s) slot_of (entries_of next e) ∙ any_flat p (cell_entries next e) e.1.cells
      ∙ any_alike _ _ (cell_joined p e) e.1.cells
      ∙ any_or (λ c. list_any p (cell_entries dict e c)) (λ c. list_any p (cell_adds field old rule e c)) e.1.cells
      ∙ sym (ap (λ b. b || gives adds s e) (any_mapped (is_slot s) slot_of (entries_of dict e) ∙ any_flat p (cell_entries dict e) e.1.cells)
      ∙ ap (λ b. list_any (λ c. list_any p (cell_entries dict e c)) e.1.cells || b) (any_mapped (is_slot s) slot_of (entries_added field old rule e) ∙ any_flat p (cell_adds field old rule e) e.1.cells))
    where
      p : Entry → Bool
      p n = is_slot s (slot_of n)

-- ---- which field a slot of an index is of

-- where a cell of an index stands
abbrev Under : Event → Entry → EventCell → List ℕ → Type 0
Under e n c v = ((n.table ≡ 0) × (n.key ≡ field_key e c v)) ⊎ ((n.table ≢ 0) × (n.key ≡ global_key e c v))

-- a cell of an index of the event, in a table and of a field of which something holds
record IndexShape (On : ℕ → List ℕ → Type 0) (e : Event) (n : Entry) : Type 0 where
  pub cell : EventCell
  pub value : List ℕ
  pub on : On n.table cell.field
  pub under : Under e n cell value

-- or the cell of the event itself
abbrev EntryShape : (ℕ → List ℕ → Type 0) → Event → Entry → Type 0
EntryShape On e n = ((n.table ≡ 0) × ((c : EventCell) × (n.key ≡ event_key e c))) ⊎ IndexShape On e n

-- the rule of a field gives cells in the table
abbrev GivesIn : FieldRule → ℕ → Type 0
GivesIn r table = ((table ≢ 2) × (r.indexed ≡ true)) ⊎ ((table ≡ 2) × (r.reversed ≡ true))

-- and does not
abbrev LacksIn : FieldRule → ℕ → Type 0
LacksIn r table = ((table ≢ 2) × (r.indexed ≡ false)) ⊎ ((table ≡ 2) × (r.reversed ≡ false))

apart_in : {A : Type 0} (r : FieldRule) (table : ℕ) → GivesIn r table → LacksIn r table → A
apart_in r table (inl g) (inl l) = cc (g.1, l.1)
apart_in r table (inl g) (inr l) = absurd (g.0 l.0)
apart_in r table (inr g) (inl l) = absurd (l.0 g.0)
apart_in r table (inr g) (inr l) = cc (g.1, l.1)

zero_or_one : (n : ℕ) → n < 2 → n ≢ 2
zero_or_one n l = λ e. omega (arith, e)

not_none : (n : ℕ) → 0 < n → n ≢ 0
not_none n l = λ e. omega (arith, l, e)

module _ (On : ℕ → List ℕ → Type 0) (e : Event) (c : EventCell) where
  forward_shapes : (v : List ℕ) → On 0 c.field → On 1 c.field → AllByRecursion (IndexShape On e) (forward_entries e c v)
  forward_shapes v zeroth first =
      (record { cell = c; value = v; on = zeroth; under = inl (refl, refl) }, (record { cell = c; value = v; on = first; under = inr (not_none 1 (omega arith), refl) }, tt))

  backward_shapes : (v : List ℕ) → On 2 c.field → AllByRecursion (IndexShape On e) (backward_entries e c v)
  backward_shapes v second = (record { cell = c; value = rev v; on = second; under = inr (not_none 2 (omega arith), refl) }, tt)

  if_shapes : (b : Bool) (ns : List Entry) → (b ≡ true → AllByRecursion (IndexShape On e) ns) → AllByRecursion (IndexShape On e) (cond b ns [])
  if_shapes true ns h = h refl
  if_shapes false ns h = tt

index_shapes : (On : ℕ → List ℕ → Type 0) (rule : FieldRule) (e : Event) (c : EventCell) → ((table : ℕ) → GivesIn rule table → On table c.field) → (o : Option (List ℕ)) → AllByRecursion (IndexShape On e) (index_entries rule e c o)
index_shapes On rule e c on None = tt
index_shapes On rule e c on (Some v) = all_append (IndexShape On e) (cond rule.indexed (forward_entries e c v) []) (cond rule.reversed (backward_entries e c v) [])
    (if_shapes On e c rule.indexed (forward_entries e c v) (λ i. forward_shapes On e c v (on 0 (inl (zero_or_one 0 (omega arith), i))) (on 1 (inl (zero_or_one 1 (omega arith), i)))))
    (if_shapes On e c rule.reversed (backward_entries e c v) (λ r. backward_shapes On e c v (on 2 (inr (refl, r)))))

all_with : {A : Type 0} (P Q : A → Type 0) → ((x : A) → P x → Q x) → (xs : List A) → AllByRecursion P xs → AllByRecursion Q xs
all_with P Q f [] h = tt
all_with P Q f (x ∷ xs) h = (f x h.0, all_with P Q f xs h.1)

abbrev Given : Dictionary → ℕ → List ℕ → Type 0
Given dict table f = GivesIn (rule_of dict f) table

-- the cells that an event gives by a dictionary
entry_shapes : (dict : Dictionary) (e : Event) → AllByRecursion (EntryShape (Given dict) e) (entries_of dict e)
entry_shapes dict e = all_flat (EntryShape (Given dict) e) (cell_entries dict e)
    (λ c. (
      inl (refl, (c, refl)),
      all_with (IndexShape (Given dict) e) (EntryShape (Given dict) e) (λ n h. inr h) (index_entries (rule_of dict c.field) e c (norm (rule_of dict c.field).kind c.raw))
          (index_shapes (Given dict) (rule_of dict c.field) e c (λ table g. g) (norm (rule_of dict c.field).kind c.raw)),
    )) e.1.cells

-- where two truths hold, the second is of a falsehood
both_true : (a b : Bool) → (a && not b) ≡ true → b ≡ false
both_true true true h = cc
both_true true false h = refl
both_true false b h = cc

abbrev Added : List ℕ → FieldRule → ℕ → List ℕ → Type 0
Added field old table f = (f ≡ field) × LacksIn old table × (table ≤ 2)

-- those that a new rule adds
added_shapes : (field : List ℕ) (old rule : FieldRule) → ((f : List ℕ) → bytes_eq f field ≡ true → f ≡ field) → (e : Event) → AllByRecursion (IndexShape (Added field old) e) (entries_added field old rule e)
added_shapes field old rule same e = all_flat (IndexShape (Added field old) e) (cell_adds field old rule e) (λ c. mine c (bytes_eq c.field field) refl (norm rule.kind c.raw)) e.1.cells
  where
    beside : (c : EventCell) → c.field ≡ field → (o : Option (List ℕ)) → AllByRecursion (IndexShape (Added field old) e) (entries_beside old rule e c o)
    beside c f None = tt
    beside c f (Some v) = all_append (IndexShape (Added field old) e) (cond (rule.indexed && not old.indexed) (forward_entries e c v) []) (cond (rule.reversed && not old.reversed) (backward_entries e c v) [])
        (if_shapes (Added field old) e c (rule.indexed && not old.indexed) (forward_entries e c v)
        (λ i. forward_shapes (Added field old) e c v (f, inl (zero_or_one 0 (omega arith), both_true rule.indexed old.indexed i), omega arith) (f, inl (zero_or_one 1 (omega arith), both_true rule.indexed old.indexed i), omega arith)))
        (if_shapes (Added field old) e c (rule.reversed && not old.reversed) (backward_entries e c v) (λ r. backward_shapes (Added field old) e c v (f, inr (refl, both_true rule.reversed old.reversed r), omega arith)))

    mine : (c : EventCell) (b : Bool) → bytes_eq c.field field ≡ b → (o : Option (List ℕ)) → AllByRecursion (IndexShape (Added field old) e) (cond b (entries_beside old rule e c o) [])
    mine c true h o = beside c (same c.field h) o
    mine c false h o = tt

-- ---- no slot is both given and added

is_type : (e : Event) → IsEvent e → is_type_name e.0.key.dtype ≡ true
is_type e h = (rules_of (record_of e) h.rules.rules).dtype

fields_alike : (a b : List ℕ) → zero_joined field_index a ≡ zero_joined field_index b → a ≡ b
fields_alike a b e = (split field_index field_index a b refl refl e).1

module _ (tell : CodesTellKeys) (dict : Dictionary) (field : List ℕ) (rule : FieldRule) (wide : Widens rule (rule_of dict field)) where
  abbrev oldest : FieldRule
  oldest = rule_of dict field

  abbrev pub added : Event → List Slot
  added = slots_added field oldest rule

  -- an entry of a slot that is added
  added_at : (s : Slot) (e : Event) → gives added s e ≡ true → (n : Entry) × (is_slot s (slot_of n) ≡ true) × IndexShape (Added field oldest) e n
  added_at s e h = found_all (IndexShape (Added field oldest) e) (λ n. is_slot s (slot_of n)) (entries_added field oldest rule e) (added_shapes field oldest rule (same_field dict field rule wide) e)
      (sym (any_mapped (is_slot s) slot_of (entries_added field oldest rule e)) ∙ h)

  module _ {A : Type 0} (d e : Event) (i : IsEvent d) (j : IsEvent e) (n m : Entry) (t : n.table ≡ m.table) (k : code n.key ≡ code m.key) where
    own : (b : EventCell) → n.table ≡ 0 → n.key ≡ event_key d b → (c : EventCell) (v : List ℕ) → Under e m c v → A
    own b z nk c v (inl there) = absurd (never_meet d e b c v (is_type d i) (tell (event_key d b) (field_key e c v) i.most j.most (ap code (sym nk) ∙ k ∙ ap code there.1)))
    own b z nk c v (inr some) = absurd (some.0 (sym t ∙ z))

    of_field : (b c : EventCell) → GivesIn (rule_of dict b.field) n.table → b.field ≡ c.field → c.field ≡ field → LacksIn oldest m.table → A
    of_field b c g same mine lacks =
        let P : List ℕ → Type 0 = λ f. GivesIn (rule_of dict f) m.table in
        apart_in oldest m.table (subst P (same ∙ mine) (subst (GivesIn (rule_of dict b.field)) t g)) lacks

    index : (b : EventCell) (u : List ℕ) → GivesIn (rule_of dict b.field) n.table → (c : EventCell) (v : List ℕ) → c.field ≡ field → LacksIn oldest m.table → Under d n b u → Under e m c v → A
    index b u g c v mine lacks (inl there) (inl there2) =
        let key : field_key d b u ≡ field_key e c v = tell (field_key d b u) (field_key e c v) i.most j.most (ap code (sym there.1) ∙ k ∙ ap code there2.1) in
        of_field b c g (fields_alike b.field c.field (ap (λ (x : Key). x.family) key)) mine lacks
    index b u g c v mine lacks (inl there) (inr some) = absurd (some.0 (sym t ∙ there.0))
    index b u g c v mine lacks (inr some) (inl there) = absurd (some.0 (t ∙ there.0))
    index b u g c v mine lacks (inr some) (inr some2) =
        let key : global_key d b u ≡ global_key e c v = tell (global_key d b u) (global_key e c v) (omega arith) (omega arith) (ap code (sym some.1) ∙ k ∙ ap code some2.1) in
        of_field b c g (ap (λ (x : Key). x.family) key) mine lacks

    never : EntryShape (Given dict) d n → IndexShape (Added field oldest) e m → A
    never (inl o) x = own o.1.0 o.0 o.1.1 x.cell x.value x.under
    never (inr g) x = index g.cell g.value g.on x.cell x.value x.on.0 x.on.1 g.under x.under

  pub apart : {A : Type 0} (s : Slot) (d e : Event) → IsEvent d → IsEvent e → gives (slots_of dict) s d ≡ true → gives added s e ≡ true → A
  apart s d e i j g h =
      let given : (n : Entry) × (is_slot s (slot_of n) ≡ true) × EntryShape (Given dict) d n =
      found_all (EntryShape (Given dict) d) (λ n. is_slot s (slot_of n)) (entries_of dict d) (entry_shapes dict d) (sym (any_mapped (is_slot s) slot_of (entries_of dict d)) ∙ g) in
      let new : (n : Entry) × (is_slot s (slot_of n) ≡ true) × IndexShape (Added field oldest) e n = added_at s e h in
      let slots : slot_of given.0 ≡ slot_of new.0 = sym (same_slot s (slot_of given.0) given.1) ∙ same_slot s (slot_of new.0) new.1 in
      never d e i j given.0 new.0 (ap (λ (x : Slot). x.table) slots) (ap (λ (x : Slot). x.key) slots) given.2 new.2

  -- who gives one slot of a list is of one shard and type
  pub added_shard : (s : Slot) → (s.table == 0) ≡ false → OneShard added s
  added_shard s t d e i j g h =
      let a = global d g in
      let b = global e h in
      let same : global_key d a.0 a.1.0 ≡ global_key e b.0 b.1.0 = tell (global_key d a.0 a.1.0) (global_key e b.0 b.1.0) (omega arith) (omega arith) (sym a.1.1 ∙ b.1.1) in
      split d.0.shard e.0.shard d.0.key.dtype e.0.key.dtype (shard_lacks d i) (shard_lacks e j) (ap (λ (k : Key). k.qualifier) same)
    where
      at : (d : Event) (n : Entry) → s ≡ slot_of n → (c : EventCell) (v : List ℕ) → Under d n c v → (c : EventCell) × ((v : List ℕ) × (s.key ≡ code (global_key d c v)))
      at d n slot c v (inl there) = not_zero s.table t (ap (λ (x : Slot). x.table) slot ∙ there.0)
      at d n slot c v (inr some) = (c, (v, ap (λ (x : Slot). x.key) slot ∙ ap code some.1))

      global : (d : Event) → gives added s d ≡ true → (c : EventCell) × ((v : List ℕ) × (s.key ≡ code (global_key d c v)))
      global d g =
          let new : (n : Entry) × (is_slot s (slot_of n) ≡ true) × IndexShape (Added field oldest) d n = added_at s d g in
          at d new.0 (same_slot s (slot_of new.0) new.1) new.2.cell new.2.value new.2.under

  -- no slot of table 3 is added
  pub added_below : (s : Slot) (e : Event) → gives added s e ≡ true → s.table ≤ 2
  added_below s e g =
      let new : (n : Entry) × (is_slot s (slot_of n) ≡ true) × IndexShape (Added field oldest) e n = added_at s e g in
      let same : s.table ≡ new.0.table = ap (λ (x : Slot). x.table) (same_slot s (slot_of new.0) new.1) in
      let low = new.2.on.2 in
      omega (arith, same, low)

-- ---- what these tables have

pub get_index : (slots : Event → List Slot) (es : List Event) (s : Slot) → get (index_tables slots es) s ≡ cond (list_any (gives slots s) es) (Some (content (λ s. Two) slots es s)) None
unfolding index_tables
get_index slots es s =
    get_of exact_slots slots_total (content (λ s. Two) slots es) (flat_map slots es) s
    ∙ ap (λ b. cond b (Some (content (λ s. Two) slots es s)) None) (any_flat (is_slot s) slots es)

-- the puts of an event's slots make the tables with that event
pub index_step : (slots : Event → List Slot) → ((s : Slot) → (s.table == 0) ≡ false → OneShard slots s) → (es : List Event) → IsStrictlySortedBy place_cmp (keys_of es) → AllByRecursion IsEvent es
    → (e : Event) → NonePasses (is_at (place_cmp e.0)) es → IsEvent e
    → applied (map (λ s. put_at s (grown s (get (index_tables slots es) s) (uid_of e))) (slots e)) (index_tables slots es) ≡ index_tables slots (insert_entry place_cmp es e.0 e.1)
index_step slots one es up lawful e fresh event = same_map slots_total exact_slots _ _ (λ q.
    get_applied (λ s. grown s (get (index_tables slots es) s) (uid_of e)) (slots e) (index_tables slots es) q
    ∙ at q (gives slots q e) refl
    ∙ sym (get_index slots (insert_entry place_cmp es e.0 e.1) q ∙ ap (λ b. cond b (Some (after q)) None) (any_inserted place_cmp (gives slots q) es e.0 e.1 fresh)))
  where
    after : Slot → List ℕ
    after q = content (λ s. Two) slots (insert_entry place_cmp es e.0 e.1) q

    given : (q : Slot) → gives slots q e ≡ true → (b : Bool) → (q.table == 0) ≡ b → cond b [] (list_with (get (index_tables slots es) q) (uid_of e)) ≡ cond b [] (list_bytes Two (list_of Two (map uid_of (givers slots (insert_entry place_cmp es e.0 e.1) q))))
    given q g true t = refl
    given q g false t =
        ap (λ o. list_with o (uid_of e)) (get_index slots es q ∙ ap (λ c. cond (list_any (gives slots q) es) (Some (cond c [] (list_bytes Two (list_of Two (map uid_of (givers slots es q)))))) None) t)
        ∙ list_grows slots q es up e fresh (one q t) lawful event Two g (λ n. refl)

    at : (q : Slot) (b : Bool) → gives slots q e ≡ b → cond b (Some (grown q (get (index_tables slots es) q) (uid_of e))) (get (index_tables slots es) q) ≡ cond (b || list_any (gives slots q) es) (Some (after q)) None
    at q true g = ap (λ c. Some c) (given q g (q.table == 0) refl)
    at q false g =
        get_index slots es q
        ∙ ap (λ ds. cond (list_any (gives slots q) es) (Some (cond (q.table == 0) [] (list_bytes Two (list_of Two (map uid_of ds))))) None)
        (sym (givers_more slots q es up e fresh ∙ ap (λ b. cond b (insert_entry place_cmp (givers slots es q) e.0 e.1) (givers slots es q)) g))

-- ---- keys in order

less : (o : Ordering) → T (is_lt o) → o ≡ Less
less Less h = refl
less Equal h = absurd h
less Greater h = absurd h

below_keys : (k : Slot) (es : List (Slot × List ℕ)) → T (below_all slot_cmp k es) → AllByRecursion (λ y. slot_cmp k y ≡ Less) (keys_of es)
below_keys k [] h = tt
below_keys k (e ∷ es) h = (less (slot_cmp k e.0) (first_part _ _ h), below_keys k es (second_part (is_lt (slot_cmp k e.0)) _ h))

keys_sorted : (es : List (Slot × List ℕ)) → T (is_sorted slot_cmp es) → IsStrictlySortedBy slot_cmp (keys_of es)
unfolding IsStrictlySortedBy
keys_sorted [] h = tt
keys_sorted (e ∷ es) h = (below_keys e.0 es (first_part _ _ h), keys_sorted es (second_part (below_all slot_cmp e.0 es) _ h))

filter_sorted : (p : Slot → Bool) (ss : List Slot) → IsStrictlySortedBy slot_cmp ss → IsStrictlySortedBy slot_cmp (filter p ss)
unfolding IsStrictlySortedBy
filter_sorted p [] h = tt
filter_sorted p (s ∷ ss) h = at (p s) (filter_sorted p ss h.1)
  where
    at : (b : Bool) → IsStrictlySortedBy slot_cmp (filter p ss) → IsStrictlySortedBy slot_cmp (cond b (s ∷ filter p ss) (filter p ss))
    at true r = (all_filtered (λ y. slot_cmp s y ≡ Less) p ss h.0, r)
    at false r = r

-- ---- the tables of a world with a new rule

or_true : (a : Bool) → (a || true) ≡ true
or_true true = refl
or_true false = refl

or_false : (a : Bool) → (a || false) ≡ a
or_false true = refl
or_false false = refl

module _ (tell : CodesTellKeys) (w : World) (field : List ℕ) (rule : FieldRule) (has : HasEvents w) (wide : Widens rule (rule_of w.dict field)) where
  abbrev ruled : World
  ruled = with_rule w field rule

  abbrev given : Event → List Slot
  given = slots_of w.dict

  abbrev fresh : Event → List Slot
  fresh = slots_added field (rule_of w.dict field) rule

  any_joined : (s : Slot) → list_any (gives (slots_of ruled.dict) s) w.events ≡ (list_any (gives given s) w.events || list_any (gives fresh s) w.events)
  any_joined s = any_alike _ _ (gives_joined w.dict field rule wide s) w.events ∙ any_or (gives given s) (gives fresh s) w.events

  -- where a slot is added it is not given
  not_both : (s : Slot) → list_any (gives fresh s) w.events ≡ true → list_any (gives given s) w.events ≡ false
  not_both s h = at (list_any (gives given s) w.events) refl
    where
      at : (b : Bool) → list_any (gives given s) w.events ≡ b → b ≡ false
      at true g =
          let d : (d : Event) × (gives given s d ≡ true) × IsEvent d = found_all IsEvent (gives given s) w.events has.lawful g in
          let e : (e : Event) × (gives fresh s e ≡ true) × IsEvent e = found_all IsEvent (gives fresh s) w.events has.lawful h in
          apart tell w.dict field rule wide s d.0 e.0 d.2 e.2 d.1 e.1
      at false g = refl

  givers_joined : (s : Slot) → givers (slots_of ruled.dict) w.events s ≡ filter (λ e. gives given s e || gives fresh s e) w.events
  givers_joined s = filter_alike _ _ (gives_joined w.dict field rule wide s) w.events

  newer : (s : Slot) (b : Bool) → set.contains w.old s ≡ b → list_any (gives given s) w.events ≡ false → cond b One Two ≡ Two
  newer s true o h = cc (has.old s o, h)
  newer s false o h = refl

  content_added : (s : Slot) → list_any (gives fresh s) w.events ≡ true → content_at ruled s ≡ content (λ s. Two) fresh w.events s
  content_added s h =
      let none : list_any (gives given s) w.events ≡ false = not_both s h in
      ap (λ ds. cond (s.table == 0) [] (list_bytes (form_at w.old s) (list_of (form_at w.old s) (map uid_of ds)))) (givers_joined s ∙ filter_second (gives given s) (gives fresh s) w.events none)
      ∙ ap (λ f. cond (s.table == 0) [] (list_bytes f (list_of f (map uid_of (givers fresh w.events s))))) (newer s (set.contains w.old s) refl none)

  content_kept : (s : Slot) → list_any (gives fresh s) w.events ≡ false → content_at ruled s ≡ content_at w s
  content_kept s h =
      ap (λ ds. cond (s.table == 0) [] (list_bytes (form_at w.old s) (list_of (form_at w.old s) (map uid_of ds)))) (givers_joined s ∙ filter_first (gives given s) (gives fresh s) w.events h)

  -- a slot that is added, and any other
  get_added : (s : Slot) → list_any (gives fresh s) w.events ≡ true → get (tables ruled) s ≡ Some (content (λ s. Two) fresh w.events s)
  get_added s h =
      get_tables ruled s
      ∙ ap (λ b. cond b (Some (content_at ruled s)) (find slot_cmp s (meta_cells ruled))) (any_joined s ∙ ap (λ b. list_any (gives given s) w.events || b) h ∙ or_true (list_any (gives given s) w.events))
      ∙ ap (λ c. Some c) (content_added s h)

  get_kept : (s : Slot) → is_slot s (field_slot field) ≡ false → list_any (gives fresh s) w.events ≡ false → get (tables ruled) s ≡ get (tables w) s
  get_kept s t h =
      get_tables ruled s
      ∙ ap (λ b. cond b (Some (content_at ruled s)) (find slot_cmp s (meta_cells ruled))) (any_joined s ∙ ap (λ b. list_any (gives given s) w.events || b) h ∙ or_false (list_any (gives given s) w.events))
      ∙ ap (λ c. cond (list_any (gives given s) w.events) (Some c) (find slot_cmp s (meta_cells ruled))) (content_kept s h)
      ∙ ap (cond (list_any (gives given s) w.events) (Some (content_at w s))) (sym (rule_apart w field rule s t))
      ∙ sym (get_tables w s)

  pub index_added : insert (over (added_tables w field rule) (tables w)) (field_slot field) (rule_bytes rule) ≡ tables ruled
  index_added = same_map slots_total exact_slots _ _ (λ s.
      get-insert slots_total (over (added_tables w field rule) (tables w)) (field_slot field) (rule_bytes rule) s
      ∙ at s (is_slot s (field_slot field)) refl)
    where
      by : (s : Slot) → is_slot s (field_slot field) ≡ false → (b : Bool) → list_any (gives fresh s) w.events ≡ b → option_or (cond b (Some (content (λ s. Two) fresh w.events s)) None) (get (tables w) s) ≡ get (tables ruled) s
      by s t true h = sym (get_added s h)
      by s t false h = sym (get_kept s t h)

      at : (s : Slot) (b : Bool) → is_slot s (field_slot field) ≡ b → cond b (Some (rule_bytes rule)) (get (over (added_tables w field rule) (tables w)) s) ≡ get (tables ruled) s
      at s true t =
          let same : s ≡ field_slot field = same_slot s (field_slot field) t in
          sym (meta_has ruled s (ap (λ (x : Slot). x.table) same) ∙ ap (λ x. find slot_cmp x (meta_cells ruled)) same ∙ find_rule ruled field rule (itself_there w.dict field rule))
      at s false t =
          get_over (added_tables w field rule) (tables w) s
          ∙ ap (λ o. option_or o (get (tables w) s)) (get_index fresh w.events s)
          ∙ by s t (list_any (gives fresh s) w.events) refl

  -- ---- how many are new

  abbrev is_new : Slot → Bool
  is_new s = not (s.table == 3) && is_none (get (tables w) s)

  three : (n : ℕ) → (n == 3) ≡ true → n ≡ 3
  three n e = grind (arith, nat_tests)

  low : (n : ℕ) → n ≤ 2 → (n == 3) ≡ false
  low n l = grind (arith, nat_tests)

  table_of_added : (s : Slot) → list_any (gives fresh s) w.events ≡ true → s.table ≤ 2
  table_of_added s h = let e : (e : Event) × (gives fresh s e ≡ true) × IsEvent e = found_all IsEvent (gives fresh s) w.events has.lawful h in added_below tell w.dict field rule wide s e.0 e.1

  new_is : (s : Slot) → (is_new s && is_some (get (tables ruled) s)) ≡ list_any (gives fresh s) w.events
  new_is s = at (list_any (gives fresh s) w.events) refl
    where
      both : (b : Bool) (o : Option (List ℕ)) → ((b && is_none o) && is_some o) ≡ false
      both true None = refl
      both true (Some x) = refl
      both false o = refl

      kept : (b : Bool) → (s.table == 3) ≡ b → list_any (gives fresh s) w.events ≡ false → ((not b && is_none (get (tables w) s)) && is_some (get (tables ruled) s)) ≡ false
      kept true t h = refl
      kept false t h = ap (λ o. (true && is_none (get (tables w) s)) && is_some o) (get_kept s (other (is_slot s (field_slot field)) refl t) h) ∙ both true (get (tables w) s)
        where
          other : (b : Bool) → is_slot s (field_slot field) ≡ b → (s.table == 3) ≡ false → b ≡ false
          other true e f = let same : s.table ≡ 3 = ap (λ (x : Slot). x.table) (same_slot s (field_slot field) e) in absurd (grind (arith, nat_tests))
          other false e f = refl

      at : (b : Bool) → list_any (gives fresh s) w.events ≡ b → (is_new s && is_some (get (tables ruled) s)) ≡ b
      at true h =
          let t : (s.table == 3) ≡ false = low s.table (table_of_added s h) in
          let none : get (tables w) s ≡ None =
          get_tables w s ∙ ap (λ b. cond b (Some (content_at w s)) (find slot_cmp s (meta_cells w))) (not_both s h)
          ∙ not_meta s (λ e. absurd (let l = table_of_added s h in omega (arith, l, e))) (meta_cells w) (meta_cells_are_meta w) in
          ap (λ o. (not (s.table == 3) && is_none o) && is_some (get (tables ruled) s)) none
          ∙ ap (λ b. (not b && true) && is_some (get (tables ruled) s)) t
          ∙ ap is_some (get_added s h)
      at false h = kept (s.table == 3) refl h

  and_at : (q : Slot) (xs : List Slot) → list_any (λ x. is_new x && is_slot q x) xs ≡ (is_new q && list_any (is_slot q) xs)
  and_at q xs = any_alike _ _ (λ x. one x (is_slot q x) refl) xs ∙ and_any (is_new q) (is_slot q) xs
    where
      none : (b : Bool) → (b && false) ≡ false
      none true = refl
      none false = refl

      one : (x : Slot) (b : Bool) → is_slot q x ≡ b → (is_new x && is_slot q x) ≡ (is_new q && is_slot q x)
      one x true e = ap (λ z. is_new z && is_slot q x) (sym (same_slot q x e))
      one x false e = ap (λ b. is_new x && b) e ∙ none (is_new x) ∙ sym (ap (λ b. is_new q && b) e ∙ none (is_new q))

      and_any : {A : Type 0} (b : Bool) (p : A → Bool) (xs : List A) → list_any (λ x. b && p x) xs ≡ (b && list_any p xs)
      and_any true p xs = refl
      and_any false p xs = nothing xs
        where
          nothing : {A : Type 0} (xs : List A) → list_any (λ _. false) xs ≡ false
          nothing [] = refl
          nothing (x ∷ xs) = nothing xs

  keys_are_new : keys (added_tables w field rule) ≡ filter is_new (keys (tables ruled))
  keys_are_new = same_sorted slot_cmp exact_slots slots_total _ _ (keys_sorted (entries (added_tables w field rule)) (entries_sorted (added_tables w field rule)))
      (filter_sorted is_new (keys (tables ruled)) (keys_sorted (entries (tables ruled)) (entries_sorted (tables ruled))))
      (λ q.
      sym (contains_key-keys (added_tables w field rule) q) ∙ ap is_some (get_index fresh w.events q) ∙ some_at (list_any (gives fresh q) w.events) (content (λ s. Two) fresh w.events q)
      ∙ sym (any_filtered (is_slot q) is_new (keys (tables ruled)) ∙ and_at q (keys (tables ruled)) ∙ ap (λ b. is_new q && b) (sym (contains_key-keys (tables ruled) q)) ∙ new_is q))
    where
      some_at : (b : Bool) (x : List ℕ) → is_some (cond b (Some x) None) ≡ b
      some_at true x = refl
      some_at false x = refl

  pub added_new : len (added_tables w field rule) ≡ new_cells (tables w) (tables ruled)
  added_new =
      len-entries (added_tables w field rule) ∙ sym (length-map (entries (added_tables w field rule)) (λ (e : Slot × List ℕ). e.0)) ∙ ap length keys_are_new

pub indexes_added : CodesTellKeys → IndexesAreAdded
indexes_added tell w field rule has wide = index_added tell w field rule has wide

pub added_are_new : CodesTellKeys → AddedAreNew
added_are_new tell w field rule has wide = added_new tell w field rule has wide

-- ---- event by event

module _ (e : Event) where
  -- what stands before an event, and that it is below it
  all_before : (P : Place → Type 0) (done rest : List Event) → AllByRecursion P (keys_of (done ++ e ∷ rest)) → AllByRecursion P (keys_of done) × P e.0
  all_before P [] rest h = (tt, h.0)
  all_before P (d ∷ done) rest h = let r = all_before P done rest h.1 in ((h.0, r.0), r.1)

  pub before : (done rest : List Event) → IsStrictlySortedBy place_cmp (keys_of (done ++ e ∷ rest)) → IsStrictlySortedBy place_cmp (keys_of done) × AllByRecursion (λ (d : Event). place_cmp d.0 e.0 ≡ Less) done
  unfolding IsStrictlySortedBy
  before [] rest h = (tt, tt)
  before (d ∷ done) rest h =
      let first = all_before (λ y. place_cmp d.0 y ≡ Less) done rest h.0 in
      let more = before done rest h.1 in
      ((first.0, more.0), (first.1, more.1))

  pub above : (d : Event) → place_cmp d.0 e.0 ≡ Less → place_cmp e.0 d.0 ≡ Greater
  above d h = places_total.antisymm e.0 d.0 ∙ ap ordering_reverse h

  pub none_at : (done : List Event) → AllByRecursion (λ (d : Event). place_cmp d.0 e.0 ≡ Less) done → NonePasses (is_at (place_cmp e.0)) done
  none_at [] h = tt
  none_at (d ∷ done) h = (ap is_eq (above d h.0), none_at done h.1)

  pub insert_last : (done : List Event) → AllByRecursion (λ (d : Event). place_cmp d.0 e.0 ≡ Less) done → insert_entry place_cmp done e.0 e.1 ≡ done ++ e ∷ []
  insert_last [] h = refl
  insert_last (d ∷ done) h =
      ap (λ o. match_ordering o ((e.0, e.1) ∷ d ∷ done) ((d.0, e.1) ∷ done) (d ∷ insert_entry place_cmp done e.0 e.1)) (above d h.0)
      ∙ ap (λ (es : List Event). d ∷ es) (insert_last done h.1)

  pub lawful_parts : (done rest : List Event) → AllByRecursion IsEvent (done ++ e ∷ rest) → AllByRecursion IsEvent done × IsEvent e
  lawful_parts [] rest h = (tt, h.0)
  lawful_parts (d ∷ done) rest h = let r = lawful_parts done rest h.1 in ((h.0, r.0), r.1)

steps_from : (slots : Event → List Slot) → ((s : Slot) → (s.table == 0) ≡ false → OneShard slots s) → (rest done : List Event) → IsStrictlySortedBy place_cmp (keys_of (done ++ rest)) → AllByRecursion IsEvent (done ++ rest)
    → all_stepped slots rest (index_tables slots done) ≡ index_tables slots (done ++ rest)
steps_from slots one [] done up lawful = ap (index_tables slots) (sym (append-nil done))
steps_from slots one (e ∷ rest) done up lawful =
    let ready : IsStrictlySortedBy place_cmp (keys_of done) × AllByRecursion (λ (d : Event). place_cmp d.0 e.0 ≡ Less) done = before e done rest up in
    let parts : AllByRecursion IsEvent done × IsEvent e = lawful_parts e done rest lawful in
    let same : (done ++ e ∷ []) ++ rest ≡ done ++ e ∷ rest = append_assoc done (e ∷ []) rest in
    let now : index_stepped slots e (index_tables slots done) ≡ index_tables slots (done ++ e ∷ []) =
    index_step slots one done ready.0 parts.0 e (none_at e done ready.1) parts.1 ∙ ap (index_tables slots) (insert_last e done ready.1) in
    ap (all_stepped slots rest) now
    ∙ steps_from slots one rest (done ++ e ∷ []) (subst (λ (es : List Event). IsStrictlySortedBy place_cmp (keys_of es)) (sym same) up) (subst (AllByRecursion IsEvent) (sym same) lawful)
    ∙ ap (index_tables slots) same

no_events : (slots : Event → List Slot) → index_tables slots [] ≡ empty
unfolding index_tables
no_events slots = refl

pub index_steps : CodesTellKeys → IndexesAreSteps
index_steps tell w field rule has wide =
    ap (all_stepped (slots_added field (rule_of w.dict field) rule) w.events) (sym (no_events (slots_added field (rule_of w.dict field) rule)))
    ∙ steps_from (slots_added field (rule_of w.dict field) rule) (added_shard tell w.dict field rule wide) w.events [] has.ascend has.lawful

pub wider_keeps : WiderRulesKeepWorlds
wider_keeps w field rule wide is folded = record {
  events = record {
    ascend = is.events.ascend;
    lawful = is.events.lawful;
    old = λ s h.
        any_alike _ _ (gives_joined w.dict field rule wide s) w.events
        ∙ any_or (gives (slots_of w.dict) s) (gives (slots_added field (rule_of w.dict field) rule) s) w.events
        ∙ ap (λ b. b || list_any (gives (slots_added field (rule_of w.dict field) rule) s) w.events) (is.events.old s h);
  };
  fields = all_inserted (λ f. IsTrue (is_folded_name f.0)) field rule w.dict folded is.fields;
  grants = is.grants;
  batches = is.batches;
  none = is.none;
  most = is.most;
}
