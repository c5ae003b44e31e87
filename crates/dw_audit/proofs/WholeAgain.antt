-- On worlds that are read from their tables.
use Rattle.std.proofs.Common.{◌≡◌, ◌⊎◌, inl, inr, ◌≤◌, ◌<◌, ◌&&◌, ◌||◌, ◌==◌, ℕ, Bool, true, false, not, nat_le, cond, List, [], ◌∷◌, map, length, refl, sym, ap, ◌∙◌, arith}
use Rattle.std.specs.Prelude.{Option, Some, None, filter, filter_map}
use Rattle.std.specs.Option.{is_some, option_and_then}
use Rattle.std.specs.List.{list_any, list_all, cons_option, AllByRecursion}
use Rattle.std.specs.FinMap.{find, get, keys, same_map}
use Rattle.std.specs.FinSet.{FinSet, contains}
use Rattle.std.proofs.lemmas.Bool.{cases_lt}
use Rattle.std.proofs.lemmas.Bool.Decides.{nat_tests}
use Rattle.dw_base.specs.Days.{names_day}
use Rattle.dw_base.specs.declared.limits.TheConstants.{MAX_CELLS, MAX_CANONICAL}
use Rattle.dw_key.specs.TypeName.{is_type_name}
use Rattle.dw_dict.specs.Dictionary.{Dictionary}
use Rattle.dw_event.specs.declared.cells.EventCell.{EventCell}
use Rattle.dw_event.specs.Records.{canon, is_cell, keeps_rules}
use Rattle.dw_event.specs.Take.{Event}
use Rattle.dw_outside.specs.declared.slot.Slot.{Slot}
use Rattle.dw_outside.specs.Tables.{Tables, HasFourTables, slot_cmp, is_slot}
use Rattle.dw_outside.proofs.CellMaps.{exact_slots, slots_total, same_slot}
use Rattle.dw_derive.specs.declared.event_cells.Entry.{Entry}
use Rattle.dw_derive.specs.declared.uid_list.Form.{Form}
use Rattle.dw_derive.specs.declared.uid_list.Form.TheVariants.{One, Two}
use Rattle.dw_derive.specs.declared.uid_list.UidList.{UidList}
use Rattle.dw_derive.specs.declared.uid_list.UidList.TheVariants.{Kept, Counted}
use Rattle.dw_derive.specs.UidLists.{form_byte, list_of, list_bytes}
use Rattle.dw_derive.specs.Entries.{slot_of, slots_of}
use Rattle.dw_derive.specs.EventsRead.{CellReading, code_says, slot_says, events_of}
use Rattle.dw_derive.specs.Lawful.{record_of, IsEvent, IsWorld}
use Rattle.dw_derive.specs.MetaTables.{MetaSaid, MetaIsRead, last_of, dict_of}
use Rattle.dw_derive.specs.Readers.{only_if}
use Rattle.dw_derive.specs.Tables.{gives, givers, uid_of, form_at, meta_cells, tables}
use Rattle.dw_derive.specs.World.{World}
use Rattle.dw_derive.proofs.Given.{Shape, entry_at, meta_cells_are_meta}
use Rattle.dw_derive.proofs.Growing.{content_at, get_tables}
use Rattle.dw_derive.proofs.Shards.{left, right, KeepsRules, rules_of}
use Rattle.dw_derive.proofs.WholeWorlds.{reads_of_world, events_are_read, each_cell, all_both, any_alike_all, none_any}
use Rattle.dw_audit.specs.WorldOf.{code_counts, readings_in, is_batch, is_kept, is_shard, stored_events, greatest_batch, last_for, begins_with_one, is_older, older_slots, world_of}
use Rattle.dw_audit.specs.Sound.{AreSound, wanted_tables}
use Rattle.dw_audit.specs.Laws.{IsReadAgain, WorldsAreRead, SoundTablesAreOfWorlds}
use Rattle.dw_audit.proofs.Passing.{all_kept, all_weaker, both, none_or, only_true}
use Rattle.dw_audit.proofs.ShardNames.{is_shard_of}
use Rattle.dw_audit.proofs.StoodFor.{contains_older, world_is}

-- ---- each cell of a world counts

broken : CellReading → Bool
broken r = not (is_cell r.cell)

kept_cell : (b : Bool) → not b ≡ false → b ≡ true
kept_cell true h = refl
kept_cell false h = cc

-- where no reading is broken each counts
all_count : (slots : List Slot) → list_any (λ r. not (is_cell r.cell)) (filter_map slot_says slots) ≡ false → readings_in slots ≡ filter_map slot_says slots
all_count [] h = refl
all_count (s ∷ slots) h = at (s.table == 0) h (all_count slots)
  where
    rest : List CellReading
    rest = filter_map slot_says slots

    said : (o : Option CellReading) → list_any (λ r. not (is_cell r.cell)) (cons_option o rest) ≡ false → (list_any (λ r. not (is_cell r.cell)) rest ≡ false → readings_in slots ≡ rest)
        → cons_option (option_and_then (λ r. only_if (is_cell r.cell) r) o) (readings_in slots) ≡ cons_option o rest
    said None h r = r h
    said (Some x) h r =
        let parts = none_or (not (is_cell x.cell)) (list_any (λ r. not (is_cell r.cell)) rest) h in
        ap (λ o. cons_option o (readings_in slots)) (only_true (is_cell x.cell) x (kept_cell (is_cell x.cell) parts.0)) ∙ ap (λ rs. x ∷ rs) (r parts.1)

    at : (b : Bool) → list_any (λ r. not (is_cell r.cell)) (cons_option (cond b (code_says s.key) None) rest) ≡ false → (list_any (λ r. not (is_cell r.cell)) rest ≡ false → readings_in slots ≡ rest)
        → cons_option (cond b (code_counts s.key) None) (readings_in slots) ≡ cons_option (cond b (code_says s.key) None) rest
    at true h r = said (code_says s.key) h r
    at false h r = r h

-- no cell of a lawful event is broken
none_broken : (e : Event) → IsEvent e → list_any (λ c. not (is_cell c)) e.1.cells ≡ false
none_broken e i =
    let rules : KeepsRules (record_of e) = rules_of (record_of e) i.rules.rules in
    any_alike_all (λ (c : EventCell). is_cell c ≡ true) (λ c. not (is_cell c)) (λ _. false) (λ c h. ap not h) e.1.cells (each_cell e.1.cells rules.cells) ∙ none_any e.1.cells

module _ (w : World) (is : IsWorld w) where
  none_of_world : list_any (λ r. not (is_cell r.cell)) (filter_map slot_says (keys (tables w))) ≡ false
  none_of_world =
      reads_of_world w is.events (λ r. not (is_cell r.cell))
      ∙ any_alike_all IsEvent _ (λ _. false) none_broken w.events is.events.lawful
      ∙ none_any w.events

  -- ---- each event is kept

  batch_is : (n : ℕ) → 1 ≤ n → n ≤ w.last → is_batch n ≡ true
  batch_is n low high = let most = is.most in grind (arith, nat_tests)

  kept : (e : Event) → IsEvent e × (e.1.batch ≤ w.last) → is_kept e ≡ true
  kept e h =
      let rec = record_of e in
      let a = is_type_name rec.dtype in
      let b = names_day rec.date in
      let c = nat_le 1 (length rec.cells) in
      let d = nat_le (length rec.cells) MAX_CELLS in
      let f = list_all is_cell rec.cells in
      let g = nat_le (length (canon rec)) MAX_CANONICAL in
      let all : keeps_rules rec ≡ true = h.0.rules.rules in
      let front : (a && b && c && d) ≡ true = left (a && b && c && d) f (left (a && b && c && d && f) g all) in
      let few : d ≡ true = right (a && b && c) d front in
      let short : g ≡ true = right (a && b && c && d && f) g all in
      let day : b ≡ true = (rules_of rec all).date in
      let number : is_batch e.1.batch ≡ true = batch_is e.1.batch h.0.first h.1 in
      both _ (is_shard e.0.shard) (both _ g (both (is_batch e.1.batch) d number few) short) (is_shard_of e.0.shard h.0.number h.0.shard day)

  pub events_again : stored_events (tables w) ≡ w.events
  events_again =
      ap (λ rs. filter is_kept (events_of rs)) (all_count (keys (tables w)) none_of_world)
      ∙ ap (filter is_kept) (events_are_read w is.events)
      ∙ all_kept is_kept w.events (all_weaker _ (λ e. is_kept e ≡ true) kept w.events (all_both IsEvent (λ (e : Event). e.1.batch ≤ w.last) w.events is.events.lawful is.batches))

  -- ---- the last number

  greatest_up : (es : List Event) → AllByRecursion (λ (e : Event). e.1.batch ≤ w.last) es → greatest_batch es ≤ w.last
  greatest_up [] h = omega arith
  greatest_up (e ∷ es) h = let r = greatest_up es h.1 in let b = h.0 in omega (arith, r, b)

  last_is : (es : List Event) → (es ≡ [] → w.last ≡ 0) → AllByRecursion (λ (e : Event). e.1.batch ≤ w.last) es → last_for w.last es ≡ w.last
  last_is [] none h = sym (none refl)
  last_is (e ∷ es) none h = let g = greatest_up (e ∷ es) h in omega (arith, g)

  module _ (meta : MetaSaid w) where
    pub last_again : last_for (last_of (tables w)) (stored_events (tables w)) ≡ w.last
    last_again = (λ i. last_for (meta.last i) (events_again i)) ∙ last_is w.events is.none.1 is.batches

    -- ---- the lists of the older form

    abbrev old : FinSet slot_cmp
    old = older_slots (tables w) (dict_of (tables w)) (stored_events (tables w))

    module _ (s : Slot) where
      abbrev given : Bool
      given = list_any (gives (slots_of w.dict) s) w.events

      first_byte : (form : Form) (l : UidList) → begins_with_one (Some (list_bytes form l)) ≡ (form_byte form == 1)
      first_byte form (Kept us) = refl
      first_byte form (Counted n) = refl

      form_told : (b : Bool) → (form_byte (cond b One Two) == 1) ≡ b
      form_told true = refl
      form_told false = refl

      old_is : contains old s ≡ (is_older (tables w) s && given)
      old_is =
          contains_older (tables w) (dict_of (tables w)) (stored_events (tables w)) s
          ∙ (λ i. is_older (tables w) s && list_any (gives (slots_of (meta.dict i)) s) (events_again i))

      list_there : (s.table == 0) ≡ false → given ≡ true → get (tables w) s ≡ Some (list_bytes (form_at w.old s) (list_of (form_at w.old s) (map uid_of (givers (slots_of w.dict) w.events s))))
      list_there z g =
          get_tables w s
          ∙ ap (λ b. cond b (Some (content_at w s)) (find slot_cmp s (meta_cells w))) g
          ∙ ap (λ b. Some (cond b [] (list_bytes (form_at w.old s) (list_of (form_at w.old s) (map uid_of (givers (slots_of w.dict) w.events s)))))) z

      same_old : (s.table == 0) ≡ false → contains old s ≡ contains w.old s
      same_old z = old_is ∙ at given refl (contains w.old s) refl
        where
          and_false : (a : Bool) → (a && false) ≡ false
          and_false true = refl
          and_false false = refl

          and_true : (a : Bool) → (a && true) ≡ a
          and_true true = refl
          and_true false = refl

          at : (b : Bool) → given ≡ b → (k : Bool) → contains w.old s ≡ k → (is_older (tables w) s && given) ≡ contains w.old s
          at true g k o =
              (λ i. (not (z i) && begins_with_one (list_there z g i)) && g i)
              ∙ and_true (begins_with_one (Some (list_bytes (form_at w.old s) (list_of (form_at w.old s) (map uid_of (givers (slots_of w.dict) w.events s))))))
              ∙ first_byte (form_at w.old s) (list_of (form_at w.old s) (map uid_of (givers (slots_of w.dict) w.events s)))
              ∙ form_told (contains w.old s)
          at false g true o = cc (g, is.events.old s o)
          at false g false o = ap (λ b. is_older (tables w) s && b) g ∙ and_false (is_older (tables w) s) ∙ sym o

      abbrev with_old : World
      with_old = record { events = w.events; dict = w.dict; grants = w.grants; last = w.last; old = old }

      same_content : content_at with_old s ≡ content_at w s
      same_content = at (s.table == 0) refl
        where
          listed : FinSet slot_cmp → List ℕ
          listed o = list_bytes (form_at o s) (list_of (form_at o s) (map uid_of (givers (slots_of w.dict) w.events s)))

          at : (b : Bool) → (s.table == 0) ≡ b → content_at with_old s ≡ content_at w s
          at true z = ap (λ b. cond b [] (listed old)) z ∙ sym (ap (λ b. cond b [] (listed w.old)) z)
          at false z = ap (λ b. cond (s.table == 0) [] (list_bytes (cond b One Two) (list_of (cond b One Two) (map uid_of (givers (slots_of w.dict) w.events s))))) (same_old z)

      same_slot_has : get (tables with_old) s ≡ get (tables w) s
      same_slot_has = get_tables with_old s ∙ ap (λ c. cond given (Some c) (find slot_cmp s (meta_cells w))) same_content ∙ sym (get_tables w s)

    pub tables_again : tables (world_of (tables w)) ≡ tables w
    unfolding world_of
    tables_again =
        (λ i. tables (record { events = events_again i; dict = meta.dict i; grants = meta.grants i; last = last_again i; old = old }))
        ∙ same_map slots_total exact_slots _ _ (λ s. same_slot_has s)

    pub read_again : IsReadAgain w
    unfolding world_of
    read_again = record { events = events_again; dict = meta.dict; grants = meta.grants; last = last_again; again = tables_again }

pub worlds_read : MetaIsRead → WorldsAreRead
worlds_read meta w is = read_again w is (meta w is)

-- ---- sound tables

pub worlds_sound : MetaIsRead → (w : World) → IsWorld w → AreSound (tables w)
worlds_sound meta w is = (worlds_read meta w is).again

low_entry : (e : Event) (n : Entry) → Shape e n → n.table ≤ 3
low_entry e n (inl z) = omega arith
low_entry e n (inr g) = by g.0
  where
    by : (n.table ≡ 1) ⊎ (n.table ≡ 2) → n.table ≤ 3
    by (inl o) = omega arith
    by (inr o) = omega arith

low_given : (dict : Dictionary) (e : Event) (s : Slot) → gives (slots_of dict) s e ≡ true → s.table ≤ 3
low_given dict e s g =
    let at : (n : Entry) × (is_slot s (slot_of n) ≡ true) × Shape e n = entry_at dict e s g in
    let same : s.table ≡ at.0.table = ap (λ (x : Slot). x.table) (same_slot s (slot_of at.0) at.1) in
    let low = low_entry e at.0 at.2 in
    omega (arith, same, low)

low_some : (dict : Dictionary) (s : Slot) (es : List Event) → list_any (gives (slots_of dict) s) es ≡ true → s.table ≤ 3
low_some dict s [] h = cc
low_some dict s (e ∷ es) h = at (gives (slots_of dict) s e) refl h (low_some dict s es)
  where
    at : (b : Bool) → gives (slots_of dict) s e ≡ b → (b || list_any (gives (slots_of dict) s) es) ≡ true → (list_any (gives (slots_of dict) s) es ≡ true → s.table ≤ 3) → s.table ≤ 3
    at true g h r = low_given dict e s g
    at false g h r = r h

low_meta : (s : Slot) (es : List (Slot × List ℕ)) → AllByRecursion (λ (e : Slot × List ℕ). e.0.table ≡ 3) es → is_some (find slot_cmp s es) ≡ true → s.table ≤ 3
low_meta s [] all h = cc
low_meta s (e ∷ es) all h = at (is_slot s e.0) refl h (low_meta s es all.1)
  where
    at : (b : Bool) → is_slot s e.0 ≡ b → is_some (cond b (Some e.1) (find slot_cmp s es)) ≡ true → (is_some (find slot_cmp s es) ≡ true → s.table ≤ 3) → s.table ≤ 3
    at true t h r = let same : s.table ≡ e.0.table = ap (λ (x : Slot). x.table) (same_slot s e.0 t) in let three = all.0 in omega (arith, same, three)
    at false t h r = r h

-- the tables of a world are the four
pub four_of_world : (w : World) → HasFourTables (tables w)
four_of_world w s h = at (list_any (gives (slots_of w.dict) s) w.events) refl (ap is_some (sym (get_tables w s)) ∙ h)
  where
    at : (b : Bool) → list_any (gives (slots_of w.dict) s) w.events ≡ b → is_some (cond (list_any (gives (slots_of w.dict) s) w.events) (Some (content_at w s)) (find slot_cmp s (meta_cells w))) ≡ true → s.table ≤ 3
    at true g k = low_some w.dict s w.events g
    at false g k = low_meta s (meta_cells w) (meta_cells_are_meta w) (ap (λ b. is_some (cond b (Some (content_at w s)) (find slot_cmp s (meta_cells w)))) (sym g) ∙ k)

nothing_above : (t : Tables) (s : Slot) → HasFourTables t → 3 < s.table → get t s ≡ None
nothing_above t s four high = at (get t s) refl
  where
    at : (o : Option (List ℕ)) → get t s ≡ o → o ≡ None
    at None e = refl
    at (Some x) e = let low = four s (ap is_some e) in absurd (omega (arith, low, high))

-- tables that are no more than four, and have in each slot of these what is wanted there, are sound
pub whole_alike : (t : Tables) → HasFourTables t → ((s : Slot) → s.table ≤ 3 → get t s ≡ get (wanted_tables t) s) → AreSound t
whole_alike t four alike = same_map slots_total exact_slots _ _ (λ s. at s (cases_lt 3 s.table))
  where
    at : (s : Slot) → (3 < s.table) ⊎ (s.table ≤ 3) → get (wanted_tables t) s ≡ get t s
    at s (inl high) = nothing_above (wanted_tables t) s (four_of_world (world_of t)) high ∙ sym (nothing_above t s four high)
    at s (inr low) = sym (alike s low)

pub sound_tables : MetaIsRead → SoundTablesAreOfWorlds
sound_tables meta = record {
  sound = λ t sound. (world_of t, (world_is t, sym sound));
  four = four_of_world;
  worlds = worlds_sound meta;
}
