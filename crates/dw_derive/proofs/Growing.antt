-- On what one event more makes of the tables.
use Rattle.std.proofs.Common.{◌≡◌, ◌<◌, ◌≤◌, ◌+◌, ◌||◌, ◌==◌, ℕ, Bool, true, false, cond, nat_le, nat_lt, List, [], ◌∷◌, ◌++◌, map, length, refl, sym, ap, ◌∙◌, arith}
use Rattle.std.specs.Prelude.{Option, Some, None, Ok, min}
use Rattle.std.specs.Option.{option_or}
use Rattle.std.specs.List.{list_any, flat_map, filter, AllByRecursion}
use Rattle.std.specs.List.Sorted.{IsStrictlySortedBy}
use Rattle.std.specs.Map.{keys_of}
use Rattle.std.specs.BTreeMap.{is_at, insert_entry}
use Rattle.std.specs.BTreeSet.{insert_key}
use Rattle.std.specs.FinMap.{find, get, get-from_entries}
use Rattle.std.specs.FinSet as set
use Rattle.std.specs.declared.cmp.Ordering.TheVariants.{Less}
use Rattle.std.proofs.lemmas.Map.{NonePasses, none_passes_from_lookup}
use Rattle.std.proofs.lemmas.List.{length-map}
use Rattle.std.proofs.lemmas.Bool.Decides.{nat_tests}
use Rattle.dw_key.specs.KeyLaws.{CodesTellKeys}
use Rattle.dw_event.specs.declared.records.Place.{Place}
use Rattle.dw_event.specs.Places.{place_cmp}
use Rattle.dw_event.specs.Take.{Event}
use Rattle.dw_base.specs.Ascending.{IsAscending}
use Rattle.dw_outside.specs.declared.slot.Slot.{Slot}
use Rattle.dw_outside.specs.Tables.{slot_cmp, is_slot}
use Rattle.dw_outside.proofs.CellMaps.{exact_slots, slots_total}
use Rattle.dw_derive.specs.declared.uid_list.Form.{Form}
use Rattle.dw_derive.specs.declared.uid_list.Form.TheVariants.{One, Two}
use Rattle.dw_derive.specs.declared.uid_list.UidList.TheVariants.{Kept, Counted}
use Rattle.dw_derive.specs.UidLists.{uid_cmp, cap, largest_count, list_of, added, list_bytes, list_read, IsUid, IsListOf}
use Rattle.dw_derive.specs.Entries.{slots_of}
use Rattle.dw_derive.specs.World.{World}
use Rattle.dw_derive.specs.Tables.{gives, uid_of, givers, content, event_cells, form_at, meta_cells, tables}
use Rattle.dw_derive.specs.Lawful.{IsEvent, HasEvents, IsFree, with_event}
use Rattle.dw_derive.specs.Laws.{list_after, list_with, grown}
use Rattle.dw_derive.proofs.Lists.{any_flat, filter_none, all_pass, any_inserted, length_inserted, map_inserted, filter_inserted, all_filtered}
use Rattle.dw_derive.proofs.Maps.{find_of}
use Rattle.dw_derive.proofs.Given.{below_three, one_shard, meta_cells_are_meta, not_meta}
use Rattle.dw_derive.proofs.Orders.{places_total, place_by_uid}
use Rattle.dw_derive.proofs.Spellings.{list_read_back}
use Rattle.dw_derive.proofs.Shards.{shard_lacks}

-- ---- what tables have in a slot

pub find_append : (a b : List (Slot × List ℕ)) (s : Slot) → find slot_cmp s (a ++ b) ≡ option_or (find slot_cmp s a) (find slot_cmp s b)
find_append [] b s = refl
find_append (e ∷ a) b s = at (is_slot s e.0) (find_append a b s)
  where
    at : (t : Bool) → find slot_cmp s (a ++ b) ≡ option_or (find slot_cmp s a) (find slot_cmp s b) → cond t (Some e.1) (find slot_cmp s (a ++ b)) ≡ option_or (cond t (Some e.1) (find slot_cmp s a)) (find slot_cmp s b)
    at true r = refl
    at false r = r

or_at : {A : Type 0} (b : Bool) (x : A) (o : Option A) → option_or (cond b (Some x) None) o ≡ cond b (Some x) o
or_at true x o = refl
or_at false x o = refl

-- what a slot that is given has
abbrev pub content_at : World → Slot → List ℕ
content_at w s = content (form_at w.old) (slots_of w.dict) w.events s

pub get_tables : (w : World) (s : Slot) → get (tables w) s ≡ cond (list_any (gives (slots_of w.dict) s) w.events) (Some (content_at w s)) (find slot_cmp s (meta_cells w))
unfolding tables
get_tables w s =
    get-from_entries slots_total (event_cells (form_at w.old) (slots_of w.dict) w.events ++ meta_cells w) s
    ∙ find_append (event_cells (form_at w.old) (slots_of w.dict) w.events) (meta_cells w) s
    ∙ ap (λ o. option_or o (find slot_cmp s (meta_cells w)))
    (find_of exact_slots (content_at w) (flat_map (slots_of w.dict) w.events) s ∙ ap (λ b. cond b (Some (content_at w s)) None) (any_flat (is_slot s) (slots_of w.dict) w.events))
    ∙ or_at (list_any (gives (slots_of w.dict) s) w.events) (content_at w s) (find slot_cmp s (meta_cells w))

-- ---- the uids of one slot

all_uids : (es : List Event) → AllByRecursion IsEvent es → AllByRecursion IsUid (map uid_of es)
all_uids [] h = tt
all_uids (e ∷ es) h = (h.0.uid, all_uids es h.1)

above : (e : Event) (es : List Event) → AllByRecursion (λ y. place_cmp e.0 y ≡ Less) (keys_of es) → AllByRecursion (λ (d : Event). (e.0.shard ≡ d.0.shard) × (e.0.key.dtype ≡ d.0.key.dtype)) es
    → AllByRecursion (λ y. uid_cmp (uid_of e) y ≡ Less) (map uid_of es)
above e [] h k = tt
above e (d ∷ es) h k = (sym (place_by_uid e.0 d.0 k.0.0 k.0.1) ∙ h.0, above e es h.1 k.1)

-- the events that give the slot are of one shard and type
abbrev pub OneShard : (Event → List Slot) → Slot → Type 0
OneShard slots s = (e d : Event) → IsEvent e → IsEvent d → gives slots s e ≡ true → gives slots s d ≡ true → (e.0.shard ≡ d.0.shard) × (e.0.key.dtype ≡ d.0.key.dtype)

module _ (slots : Event → List Slot) (s : Slot) (one : OneShard slots s) where
  abbrev Gives : Event → Type 0
  Gives e = IsEvent e × (gives slots s e ≡ true)

  like : (e d : Event) → Gives e → Gives d → (e.0.shard ≡ d.0.shard) × (e.0.key.dtype ≡ d.0.key.dtype)
  like e d g h = one e d g.0 h.0 g.1 h.1

  all_like : (e : Event) → Gives e → (es : List Event) → AllByRecursion Gives es → AllByRecursion (λ (d : Event). (e.0.shard ≡ d.0.shard) × (e.0.key.dtype ≡ d.0.key.dtype)) es
  all_like e g [] h = tt
  all_like e g (d ∷ es) h = (like e d g h.0, all_like e g es h.1)

  uids_ascend : (es : List Event) → IsStrictlySortedBy place_cmp (keys_of es) → AllByRecursion Gives es → IsStrictlySortedBy uid_cmp (map uid_of es)
  unfolding IsStrictlySortedBy
  uids_ascend [] k h = tt
  uids_ascend (e ∷ es) k h = (above e es k.0 (all_like e h.0 es h.1), uids_ascend es k.1 h.1)

  kept_keys : (P : Place → Type 0) (p : Event → Bool) (es : List Event) → AllByRecursion P (keys_of es) → AllByRecursion P (keys_of (filter p es))
  kept_keys P p [] h = tt
  kept_keys P p (e ∷ es) h = at (p e) (kept_keys P p es h.1)
    where
      at : (b : Bool) → AllByRecursion P (keys_of (filter p es)) → AllByRecursion P (keys_of (cond b (e ∷ filter p es) (filter p es)))
      at true r = (h.0, r)
      at false r = r

  pub ascends_filtered : (p : Event → Bool) (es : List Event) → IsStrictlySortedBy place_cmp (keys_of es) → IsStrictlySortedBy place_cmp (keys_of (filter p es))
  unfolding IsStrictlySortedBy
  ascends_filtered p [] k = tt
  ascends_filtered p (e ∷ es) k = at (p e) (ascends_filtered p es k.1)
    where
      at : (b : Bool) → IsStrictlySortedBy place_cmp (keys_of (filter p es)) → IsStrictlySortedBy place_cmp (keys_of (cond b (e ∷ filter p es) (filter p es)))
      at true r = (kept_keys (λ y. place_cmp e.0 y ≡ Less) p es k.0, r)
      at false r = r

  abbrev pub uids_of : List Event → List (List ℕ)
  uids_of es = map uid_of (givers slots es s)

  some : (es : List Event) → list_any (gives slots s) es ≡ true → 1 ≤ length (map uid_of (filter (gives slots s) es))
  some [] h = cc
  some (e ∷ es) h = at (gives slots s e) h (some es)
    where
      at : (b : Bool) → (b || list_any (gives slots s) es) ≡ true → (list_any (gives slots s) es ≡ true → 1 ≤ length (map uid_of (filter (gives slots s) es)))
          → 1 ≤ length (map uid_of (cond b (e ∷ filter (gives slots s) es) (filter (gives slots s) es)))
      at true h r = omega arith
      at false h r = r h

  le_true : (n c : ℕ) → nat_le n c ≡ true → n ≤ c
  le_true n c h = grind (arith, nat_tests)

  le_false : (n c : ℕ) → nat_le n c ≡ false → c < n
  le_false n c h = grind (arith, nat_tests)

  small : (form : Form) → cap form ≤ 50
  small One = omega arith
  small Two = omega arith

  listed : (form : Form) (us : List (List ℕ)) → 1 ≤ length us → AllByRecursion IsUid us → IsAscending uid_cmp us → IsListOf form (list_of form us)
  listed form us one all up = at (nat_le (length us) (cap form)) refl
    where
      at : (b : Bool) → nat_le (length us) (cap form) ≡ b → IsListOf form (cond b (Kept us) (Counted (min (length us) largest_count)))
      at true e = (one, le_true (length us) (cap form) e, all, up)
      at false e = let more : cap form < length us = le_false (length us) (cap form) e in let few : cap form ≤ 50 = small form in (omega arith, omega arith)

  -- the list of a slot that is given is read back
  pub read_again : (es : List Event) → IsStrictlySortedBy place_cmp (keys_of es) → AllByRecursion IsEvent es → list_any (gives slots s) es ≡ true → (form : Form) → list_read (list_bytes form (list_of form (uids_of es))) ≡ Ok (form, list_of form (uids_of es))
  read_again es up lawful any form =
      let given : AllByRecursion Gives (givers slots es s) = all_pass IsEvent Gives (gives slots s) (λ d i h. (i, h)) es lawful in
      list_read_back form (list_of form (uids_of es)) (listed form (uids_of es) (some es any)
      (all_uids (givers slots es s) (all_filtered IsEvent (gives slots s) es lawful))
      (uids_ascend (givers slots es s) (ascends_filtered (gives slots s) es up) given))

-- ---- the list of a slot with one uid more

min_more : (n m : ℕ) → min (n + 1) m ≡ min (min n m + 1) m
min_more n m = omega arith

le_more : (n c : ℕ) → nat_le (n + 1) c ≡ nat_lt n c
le_more n c = grind (arith, nat_tests)

le_lt : (n c : ℕ) → nat_le n c ≡ false → nat_lt n c ≡ false
le_lt n c h = grind (arith, nat_tests)

list_more : (form : Form) (us : List (List ℕ)) (u : List ℕ) → length (insert_key uid_cmp us u) ≡ length us + 1 → list_of form (insert_key uid_cmp us u) ≡ added form (list_of form us) u
list_more form us u h =
    ap (λ n. cond (nat_le n (cap form)) (Kept (insert_key uid_cmp us u)) (Counted (min n largest_count))) h
    ∙ ap (λ b. cond b (Kept (insert_key uid_cmp us u)) (Counted (min (length us + 1) largest_count))) (le_more (length us) (cap form))
    ∙ at (nat_le (length us) (cap form)) refl
  where
    at : (b : Bool) → nat_le (length us) (cap form) ≡ b → cond (nat_lt (length us) (cap form)) (Kept (insert_key uid_cmp us u)) (Counted (min (length us + 1) largest_count)) ≡ added form (cond b (Kept us) (Counted (min (length us) largest_count))) u
    at true e = refl
    at false e = ap (λ b. cond b (Kept (insert_key uid_cmp us u)) (Counted (min (length us + 1) largest_count))) (le_lt (length us) (cap form) e) ∙ ap Counted (min_more (length us) largest_count)

-- ---- one event more, of any slots

module _ (slots : Event → List Slot) (s : Slot) (es : List Event) (up : IsStrictlySortedBy place_cmp (keys_of es)) (e : Event) (fresh : NonePasses (is_at (place_cmp e.0)) es) where
  abbrev pub more : List Event
  more = insert_entry place_cmp es e.0 e.1

  pub givers_more : givers slots more s ≡ cond (gives slots s e) (insert_entry place_cmp (givers slots es s) e.0 e.1) (givers slots es s)
  givers_more = filter_inserted place_cmp places_total (gives slots s) es e.0 e.1 up fresh

  module _ (one : OneShard slots s) (lawful : AllByRecursion IsEvent es) (event : IsEvent e) (form : Form) (g : gives slots s e ≡ true) where
    abbrev before : List (List ℕ)
    before = uids_of slots s one es

    -- what the slot has with the event
    pub list_now : list_of form (map uid_of (givers slots more s)) ≡ added form (list_of form before) (uid_of e)
    list_now =
        let few : NonePasses (is_at (place_cmp e.0)) (givers slots es s) = all_filtered _ (gives slots s) es fresh in
        let alike : AllByRecursion (λ (d : Event). place_cmp e.0 d.0 ≡ uid_cmp (uid_of e) (uid_of d)) (givers slots es s) =
        all_pass IsEvent _ (gives slots s) (λ d i h. let same : (e.0.shard ≡ d.0.shard) × (e.0.key.dtype ≡ d.0.key.dtype) = one e d event i g h in place_by_uid e.0 d.0 same.0 same.1) es lawful in
        let grew : map uid_of (insert_entry place_cmp (givers slots es s) e.0 e.1) ≡ insert_key uid_cmp before (uid_of e) = map_inserted place_cmp uid_cmp uid_of (givers slots es s) e.0 e.1 few alike in
        let long : length (insert_key uid_cmp before (uid_of e)) ≡ length before + 1 =
        ap length (sym grew) ∙ length-map (insert_entry place_cmp (givers slots es s) e.0 e.1) uid_of ∙ length_inserted place_cmp (givers slots es s) e.0 e.1 few ∙ ap (λ n. n + 1) (sym (length-map (givers slots es s) uid_of)) in
        ap (λ ds. list_of form (map uid_of ds)) (givers_more ∙ ap (λ b. cond b (insert_entry place_cmp (givers slots es s) e.0 e.1) (givers slots es s)) g)
        ∙ ap (list_of form) grew
        ∙ list_more form before (uid_of e) long

    -- and how that is made from what it had, in the newer form where it had nothing
    pub list_grows : (list_any (gives slots s) es ≡ false → form ≡ Two) → list_with (cond (list_any (gives slots s) es) (Some (list_bytes form (list_of form before))) None) (uid_of e)
        ≡ list_bytes form (list_of form (map uid_of (givers slots more s)))
    list_grows newer = at (list_any (gives slots s) es) refl ∙ ap (list_bytes form) (sym list_now)
      where
        at : (b : Bool) → list_any (gives slots s) es ≡ b → list_with (cond b (Some (list_bytes form (list_of form before))) None) (uid_of e) ≡ list_bytes form (added form (list_of form before) (uid_of e))
        at true h = ap (list_after (uid_of e)) (read_again slots s one es up lawful h form)
        at false h =
            let two : form ≡ Two = newer h in
            let none : before ≡ [] = ap (map uid_of) (filter_none (gives slots s) es h) in
            sym (ap (λ us. list_bytes form (added form (list_of form us) (uid_of e))) none ∙ ap (λ f. list_bytes f (added f (list_of f []) (uid_of e))) two)

-- ---- the tables with one event more

not_given : {A : Type 0} (b : Bool) → b ≡ true → b ≡ false → A
not_given true h k = cc
not_given false h k = cc

module _ (tell : CodesTellKeys) (w : World) (e : Event) (has : HasEvents w) (event : IsEvent e) (free : IsFree w e) (s : Slot) where
  abbrev slots : Event → List Slot
  slots = slots_of w.dict

  abbrev form : Form
  form = form_at w.old s

  fresh : NonePasses (is_at (place_cmp e.0)) w.events
  fresh = none_passes_from_lookup (is_at (place_cmp e.0)) w.events free

  one : (s.table == 0) ≡ false → OneShard slots s
  one t d d' i j g h = one_shard tell w.dict s d d' (shard_lacks d i) (shard_lacks d' j) t g h

  no_meta : gives slots s e ≡ true → find slot_cmp s (meta_cells w) ≡ None
  no_meta g = not_meta s (below_three w.dict e s g) (meta_cells w) (meta_cells_are_meta w)

  newer : (b : Bool) → set.contains w.old s ≡ b → list_any (gives slots s) w.events ≡ false → cond b One Two ≡ Two
  newer true o h = not_given (list_any (gives slots s) w.events) (has.old s o) h
  newer false o h = refl

  content_given : gives slots s e ≡ true → content_at (with_event w e) s ≡ grown s (get (tables w) s) (uid_of e)
  content_given g = at (s.table == 0) refl
    where
      had : (s.table == 0) ≡ false → get (tables w) s ≡ cond (list_any (gives slots s) w.events) (Some (list_bytes form (list_of form (map uid_of (givers slots w.events s))))) None
      had t =
          get_tables w s
          ∙ ap (cond (list_any (gives slots s) w.events) (Some (content_at w s))) (no_meta g)
          ∙ ap (λ c. cond (list_any (gives slots s) w.events) (Some (cond c [] (list_bytes form (list_of form (map uid_of (givers slots w.events s)))))) None) t

      at : (b : Bool) → (s.table == 0) ≡ b → cond b [] (list_bytes form (list_of form (map uid_of (givers slots (more slots s w.events has.ascend e fresh) s)))) ≡ cond b [] (list_with (get (tables w) s) (uid_of e))
      at true t = refl
      at false t = sym (ap (λ o. list_with o (uid_of e)) (had t) ∙ list_grows slots s w.events has.ascend e fresh (one t) has.lawful event form g (newer (set.contains w.old s) refl))

  content_other : gives slots s e ≡ false → content_at (with_event w e) s ≡ content_at w s
  content_other g = ap (λ ds. cond (s.table == 0) [] (list_bytes form (list_of form (map uid_of ds))))
      (givers_more slots s w.events has.ascend e fresh ∙ ap (λ b. cond b (insert_entry place_cmp (givers slots w.events s) e.0 e.1) (givers slots w.events s)) g)

  -- with one event more the slots that it gives have it, and no other slot changes
  pub one_more : get (tables (with_event w e)) s ≡ cond (gives slots s e) (Some (grown s (get (tables w) s) (uid_of e))) (get (tables w) s)
  one_more =
      get_tables (with_event w e) s
      ∙ ap (λ b. cond b (Some (content_at (with_event w e) s)) (find slot_cmp s (meta_cells w))) (any_inserted place_cmp (gives slots s) w.events e.0 e.1 fresh)
      ∙ at (gives slots s e) refl
    where
      at : (b : Bool) → gives slots s e ≡ b → cond (b || list_any (gives slots s) w.events) (Some (content_at (with_event w e) s)) (find slot_cmp s (meta_cells w)) ≡ cond b (Some (grown s (get (tables w) s) (uid_of e))) (get (tables w) s)
      at true g = ap (λ c. Some c) (content_given g)
      at false g = ap (λ c. cond (list_any (gives slots s) w.events) (Some c) (find slot_cmp s (meta_cells w))) (content_other g) ∙ sym (get_tables w s)
