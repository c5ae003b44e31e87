-- On the puts of an event, the cell of the last number, and the cells that stand in the tables.
use Rattle.std.proofs.Common.{◌≡◌, ◌≢◌, ◌==◌, ◌||◌, ◌++◌, ℕ, Bool, true, false, cond, List, [], ◌∷◌, map, ap, refl, sym, ◌∙◌, arith}
use Rattle.std.specs.Prelude.{Option, Some}
use Rattle.dw_derive.specs.declared.event_cells.Entry.{Entry}
use Rattle.std.specs.Option.{is_some}
use Rattle.std.specs.List.{list_any, flat_map, AllByRecursion}
use Rattle.std.specs.Map.{keys_of}
use Rattle.std.specs.Cmp.{IsTotalOrder}
use Rattle.std.specs.Ordering.{eq_by_cmp}
use Rattle.std.specs.FinMap.{find, get, insert, get-insert, get-from_entries, same_map, keys, from_entries, contains_key-keys, IsAntisymmetric}
use Rattle.std.specs.FinMap as finmap
use Rattle.std.specs.declared.cmp.Ordering.{Ordering}
use Rattle.std.specs.Cmp.{nat_cmp_total}
use Rattle.std.proofs.lemmas.Cmp.{on_total, then_total}
use Rattle.std.proofs.lemmas.Bool.Decides.{nat_tests}
use Rattle.std.proofs.lemmas.List.Folds.{list_any-append}
use Rattle.dw_key.specs.KeyLaws.{CodesTellKeys}
use Rattle.dw_key.specs.KeyOrder.{keys_total}
use Rattle.dw_base.specs.Ascending.{set_of}
use Rattle.dw_dict.specs.Dictionary.{Dictionary}
use Rattle.dw_event.specs.Take.{Event}
use Rattle.dw_outside.specs.declared.slot.Slot.{Slot}
use Rattle.dw_outside.specs.Tables.{Tables, slot_cmp, is_slot, applied}
use Rattle.dw_outside.proofs.CellMaps.{exact_slots, slots_total, same_slot}
use Rattle.dw_derive.specs.Entries.{entries_of, entry_cmp, exact_entries, slot_of, slots_of}
use Rattle.dw_derive.specs.Meta.{put_at, commit_slot, commit_bytes}
use Rattle.dw_derive.specs.World.{World}
use Rattle.dw_derive.specs.Tables.{gives, uid_of, event_cells, form_at, field_cell, grant_cell, meta_cells, tables}
use Rattle.dw_derive.specs.Laws.{grown, put_of, stepped, EventsAreSteps, with_last, NumbersAreCells, CellsAreGiven}
use Rattle.dw_derive.proofs.Lists.{any_mapped, any_flat}
use Rattle.dw_derive.proofs.Maps.{any_same}
use Rattle.dw_derive.proofs.Sets.{any_set}
use Rattle.dw_derive.proofs.Given.{below_three, meta_cells_are_meta}
use Rattle.dw_derive.proofs.Growing.{content_at, get_tables, one_more}

-- ---- the puts of an event

same_there : (b a : Bool) (x y : List ℕ) (o : Option (List ℕ)) → (b ≡ true → x ≡ y) → cond a (Some y) (cond b (Some x) o) ≡ cond (b || a) (Some y) o
same_there true true x y o f = refl
same_there true false x y o f = ap (λ z. Some z) (f refl)
same_there false a x y o f = refl

-- puts whose contents are a function of the slot set it in each of their slots, and change no other
pub get_applied : (f : Slot → List ℕ) (ss : List Slot) (m : Tables) (q : Slot) → get (applied (map (λ s. put_at s (f s)) ss) m) q ≡ cond (list_any (is_slot q) ss) (Some (f q)) (get m q)
get_applied f [] m q = refl
get_applied f (s ∷ ss) m q =
    get_applied f ss (insert m s (f s)) q
    ∙ ap (cond (list_any (is_slot q) ss) (Some (f q))) (get-insert slots_total m s (f s) q)
    ∙ same_there (is_slot q s) (list_any (is_slot q) ss) (f s) (f q) (get m q) (λ h. ap f (sym (same_slot q s h)))

pub event_stepped : CodesTellKeys → EventsAreSteps
event_stepped tell w e has event free = same_map slots_total exact_slots _ _ (λ q.
    get_applied (λ s. grown s (get (tables w) s) (uid_of e)) (slots_of w.dict e) (tables w) q
    ∙ sym (one_more tell w e has event free q))

entries_total : IsTotalOrder entry_cmp
entries_total = then_total (on_total (λ n. n.table) nat_cmp_total) (on_total (λ n. n.key) keys_total)

-- each entry once or twice, the tables are the same
pub set_applied : (ns : List Entry) (uid : List ℕ) (m : Tables) → applied (map (put_of m uid) (map slot_of (set_of entry_cmp ns))) m ≡ applied (map (put_of m uid) (map slot_of ns)) m
set_applied ns uid m = same_map slots_total exact_slots _ _ (λ q.
    get_applied f (map slot_of (set_of entry_cmp ns)) m q
    ∙ ap (λ b. cond b (Some (f q)) (get m q))
    (any_mapped (is_slot q) slot_of (set_of entry_cmp ns)
    ∙ any_set entry_cmp exact_entries entries_total (λ n. is_slot q (slot_of n)) ns
    ∙ sym (any_mapped (is_slot q) slot_of ns))
    ∙ sym (get_applied f (map slot_of ns) m q))
  where
    f : Slot → List ℕ
    f s = grown s (get m s) uid

pub set_stepped : (dict : Dictionary) (e : Event) (m : Tables) → applied (map (put_of m (uid_of e)) (map slot_of (set_of entry_cmp (entries_of dict e)))) m ≡ stepped dict e m
set_stepped dict e m = set_applied (entries_of dict e) (uid_of e) m

-- ---- the cell of the last number

pub none_given : (w : World) (s : Slot) → s.table ≡ 3 → (es : List Event) → list_any (gives (slots_of w.dict) s) es ≡ false
none_given w s t [] = refl
none_given w s t (e ∷ es) = at (gives (slots_of w.dict) s e) refl (none_given w s t es)
  where
    at : (b : Bool) → gives (slots_of w.dict) s e ≡ b → list_any (gives (slots_of w.dict) s) es ≡ false → (b || list_any (gives (slots_of w.dict) s) es) ≡ false
    at true g r = below_three w.dict e s g t
    at false g r = r

module _ (w : World) where
  abbrev fields_and_grants : List (Slot × List ℕ)
  fields_and_grants = map field_cell (finmap.entries w.dict) ++ map grant_cell (finmap.entries w.grants)

  other_cells : (n : ℕ) (q : Slot) → is_slot q commit_slot ≡ false → find slot_cmp q (meta_cells (with_last w n)) ≡ find slot_cmp q fields_and_grants
  other_cells n q h = at (n == 0)
    where
      at : (b : Bool) → find slot_cmp q (cond b [] ((commit_slot, commit_bytes n) ∷ []) ++ map field_cell (finmap.entries w.dict) ++ map grant_cell (finmap.entries w.grants)) ≡ find slot_cmp q fields_and_grants
      at true = refl
      at false = ap (λ b. cond b (Some (commit_bytes n)) (find slot_cmp q fields_and_grants)) h

  commit_cell : (n : ℕ) (q : Slot) → (n == 0) ≡ false → is_slot q commit_slot ≡ true → find slot_cmp q (meta_cells (with_last w n)) ≡ Some (commit_bytes n)
  commit_cell n q z h =
      ap (λ b. find slot_cmp q (cond b [] ((commit_slot, commit_bytes n) ∷ []) ++ map field_cell (finmap.entries w.dict) ++ map grant_cell (finmap.entries w.grants))) z
      ∙ ap (λ b. cond b (Some (commit_bytes n)) (find slot_cmp q fields_and_grants)) h

  not_none : (n : ℕ) → n ≢ 0 → (n == 0) ≡ false
  not_none n h = grind (arith, nat_tests, h)

  pub number_set : (n : ℕ) → n ≢ 0 → insert (tables w) commit_slot (commit_bytes n) ≡ tables (with_last w n)
  number_set n h = same_map slots_total exact_slots _ _ (λ q.
      get-insert slots_total (tables w) commit_slot (commit_bytes n) q
      ∙ at q (is_slot q commit_slot) refl
      ∙ sym (get_tables (with_last w n) q))
    where
      at : (q : Slot) (b : Bool) → is_slot q commit_slot ≡ b → cond b (Some (commit_bytes n)) (get (tables w) q)
          ≡ cond (list_any (gives (slots_of w.dict) q) w.events) (Some (content_at w q)) (find slot_cmp q (meta_cells (with_last w n)))
      at q true e =
          sym (ap (λ b. cond b (Some (content_at w q)) (find slot_cmp q (meta_cells (with_last w n)))) (none_given w q (ap (λ (x : Slot). x.table) (same_slot q commit_slot e)) w.events)
          ∙ commit_cell n q (not_none n h) e)
      at q false e =
          get_tables w q
          ∙ ap (λ o. cond (list_any (gives (slots_of w.dict) q) w.events) (Some (content_at w q)) o) (other_cells w.last q e ∙ sym (other_cells n q e))

pub numbers_are_cells : NumbersAreCells
numbers_are_cells = number_set

-- ---- the cells that stand in the tables

module _ {K X : Type 0} (R : K → K → Ordering) (same : IsAntisymmetric R) (o : IsTotalOrder R) where
  found_key : (es : List (K × X)) (q : K) → is_some (find R q es) ≡ list_any (eq_by_cmp R q) (keys_of es)
  found_key [] q = refl
  found_key (e ∷ es) q = at (eq_by_cmp R q e.0) (found_key es q)
    where
      at : (b : Bool) → is_some (find R q es) ≡ list_any (eq_by_cmp R q) (keys_of es) → is_some (cond b (Some e.1) (find R q es)) ≡ (b || list_any (eq_by_cmp R q) (keys_of es))
      at true r = refl
      at false r = r

  -- a test finds a key of the map of these entries where it finds one among them
  pub any_entry : (es : List (K × X)) (p : K → Bool) → list_any p (keys (from_entries {R = R} es)) ≡ list_any p (keys_of es)
  any_entry es p = any_same R same o p _ (keys_of es) (λ q.
      sym (contains_key-keys (from_entries {R = R} es) q)
      ∙ ap is_some (get-from_entries o es q)
      ∙ found_key es q)

keys-append : {K X : Type 0} (a b : List (K × X)) → keys_of (a ++ b) ≡ keys_of a ++ keys_of b
keys-append [] b = refl
keys-append (e ∷ a) b = ap (λ ks. e.0 ∷ ks) (keys-append a b)

keys_back : (f : Slot → List ℕ) (ss : List Slot) → keys_of (map (λ s. (s, f s)) ss) ≡ ss
keys_back f [] = refl
keys_back f (s ∷ ss) = ap (λ ks. s ∷ ks) (keys_back f ss)

none_meta : (test : Slot → Bool) → ((s : Slot) → s.table ≡ 3 → test s ≡ false) → (es : List (Slot × List ℕ)) → AllByRecursion (λ (e : Slot × List ℕ). e.0.table ≡ 3) es → list_any test (keys_of es) ≡ false
none_meta test h [] all = refl
none_meta test h (e ∷ es) all = ap (λ b. b || list_any test (keys_of es)) (h e.0 all.0) ∙ none_meta test h es all.1

or_false : (a : Bool) → (a || false) ≡ a
or_false true = refl
or_false false = refl

pub any_cell : CellsAreGiven
unfolding tables
any_cell w test h =
    any_entry slot_cmp exact_slots slots_total (event_cells (form_at w.old) (slots_of w.dict) w.events ++ meta_cells w) test
    ∙ ap (list_any test) (keys-append (event_cells (form_at w.old) (slots_of w.dict) w.events) (meta_cells w))
    ∙ list_any-append test (keys_of (event_cells (form_at w.old) (slots_of w.dict) w.events)) (keys_of (meta_cells w))
    ∙ ap (λ b. list_any test (keys_of (event_cells (form_at w.old) (slots_of w.dict) w.events)) || b) (none_meta test h (meta_cells w) (meta_cells_are_meta w))
    ∙ or_false (list_any test (keys_of (event_cells (form_at w.old) (slots_of w.dict) w.events)))
    ∙ ap (list_any test) (keys_back (content_at w) (flat_map (slots_of w.dict) w.events))
    ∙ any_flat test (slots_of w.dict) w.events
