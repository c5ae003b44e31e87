-- On the cells that a field's new rule adds.
use Rattle.std.proofs.Common.{◌≡◌, ◌≤◌, ◌&&◌, ◌||◌, Bool, true, false, not, cond, T, List, [], ◌∷◌, ◌++◌, ℕ, map, ap, refl, sym, ◌∙◌, arith}
use Rattle.std.specs.Prelude.{Option, Some, None, All}
use Rattle.std.specs.List.{flat_map, AllByRecursion}
use Rattle.std.specs.List.Sorted.{IsStrictlySortedBy}
use Rattle.std.specs.Str.{bytes_eq}
use Rattle.std.specs.Map.{keys_of}
use Rattle.std.specs.FinMap.{find, is_sorted}
use Rattle.std.specs.FinMap.Entries.{below_all, same_entries}
use Rattle.std.specs.Ordering.{eq_by_cmp, is_lt}
use Rattle.std.specs.declared.cmp.Ordering.{Ordering}
use Rattle.std.specs.declared.cmp.Ordering.TheVariants.{Less}
use Rattle.dw_base.specs.Ascending.{set_of}
use Rattle.dw_norm.specs.Normal.{norm}
use Rattle.dw_dict.specs.declared.rule.FieldRule.{FieldRule}
use Rattle.dw_event.specs.declared.cells.EventCell.{EventCell}
use Rattle.dw_event.specs.declared.records.Place.{Place}
use Rattle.dw_event.specs.Places.{place_cmp}
use Rattle.dw_event.specs.Take.{Event, held_at}
use Rattle.dw_outside.specs.declared.cell.Cell.{Cell}
use Rattle.dw_outside.specs.Tables.{Tables, applied, cell_pair}
use Rattle.dw_derive.specs.declared.event_cells.Entry.{Entry}
use Rattle.dw_derive.specs.Entries.{forward_entries, backward_entries, entry_cmp, slot_of}
use Rattle.dw_derive.specs.Indexing.{entries_beside, cell_adds, entries_added, slots_added, all_stepped}
use Rattle.dw_derive.specs.Laws.{put_of}
use Rattle.dw_derive.specs.Tables.{uid_of}
use Rattle.dw_ingest.specs.Reindexed.{adds_cells}
use Rattle.dw_derive.proofs.Given.{all_append, all_flat}
use Rattle.dw_derive.proofs.Orders.{places_total}
use Rattle.dw_derive.proofs.Reading.{exact_places}
use Rattle.dw_ingest.proofs.EntryTables.{all_at, all_items}

-- ---- the tables of the cells that are added

abbrev IsLow : Entry → Type 0
IsLow n = n.table ≤ 3

low_if : (b : Bool) (ns : List Entry) → AllByRecursion IsLow ns → AllByRecursion IsLow (cond b ns [])
low_if true ns h = h
low_if false ns h = tt

beside_low : (old rule : FieldRule) (e : Event) (c : EventCell) (o : Option (List ℕ)) → AllByRecursion IsLow (entries_beside old rule e c o)
beside_low old rule e c None = tt
beside_low old rule e c (Some v) = all_append IsLow (cond (rule.indexed && not old.indexed) (forward_entries e c v) []) (cond (rule.reversed && not old.reversed) (backward_entries e c v) [])
    (low_if (rule.indexed && not old.indexed) (forward_entries e c v) (omega arith, (omega arith, tt)))
    (low_if (rule.reversed && not old.reversed) (backward_entries e c v) (omega arith, tt))

adds_low : (field : List ℕ) (old rule : FieldRule) (e : Event) (c : EventCell) → AllByRecursion IsLow (cell_adds field old rule e c)
adds_low field old rule e c = low_if (bytes_eq c.field field) (entries_beside old rule e c (norm rule.kind c.raw)) (beside_low old rule e c (norm rule.kind c.raw))

pub added_fit : (field : List ℕ) (old rule : FieldRule) (e : Event) → All (λ n. n.table ≤ 3) (set_of entry_cmp (entries_added field old rule e))
added_fit field old rule e =
    all_at IsLow (set_of entry_cmp (entries_added field old rule e))
    (all_items entry_cmp IsLow [] (entries_added field old rule e) tt (all_flat IsLow (cell_adds field old rule e) (adds_low field old rule e) e.1.cells))

-- ---- events that are found at each place alike

both : (a b : Bool) → T a → T b → T (a && b)
both true b h k = k
both false b h k = h

less : (o : Ordering) → o ≡ Less → T (is_lt o)
less o h = at (is_lt o) (ap is_lt h)
  where
    at : (b : Bool) → b ≡ true → T b
    at true e = tt
    at false e = cc

below : (p : Place) (es : List Event) → AllByRecursion (λ y. place_cmp p y ≡ Less) (keys_of es) → T (below_all place_cmp p es)
below p [] h = tt
below p (e ∷ es) h = both (is_lt (place_cmp p e.0)) (below_all place_cmp p es) (less (place_cmp p e.0) h.0) (below p es h.1)

sorted : (es : List Event) → IsStrictlySortedBy place_cmp (keys_of es) → T (is_sorted place_cmp es)
unfolding IsStrictlySortedBy
sorted [] h = tt
sorted (e ∷ es) h = both (below_all place_cmp e.0 es) (is_sorted place_cmp es) (below e.0 es h.0) (sorted es h.1)

find_is : (p : Place) (es : List Event) → find place_cmp p es ≡ held_at es p
find_is p [] = refl
find_is p (e ∷ es) = ap (cond (eq_by_cmp place_cmp p e.0) (Some e.1)) (find_is p es)

pub same_events : (es fs : List Event) → IsStrictlySortedBy place_cmp (keys_of es) → IsStrictlySortedBy place_cmp (keys_of fs) → ((p : Place) → held_at es p ≡ held_at fs p) → es ≡ fs
same_events es fs s t h = same_entries place_cmp places_total exact_places es fs (sorted es s) (sorted fs t) (λ p. find_is p es ∙ h p ∙ sym (find_is p fs))

-- the keys of cells are those of the pairs
pub keys_of_pairs : (cells : List Cell) → map (λ (c : Cell). c.key) cells ≡ map (λ (c : List ℕ × List ℕ). c.0) (map cell_pair cells)
keys_of_pairs [] = refl
keys_of_pairs (c ∷ cells) = ap (λ (ks : List (List ℕ)). c.key ∷ ks) (keys_of_pairs cells)

-- ---- a rule that adds none

none_both : (a b : Bool) → (a || b) ≡ false → (a ≡ false) × (b ≡ false)
none_both true b h = cc
none_both false b h = (refl, h)

none_beside : (old rule : FieldRule) (e : Event) (c : EventCell) (o : Option (List ℕ)) → adds_cells old rule ≡ false → entries_beside old rule e c o ≡ []
none_beside old rule e c None h = refl
none_beside old rule e c (Some v) h =
    let parts = none_both (rule.indexed && not old.indexed) (rule.reversed && not old.reversed) h in
    λ i. cond (parts.0 i) (forward_entries e c v) [] ++ cond (parts.1 i) (backward_entries e c v) []

none_added : (field : List ℕ) (old rule : FieldRule) (e : Event) → adds_cells old rule ≡ false → (cells : List EventCell) → flat_map (cell_adds field old rule e) cells ≡ []
none_added field old rule e h [] = refl
none_added field old rule e h (c ∷ cells) = at (bytes_eq c.field field) ∙ none_added field old rule e h cells
  where
    at : (b : Bool) → cond b (entries_beside old rule e c (norm rule.kind c.raw)) [] ++ flat_map (cell_adds field old rule e) cells ≡ flat_map (cell_adds field old rule e) cells
    at true = ap (λ (ns : List Entry). ns ++ flat_map (cell_adds field old rule e) cells) (none_beside old rule e c (norm rule.kind c.raw) h)
    at false = refl

-- it makes nothing, whatever the events
pub none_stepped : (field : List ℕ) (old rule : FieldRule) → adds_cells old rule ≡ false → (es : List Event) (m : Tables) → all_stepped (slots_added field old rule) es m ≡ m
none_stepped field old rule h [] m = refl
none_stepped field old rule h (e ∷ es) m =
    ap (λ (ns : List Entry). all_stepped (slots_added field old rule) es (applied (map (put_of m (uid_of e)) (map slot_of ns)) m)) (none_added field old rule e h e.1.cells)
    ∙ none_stepped field old rule h es m
