-- On events that are gathered cell by cell.
use Rattle.std.proofs.Common.{◌≡◌, ◌||◌, ◌&&◌, ◌==◌, ℕ, Bool, true, false, cond, List, [], ◌∷◌, map, refl, sym, ap, ◌∙◌}
use Rattle.std.specs.Prelude.{Option, Some, None, filter_map, filter}
use Rattle.std.specs.List.{list_any, cons_option}
use Rattle.std.specs.Map.{lookup}
use Rattle.std.specs.BTreeMap.{is_at}
use Rattle.std.specs.Ordering.{eq_by_cmp, is_eq, is_le, nat_cmp}
use Rattle.std.specs.Cmp.{eq_by_cmp_equiv}
use Rattle.dw_outside.proofs.CellMaps.{tied}
use Rattle.std.specs.Cmp.Lexicographic.{slice_cmp}
use Rattle.std.specs.FinMap.{find, entries, keys}
use Rattle.dw_base.specs.Ascending.{set_of, with_items}
use Rattle.dw_event.specs.declared.records.Place.{Place}
use Rattle.dw_event.specs.declared.records.Held.{Held}
use Rattle.dw_event.specs.Cells.{cell_cmp}
use Rattle.dw_event.specs.Places.{place_cmp}
use Rattle.dw_event.specs.Take.{Event, held_at}
use Rattle.dw_outside.specs.declared.slot.Slot.{Slot}
use Rattle.dw_outside.specs.Tables.{is_in_span}
use Rattle.dw_derive.specs.EventsRead.{CellReading, code_says, slot_says, is_of, first_batch, event_at, events_of, held_more, held_with, held_after, EventsAreGathered}
use Rattle.dw_derive.specs.Tables.{tables}
use Rattle.dw_derive.proofs.Lists.{any_mapped}
use Rattle.dw_derive.proofs.Maps.{find_of}
use Rattle.dw_derive.proofs.Sets.{any_set}
use Rattle.dw_derive.proofs.Orders.{places_total}
use Rattle.dw_derive.proofs.Reading.{exact_places}
use Rattle.dw_derive.proofs.WholeWorlds.{events_are_read}

-- ---- what is held after some readings

held_some : (p : Place) (h : Held) (rs : List CellReading) → held_after p (Some h) rs ≡ Some (record { cells = with_items cell_cmp h.cells (map (λ r. r.cell) (filter (is_of p) rs)); batch = h.batch })
held_some p h [] = refl
held_some p h (r ∷ rs) = at (λ k. held_some p k rs) (is_of p r)
  where
    at : ((k : Held) → held_after p (Some k) rs ≡ Some (record { cells = with_items cell_cmp k.cells (map (λ r. r.cell) (filter (is_of p) rs)); batch = k.batch })) → (b : Bool)
        → held_after p (cond b (Some (held_more (Some h) r.cell r.batch)) (Some h)) rs
        ≡ Some (record { cells = with_items cell_cmp h.cells (map (λ r. r.cell) (cond b (r ∷ filter (is_of p) rs) (filter (is_of p) rs))); batch = h.batch })
    at next true = next (held_more (Some h) r.cell r.batch)
    at next false = next h

-- the set of the cells of the place, and the first batch
pub held_none : (p : Place) (rs : List CellReading) → held_after p None rs ≡ cond (list_any (is_of p) rs) (Some (event_at rs p).1) None
held_none p [] = refl
held_none p (r ∷ rs) = at (is_of p r) (held_none p rs)
  where
    at : (b : Bool) → held_after p None rs ≡ cond (list_any (is_of p) rs) (Some (event_at rs p).1) None
        → held_after p (cond b (Some (held_more None r.cell r.batch)) None) rs
        ≡ cond (b || list_any (is_of p) rs) (Some (record { cells = set_of cell_cmp (map (λ r. r.cell) (cond b (r ∷ filter (is_of p) rs) (filter (is_of p) rs))); batch = first_batch (cond b (r ∷ filter (is_of p) rs) (filter (is_of p) rs)) })) None
    at true h = held_some p (held_more None r.cell r.batch) rs
    at false h = h

-- ---- what the events of readings hold

find_at : (p : Place) (es : List Event) → lookup (is_at (place_cmp p)) es ≡ find place_cmp p es
find_at p [] = refl
find_at p (e ∷ es) = ap (cond (eq_by_cmp place_cmp p e.0) (Some e.1)) (find_at p es)

pub held_of_events : (p : Place) (rs : List CellReading) → held_at (events_of rs) p ≡ cond (list_any (is_of p) rs) (Some (event_at rs p).1) None
held_of_events p rs =
    find_at p (events_of rs)
    ∙ find_of exact_places (λ q. (event_at rs q).1) (set_of place_cmp (map (λ r. r.place) rs)) p
    ∙ ap (λ b. cond b (Some (event_at rs p).1) None)
    (any_set place_cmp exact_places places_total (eq_by_cmp place_cmp p) (map (λ r. r.place) rs) ∙ any_mapped (eq_by_cmp place_cmp p) (λ r. r.place) rs)

-- ---- the keys of table 0

le_any : (xs : List ℕ) → is_le (slice_cmp nat_cmp [] xs) ≡ true
le_any [] = refl
le_any (x ∷ xs) = refl

abbrev pub first : List ℕ × List ℕ → List ℕ
first c = c.0

abbrev pub cell : Slot × List ℕ → List ℕ × List ℕ
cell e = (e.0.key, e.1)

abbrev pub slot : Slot × List ℕ → Slot
slot e = e.0

abbrev pub in_first : Slot × List ℕ → Bool
in_first e = (e.0.table == 0) && is_in_span [] [] e.0.key

-- what the keys of table 0 say is what the slots say
pub said_codes : {A : Type 0} (f : List ℕ → Option A) (es : List (Slot × List ℕ)) → filter_map f (map first (map cell (filter in_first es))) ≡ filter_map (λ (s : Slot). cond (s.table == 0) (f s.key) None) (map slot es)
said_codes f [] = refl
said_codes {A = A} f (e ∷ es) =
    ap (λ t. filter_map f (map first (map cell (cond ((e.0.table == 0) && t) (e ∷ rest) rest)))) (le_any e.0.key)
    ∙ at (e.0.table == 0) (said_codes f es)
  where
    rest : List (Slot × List ℕ)
    rest = filter in_first es

    at : (b : Bool) → filter_map f (map first (map cell rest)) ≡ filter_map (λ (s : Slot). cond (s.table == 0) (f s.key) None) (map slot es)
        → filter_map f (map first (map cell (cond (b && true) (e ∷ rest) rest))) ≡ cons_option (cond b (f e.0.key) None) (filter_map (λ (s : Slot). cond (s.table == 0) (f s.key) None) (map slot es))
    at true r = ap (cons_option (f e.0.key)) r
    at false r = r

pub events_are_gathered : EventsAreGathered
events_are_gathered w has p =
    ap (held_after p None) (said_codes code_says (entries (tables w)))
    ∙ held_none p (filter_map slot_says (keys (tables w)))
    ∙ sym (held_of_events p (filter_map slot_says (keys (tables w))))
    ∙ ap (λ es. held_at es p) (events_are_read w has)

-- ---- one cell more

-- what was taken out and put back with one cell more
pub gathered : (old mid new : Place → Option Held) (said : CellReading) (before : Option Held) (h : Held) → before ≡ old said.place → ((q : Place) → mid q ≡ cond (is_eq (place_cmp said.place q)) None (old q))
    → ((q : Place) → new q ≡ cond (is_eq (place_cmp said.place q)) (Some h) (mid q)) → h ≡ held_more before said.cell said.batch → (p : Place) → new p ≡ held_with p (old p) said
gathered old mid new said before h was gone put is p = at (is_eq (place_cmp said.place p)) refl
  where
    turned : is_of p said ≡ is_eq (place_cmp said.place p)
    turned = (eq_by_cmp_equiv places_total).symm p said.place

    at : (b : Bool) → is_eq (place_cmp said.place p) ≡ b → new p ≡ held_with p (old p) said
    at true e =
        let same : said.place ≡ p = exact_places said.place p (tied (place_cmp said.place p) e) in
        put p ∙ ap (λ b. cond b (Some h) (mid p)) e
        ∙ ap Some (is ∙ ap (λ o. held_more o said.cell said.batch) (was ∙ ap old same))
        ∙ sym (ap (λ b. cond b (Some (held_more (old p) said.cell said.batch)) (old p)) (turned ∙ e))
    at false e =
        put p ∙ ap (λ b. cond b (Some h) (mid p)) e ∙ gone p ∙ ap (λ b. cond b None (old p)) e
        ∙ sym (ap (λ b. cond b (Some (held_more (old p) said.cell said.batch)) (old p)) (turned ∙ e))
