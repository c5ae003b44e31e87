-- On the events that the tables of a world stand for.
use Rattle.std.proofs.Common.{◌≡◌, ◌||◌, ◌&&◌, ◌==◌, ◌++◌, ℕ, Bool, true, false, not, nat_le, cond, List, [], ◌∷◌, map, length, refl, sym, ap, ◌∙◌, arith}
use Rattle.std.specs.Prelude.{Option, Some, None, filter_map}
use Rattle.std.specs.Option.{option_map, option_and_then, option_map_or}
use Rattle.std.specs.List.{filter, list_any, list_all, AllByRecursion}
use Rattle.std.specs.List.Sorted.{IsStrictlySortedBy}
use Rattle.std.specs.Map.{keys_of}
use Rattle.std.specs.Cmp.{IsTotalOrder}
use Rattle.std.specs.Ordering.{eq_by_cmp, is_eq, ordering_reverse}
use Rattle.std.specs.FinMap.{keys}
use Rattle.std.specs.declared.cmp.Ordering.{Ordering}
use Rattle.std.specs.declared.cmp.Ordering.TheVariants.{Less}
use Rattle.std.proofs.lemmas.Cmp.{tied_itself}
use Rattle.std.proofs.lemmas.Bool.Decides.{nat_tests}
use Rattle.std.proofs.lemmas.List.Folds.{list_any-append}
use Rattle.std.proofs.lemmas.Map.Keys.{sorted_head, sorted_tail}
use Rattle.std.specs.Str.{is_utf8}
use Rattle.dw_base.specs.Ascending.{set_of}
use Rattle.dw_base.specs.FieldNames.{is_folded_name}
use Rattle.dw_vis.specs.Test.{is_vis}
use Rattle.dw_norm.specs.Normal.{norm}
use Rattle.dw_dict.specs.declared.rule.FieldRule.{FieldRule}
use Rattle.dw_dict.specs.Dictionary.{Dictionary, rule_of}
use Rattle.dw_event.specs.declared.cells.EventCell.{EventCell}
use Rattle.dw_event.specs.Cells.{cell_cmp, exact_cells}
use Rattle.dw_event.specs.Names.{lacks_zero, is_raw_value, is_visibility}
use Rattle.dw_event.specs.Places.{place_cmp}
use Rattle.dw_event.specs.Records.{is_cell}
use Rattle.dw_event.specs.Take.{Event}
use Rattle.dw_outside.specs.declared.slot.Slot.{Slot}
use Rattle.dw_derive.specs.Entries.{event_key, field_key, forward_entries, backward_entries, index_entries, cell_entries, entries_of, slot_of, slots_of}
use Rattle.dw_derive.specs.Decoded.{key_from}
use Rattle.dw_derive.specs.EventsRead.{CellReading, with_cell_of, key_says, slot_says, is_of, first_batch, event_at, events_of, events_in, EventsAreRead, TablesTellEvents}
use Rattle.dw_derive.specs.ReaderLaws.{IsDocKey, IsPlainText}
use Rattle.dw_derive.specs.World.{World}
use Rattle.dw_derive.specs.Tables.{tables}
use Rattle.dw_derive.specs.Lawful.{record_of, IsEvent, HasEvents}
use Rattle.dw_derive.proofs.Lists.{any_mapped, any_flat, any_alike}
use Rattle.dw_derive.proofs.Sets.{any_filtered, any_filter_map, any_set, set_ascends, same_sorted}
use Rattle.dw_derive.proofs.Shards.{left, right, KeepsRules, rules_of, shard_is_text}
use Rattle.dw_derive.proofs.Orders.{places_total}
use Rattle.dw_derive.proofs.Decoding.{key_of_code}
use Rattle.dw_derive.proofs.Stepping.{any_cell}
use Rattle.dw_derive.proofs.Rereading.{event_keys}
use Rattle.dw_derive.proofs.Reading.{field_is_plain, exact_places}
use Rattle.dw_derive.proofs.WholeDocuments.{cells_total}

-- ---- lists

pub all_both : {A : Type 0} (P Q : A → Type 0) (xs : List A) → AllByRecursion P xs → AllByRecursion Q xs → AllByRecursion (λ x. P x × Q x) xs
all_both P Q [] h k = tt
all_both P Q (x ∷ xs) h k = ((h.0, k.0), all_both P Q xs h.1 k.1)

pub all_weaker : {A : Type 0} (P Q : A → Type 0) → ((x : A) → P x → Q x) → (xs : List A) → AllByRecursion P xs → AllByRecursion Q xs
all_weaker P Q f [] h = tt
all_weaker P Q f (x ∷ xs) h = (f x h.0, all_weaker P Q f xs h.1)

pub any_alike_all : {A : Type 0} (P : A → Type 0) (p q : A → Bool) → ((x : A) → P x → p x ≡ q x) → (xs : List A) → AllByRecursion P xs → list_any p xs ≡ list_any q xs
any_alike_all P p q f [] h = refl
any_alike_all P p q f (x ∷ xs) h = ap (λ b. b || list_any p xs) (f x h.0) ∙ ap (λ b. q x || b) (any_alike_all P p q f xs h.1)

pub none_any : {A : Type 0} (xs : List A) → list_any (λ _. false) xs ≡ false
none_any [] = refl
none_any (x ∷ xs) = none_any xs

const_any : {A : Type 0} (b : Bool) (xs : List A) → nat_le 1 (length xs) ≡ true → list_any (λ _. b) xs ≡ b
const_any b [] h = cc
const_any true (x ∷ xs) h = refl
const_any false (x ∷ xs) h = none_any xs

and_any : {A : Type 0} (b : Bool) (p : A → Bool) (xs : List A) → list_any (λ x. b && p x) xs ≡ (b && list_any p xs)
and_any true p xs = refl
and_any false p xs = none_any xs

or_false : (a : Bool) → (a || false) ≡ a
or_false true = refl
or_false false = refl

and_true : (a : Bool) → a ≡ (a && true)
and_true true = refl
and_true false = refl

map_back : {K X : Type 0} (f : K → K × X) (es : List (K × X)) → AllByRecursion (λ (e : K × X). f e.0 ≡ e) es → map f (keys_of es) ≡ es
map_back f [] h = refl
map_back f (e ∷ es) h = λ i. h.0 i ∷ map_back f es h.1 i

first_is : (f : CellReading → Bool) (n : ℕ) (rs : List CellReading) → list_any f rs ≡ true → list_any (λ r. f r && not (r.batch == n)) rs ≡ false → first_batch (filter f rs) ≡ n
first_is f n [] h k = cc
first_is f n (r ∷ rs) h k = at (f r) h k (first_is f n rs)
  where
    same : (b : Bool) → (not (r.batch == n) || b) ≡ false → r.batch ≡ n
    same b e = grind (arith, nat_tests)

    at : (b : Bool) → (b || list_any f rs) ≡ true → ((b && not (r.batch == n)) || list_any (λ s. f s && not (s.batch == n)) rs) ≡ false
        → (list_any f rs ≡ true → list_any (λ s. f s && not (s.batch == n)) rs ≡ false → first_batch (filter f rs) ≡ n) → first_batch (cond b (r ∷ filter f rs) (filter f rs)) ≡ n
    at true a b g = same _ b
    at false a b g = g a b

apart : {K : Type 0} (R : K → K → Ordering) → IsTotalOrder R → (x y : K) → R x y ≡ Less → eq_by_cmp R y x ≡ false
apart R o x y e = ap is_eq (o.antisymm y x ∙ ap ordering_reverse e)

module _ {K X : Type 0} (R : K → K → Ordering) (o : IsTotalOrder R) where
  none_here : (F : K × X → Bool) (x : K) (es : List (K × X)) → AllByRecursion (λ y. R x y ≡ Less) (keys_of es) → list_any (λ d. eq_by_cmp R x d.0 && F d) es ≡ false
  none_here F x [] h = refl
  none_here F x (e ∷ es) h = ap (λ r. (is_eq r && F e) || list_any (λ d. eq_by_cmp R x d.0 && F d) es) h.0 ∙ none_here F x es h.1

  all_keys : (P : K → Type 0) (es : List (K × X)) → AllByRecursion P (keys_of es) → AllByRecursion (λ (e : K × X). P e.0) es
  all_keys P [] h = tt
  all_keys P (e ∷ es) h = (h.0, all_keys P es h.1)

  -- among entries in order each is the only one at its key
  only : (es : List (K × X)) → IsStrictlySortedBy R (keys_of es) → AllByRecursion (λ (e : K × X). (F : K × X → Bool) → list_any (λ d. eq_by_cmp R e.0 d.0 && F d) es ≡ F e) es
  only [] s = tt
  only (x ∷ es) s = (
    λ F. ap (λ b. (b && F x) || list_any (λ d. eq_by_cmp R x.0 d.0 && F d) es) (ap is_eq (tied_itself o x.0))
        ∙ ap (λ b. F x || b) (none_here F x.0 es (sorted_head R x.0 (keys_of es) s)) ∙ or_false (F x),
    all_weaker _ _ (λ e h F. ap (λ b. (b && F x) || list_any (λ d. eq_by_cmp R e.0 d.0 && F d) es) (apart R o x.0 e.0 h.0) ∙ h.1 F) es
        (all_both _ _ es (all_keys _ es (sorted_head R x.0 (keys_of es) s)) (only es (sorted_tail R x.0 (keys_of es) s))),
  )

-- ---- the rules of an event

rules : (e : Event) → IsEvent e → KeepsRules (record_of e)
rules e i = rules_of (record_of e) i.rules.rules

pub each_cell : (cells : List EventCell) → list_all is_cell cells ≡ true → AllByRecursion (λ (c : EventCell). is_cell c ≡ true) cells
each_cell [] h = tt
each_cell (c ∷ cells) h = (left (is_cell c) (list_all is_cell cells) h, each_cell cells (right (is_cell c) (list_all is_cell cells) h))

-- ---- what is read of a cell

abbrev pub reading_of : Event → EventCell → CellReading
reading_of e c = record { place = e.0; cell = c; batch = e.1.batch }

event_says : (e : Event) (c : EventCell) → IsEvent e → is_cell c ≡ true → slot_says (slot_of (record { table = 0; key = event_key e c })) ≡ Some (reading_of e c)
event_says e c i h =
    let rest : (is_raw_value c.raw && is_utf8 c.raw && is_visibility c.vis) ≡ true = right (is_folded_name c.field) (is_raw_value c.raw && is_utf8 c.raw && is_visibility c.vis) h in
    let raw : is_utf8 c.raw ≡ true = right (is_raw_value c.raw) (is_utf8 c.raw) (left (is_raw_value c.raw && is_utf8 c.raw) (is_visibility c.vis) rest) in
    let vis : is_vis c.vis ≡ true = left (is_vis c.vis) (lacks_zero c.vis) (right (is_raw_value c.raw && is_utf8 c.raw) (is_visibility c.vis) rest) in
    let field : IsPlainText c.field = field_is_plain c.field (left (is_folded_name c.field) _ h) in
    let doc : IsDocKey e.0.key = record { dtype = (rules e i).dtype; uid = i.uid } in
    ap (option_and_then key_says) (key_of_code (event_key e c) i.most)
    ∙ ap (option_and_then (with_cell_of (event_key e c))) (event_keys e c doc field raw).0
    ∙ ap (λ t. cond t (option_map (λ x. record { place = e.0; cell = x; batch = e.1.batch }) (cond (is_vis c.vis) (Some c) None)) None) (shard_is_text e i)
    ∙ ap (λ t. option_map (λ x. record { place = e.0; cell = x; batch = e.1.batch }) (cond t (Some c) None)) vis

field_says : (e : Event) (c : EventCell) (v : List ℕ) → IsEvent e → slot_says (slot_of (record { table = 0; key = field_key e c v })) ≡ None
field_says e c v i = ap (option_and_then key_says) (key_of_code (field_key e c v) i.most)

-- the readings are those of the cells of the events, as far as a test can tell
abbrev pub Reads : List CellReading → List Event → Type 0
Reads rs events = (test : CellReading → Bool) → list_any test rs ≡ list_any (λ e. list_any (λ c. test (reading_of e c)) e.1.cells) events

module _ (rs : List CellReading) (events : List Event) (reads : Reads rs events) (ascends : IsStrictlySortedBy place_cmp (keys_of events)) (lawful : AllByRecursion IsEvent events) where
  any_event : (p : Event → Bool) → list_any (λ e. list_any (λ _. p e) e.1.cells) events ≡ list_any p events
  any_event p = any_alike_all IsEvent _ _ (λ e h. const_any (p e) e.1.cells (rules e h).some) events lawful

  places_again : set_of place_cmp (map (λ r. r.place) rs) ≡ keys_of events
  places_again = same_sorted place_cmp exact_places places_total _ _ (set_ascends place_cmp exact_places places_total (map (λ (r : CellReading). r.place) rs)) ascends (λ q.
      any_set place_cmp exact_places places_total (eq_by_cmp place_cmp q) (map (λ r. r.place) rs)
      ∙ any_mapped (eq_by_cmp place_cmp q) (λ r. r.place) rs
      ∙ reads (λ r. eq_by_cmp place_cmp q r.place)
      ∙ any_event (λ e. eq_by_cmp place_cmp q e.0)
      ∙ sym (any_mapped (eq_by_cmp place_cmp q) (λ (e : Event). e.0) events))

  event_is : (e : Event) → IsEvent e → ((F : Event → Bool) → list_any (λ d. eq_by_cmp place_cmp e.0 d.0 && F d) events ≡ F e) → event_at rs e.0 ≡ e
  event_is e h alone =
      let cells : set_of cell_cmp (map (λ (r : CellReading). r.cell) (filter (is_of e.0) rs)) ≡ e.1.cells =
      same_sorted cell_cmp exact_cells cells_total _ _ (set_ascends cell_cmp exact_cells cells_total (map (λ (r : CellReading). r.cell) (filter (is_of e.0) rs))) h.rules.ordered (λ q.
      any_set cell_cmp exact_cells cells_total (eq_by_cmp cell_cmp q) (map (λ r. r.cell) (filter (is_of e.0) rs))
      ∙ any_mapped (eq_by_cmp cell_cmp q) (λ r. r.cell) (filter (is_of e.0) rs)
      ∙ any_filtered (λ r. eq_by_cmp cell_cmp q r.cell) (is_of e.0) rs
      ∙ reads (λ r. is_of e.0 r && eq_by_cmp cell_cmp q r.cell)
      ∙ any_alike _ _ (λ d. and_any (eq_by_cmp place_cmp e.0 d.0) (eq_by_cmp cell_cmp q) d.1.cells) events
      ∙ alone (λ d. list_any (eq_by_cmp cell_cmp q) d.1.cells)) in
      let some : list_any (is_of e.0) rs ≡ true =
      reads (is_of e.0)
      ∙ any_event (λ d. eq_by_cmp place_cmp e.0 d.0)
      ∙ any_alike _ _ (λ d. and_true (eq_by_cmp place_cmp e.0 d.0)) events
      ∙ alone (λ d. true) in
      let others : list_any (λ (r : CellReading). is_of e.0 r && not (r.batch == e.1.batch)) rs ≡ false =
      reads (λ r. is_of e.0 r && not (r.batch == e.1.batch))
      ∙ any_event (λ d. eq_by_cmp place_cmp e.0 d.0 && not (d.1.batch == e.1.batch))
      ∙ alone (λ d. not (d.1.batch == e.1.batch))
      ∙ itself e.1.batch in
      let batch : first_batch (filter (is_of e.0) rs) ≡ e.1.batch = first_is (is_of e.0) e.1.batch rs some others in
      λ i. (e.0, record { cells = cells i; batch = batch i })
    where
      itself : (n : ℕ) → not (n == n) ≡ false
      itself n = grind (arith, nat_tests)

  events_again : events_of rs ≡ events
  events_again =
      ap (map (event_at rs)) places_again
      ∙ map_back (event_at rs) events (all_weaker _ _ (λ e h. event_is e h.0 h.1) events (all_both _ _ events lawful (only place_cmp places_total events ascends)))

-- ---- what is read of the tables of a world

map-append : {A B : Type 0} (f : A → B) (xs ys : List A) → map f (xs ++ ys) ≡ map f xs ++ map f ys
map-append f [] ys = refl
map-append f (x ∷ xs) ys = ap (λ zs. f x ∷ zs) (map-append f xs ys)

module _ (test : CellReading → Bool) where
  abbrev on_slot : Slot → Bool
  on_slot s = option_map_or test (slot_says s) false

  none_forward : (e : Event) (c : EventCell) (v : List ℕ) → IsEvent e → (b : Bool) → list_any on_slot (map slot_of (cond b (forward_entries e c v) [])) ≡ false
  none_forward e c v i true = ap (λ o. option_map_or test o false || false) (field_says e c v i)
  none_forward e c v i false = refl

  none_backward : (e : Event) (c : EventCell) (v : List ℕ) (b : Bool) → list_any on_slot (map slot_of (cond b (backward_entries e c v) [])) ≡ false
  none_backward e c v true = refl
  none_backward e c v false = refl

  none_indexed : (rule : FieldRule) (e : Event) (c : EventCell) → IsEvent e → (o : Option (List ℕ)) → list_any on_slot (map slot_of (index_entries rule e c o)) ≡ false
  none_indexed rule e c i None = refl
  none_indexed rule e c i (Some v) =
      ap (list_any on_slot) (map-append slot_of (cond rule.indexed (forward_entries e c v) []) (cond rule.reversed (backward_entries e c v) []))
      ∙ list_any-append on_slot (map slot_of (cond rule.indexed (forward_entries e c v) [])) (map slot_of (cond rule.reversed (backward_entries e c v) []))
      ∙ ap (λ t. t || list_any on_slot (map slot_of (cond rule.reversed (backward_entries e c v) []))) (none_forward e c v i rule.indexed)
      ∙ none_backward e c v rule.reversed

  at_cell : (dict : Dictionary) (e : Event) → IsEvent e → (c : EventCell) → is_cell c ≡ true → list_any on_slot (map slot_of (cell_entries dict e c)) ≡ test (reading_of e c)
  at_cell dict e i c h =
      ap (λ t. on_slot (slot_of (record { table = 0; key = event_key e c })) || t) (none_indexed (rule_of dict c.field) e c i (norm (rule_of dict c.field).kind c.raw))
      ∙ or_false (on_slot (slot_of (record { table = 0; key = event_key e c })))
      ∙ ap (λ o. option_map_or test o false) (event_says e c i h)

  at_event : (dict : Dictionary) (e : Event) → IsEvent e → list_any on_slot (slots_of dict e) ≡ list_any (λ c. test (reading_of e c)) e.1.cells
  at_event dict e i =
      any_mapped on_slot slot_of (entries_of dict e)
      ∙ any_flat (λ n. on_slot (slot_of n)) (cell_entries dict e) e.1.cells
      ∙ any_alike_all (λ c. is_cell c ≡ true) _ _ (λ c h. sym (any_mapped on_slot slot_of (cell_entries dict e c)) ∙ at_cell dict e i c h) e.1.cells (each_cell e.1.cells (rules e i).cells)

-- a test finds a reading of the tables of a world where it finds one of a cell of an event
pub reads_of_world : (w : World) → HasEvents w → Reads (filter_map slot_says (keys (tables w))) w.events
reads_of_world w has test =
    any_filter_map test slot_says (keys (tables w))
    ∙ any_cell w (on_slot test) (λ s t. none_there s t)
    ∙ any_alike_all IsEvent _ _ (λ e i. at_event test w.dict e i) w.events has.lawful
  where
    none_there : (s : Slot) → s.table ≡ 3 → option_map_or test (slot_says s) false ≡ false
    none_there s t = at s.table t
      where
        at : (n : ℕ) → n ≡ 3 → option_map_or test (cond (n == 0) (option_and_then key_says (key_from s.key)) None) false ≡ false
        at n e = ap (λ k. option_map_or test (cond (k == 0) (option_and_then key_says (key_from s.key)) None) false) e

pub events_are_read : EventsAreRead
events_are_read w has = events_again (filter_map slot_says (keys (tables w))) w.events (reads_of_world w has) has.ascend has.lawful

pub tables_tell_events : TablesTellEvents
tables_tell_events v w i j e = sym (events_are_read v i) ∙ ap (λ m. events_in (keys m)) e ∙ events_are_read w j
