-- The documents of a world's shard, as a reader sees them, are the views of its events.
use Rattle.std.proofs.Common.{◌≡◌, ◌<◌, ◌^◌, ◌||◌, ◌&&◌, ◌++◌, ℕ, Bool, true, false, not, nat_le, cond, List, [], ◌∷◌, refl, sym, ap, ◌∙◌, append_assoc}
use Rattle.std.specs.Prelude.{Option, Some, None}
use Rattle.std.specs.Option.{option_map_or}
use Rattle.std.specs.List.{list_any, filter}
use Rattle.std.specs.List.Sorted.{IsStrictlySortedBy}
use Rattle.std.specs.Cmp.{IsTotalOrder}
use Rattle.std.specs.Cmp.Lexicographic.{slice_cmp, nat_list_cmp_total}
use Rattle.std.specs.Ordering.{nat_cmp, is_eq, is_lt, eq_by_cmp}
use Rattle.std.proofs.lemmas.Cmp.{on_total, then_total, tied_itself}
use Rattle.dw_base.proofs.Search.{ascending_none}
use Rattle.dw_key.specs.declared.key.Key.{Key}
use Rattle.dw_key.specs.declared.doc_key.DocKey.{DocKey}
use Rattle.dw_key.specs.DocKeys.{doc_key_cmp}
use Rattle.dw_key.specs.KeyCode.{escaped, part_code, code_of, code}
use Rattle.dw_vis.specs.Sight.{sees}
use Rattle.dw_vis.specs.Test.{is_vis}
use Rattle.dw_norm.specs.Normal.{norm}
use Rattle.dw_dict.specs.Dictionary.{rule_of}
use Rattle.dw_dict.specs.declared.rule.FieldRule.{FieldRule}
use Rattle.dw_nest.proofs.Order.{total, exact}
use Rattle.dw_event.specs.declared.cells.EventCell.{EventCell}
use Rattle.dw_event.specs.declared.records.Place.{Place}
use Rattle.dw_event.specs.declared.records.Held.{Held}
use Rattle.dw_event.specs.declared.views.Pair.{Pair}
use Rattle.dw_event.specs.Names.{is_raw_value, is_visibility, lacks_zero}
use Rattle.dw_event.specs.Places.{place_cmp}
use Rattle.dw_event.specs.Records.{is_cell}
use Rattle.dw_event.specs.Take.{Event, held_at}
use Rattle.dw_event.specs.Views.{pair_cmp, exact_pairs, pair_of, seen_pairs, view_of}
use Rattle.dw_base.specs.FieldNames.{is_folded_name}
use Rattle.std.specs.Str.{is_utf8}
use Rattle.dw_outside.proofs.CellMaps.{tied}
use Rattle.dw_derive.specs.Entries.{doc_text, event_key, field_key}
use Rattle.dw_derive.specs.Readers.{IndexReading, index_reading}
use Rattle.dw_derive.specs.ReaderLaws.{IsDocKey}
use Rattle.dw_derive.specs.World.{World}
use Rattle.dw_derive.specs.Lawful.{IsEvent, HasEvents}
use Rattle.dw_derive.proofs.Decoding.{key_of_code}
use Rattle.dw_derive.proofs.Lists.{any_mapped}
use Rattle.dw_derive.proofs.Orders.{places_total}
use Rattle.dw_derive.proofs.Reading.{exact_places, field_is_plain}
use Rattle.dw_derive.proofs.Rereading.{event_keys}
use Rattle.dw_derive.proofs.Sets.{any_filtered, any_filter_map, any_set, set_ascends, same_sorted}
use Rattle.dw_derive.proofs.Shards.{left, right}
use Rattle.dw_tablet.specs.declared.said.Said.TheVariants.{OfEvent, Nothing}
use Rattle.dw_tablet.specs.Said.{said_of, key_said, event_said, index_said}
use Rattle.dw_tablet.specs.Places.{below, between}
use Rattle.dw_tablet.specs.Positions.{document_front}
use Rattle.dw_tablet.specs.Documents.{document_start, document_end, cell_if, cell_at, cells_of}
use Rattle.dw_tablet.proofs.Reading.{key_says}
use Rattle.dw_tablet.proofs.Shards.{same_front}
use Rattle.dw_scan.specs.Worlds.{content_of, view_held, DocumentsAreViews}
use Rattle.dw_scan.proofs.Sharded.{and_any, alike_where, in_shard, row_within, within_row, at_event_cell, at_index, found_in, at_cell, of_event, cells_of_event, doc_of_event, found_at}

pairs_total : IsTotalOrder pair_cmp
pairs_total = then_total (on_total (λ (p : Pair). p.field) nat_list_cmp_total) (on_total (λ (p : Pair). p.raw) nat_list_cmp_total)

-- ---- what the keys of an event say

-- the rules of a cell, one by one
record CellRules (c : EventCell) : Type 0 where
  field : is_folded_name c.field ≡ true
  raw : is_utf8 c.raw ≡ true
  vis : is_vis c.vis ≡ true

rules_of_cell : (c : EventCell) → is_cell c ≡ true → CellRules c
rules_of_cell c h =
    let rest : (is_raw_value c.raw && is_utf8 c.raw && is_visibility c.vis) ≡ true = right (is_folded_name c.field) (is_raw_value c.raw && is_utf8 c.raw && is_visibility c.vis) h in
    record {
      field = left (is_folded_name c.field) (is_raw_value c.raw && is_utf8 c.raw && is_visibility c.vis) h;
      raw = right (is_raw_value c.raw) (is_utf8 c.raw) (left (is_raw_value c.raw && is_utf8 c.raw) (is_visibility c.vis) rest);
      vis = left (is_vis c.vis) (lacks_zero c.vis) (right (is_raw_value c.raw && is_utf8 c.raw) (is_visibility c.vis) rest);
    }

event_says : (e : Event) (c : EventCell) → IsDocKey e.0.key → e.1.batch < 2 ^ 64 → is_cell c ≡ true
    → said_of (code (event_key e c)) ≡ OfEvent (record { doc = e.0.key; cell = c; batch = e.1.batch })
event_says e c doc small h =
    let r = rules_of_cell c h in
    key_says (code (event_key e c)) (event_key e c) (key_of_code (event_key e c) small)
    ∙ ap (λ b. cond b (key_said (event_key e c)) Nothing) r.vis
    ∙ ap (λ o. option_map_or (event_said (event_key e c)) o (option_map_or (index_said (event_key e c)) (index_reading (event_key e c)) Nothing)) (event_keys e c doc (field_is_plain c.field r.field) r.raw).0

module _ (doc : DocKey) (snapshot : ℕ) where
  index_says_no_cell : (e : Event) (c : EventCell) (v : List ℕ) → e.1.batch < 2 ^ 64 → cell_at doc snapshot (code (field_key e c v)) ≡ None
  index_says_no_cell e c v small =
      ap (cell_if doc snapshot) (key_says (code (field_key e c v)) (field_key e c v) (key_of_code (field_key e c v) small))
      ∙ at (is_vis c.vis) (index_reading (field_key e c v))
    where
      at : (b : Bool) (o : Option IndexReading) → cell_if doc snapshot (cond b (option_map_or (index_said (field_key e c v)) o Nothing) Nothing) ≡ None
      at true None = refl
      at true (Some r) = refl
      at false o = refl

-- ---- where the keys of an event lie

not_lower : (tail : List ℕ) → is_lt (slice_cmp nat_cmp tail []) ≡ false
not_lower [] = refl
not_lower (x ∷ xs) = refl

abbrev in_document : List ℕ → DocKey → List ℕ → Bool
in_document shard doc key = not (below key (document_start shard doc)) && below key (document_end shard doc)

within_front : (shard : List ℕ) (doc : DocKey) (tail : List ℕ) → in_document shard doc (document_front shard (doc_text doc) ++ 0 ∷ tail) ≡ true
within_front shard doc tail =
    ap (λ o. not (is_lt o) && below (document_front shard (doc_text doc) ++ 0 ∷ tail) (document_end shard doc)) (same_front (document_front shard (doc_text doc)) (0 ∷ tail) (0 ∷ []))
    ∙ ap (λ b. not b && below (document_front shard (doc_text doc) ++ 0 ∷ tail) (document_end shard doc)) (not_lower tail)
    ∙ ap is_lt (same_front (document_front shard (doc_text doc)) (0 ∷ tail) (1 ∷ []))

code_front : (p : Place) (k : Key) → k.row ≡ p.shard → k.family ≡ doc_text p.key → in_document p.shard p.key (code k) ≡ true
code_front p k r f =
    let tail = code_of (k.qualifier ∷ k.vis ∷ []) k.stamp in
    let spelled : part_code p.shard ++ (part_code (doc_text p.key) ++ tail) ≡ document_front p.shard (doc_text p.key) ++ 0 ∷ tail =
    ap (λ xs. part_code p.shard ++ xs) (append_assoc (escaped (doc_text p.key)) (0 ∷ 0 ∷ []) tail ∙ sym (append_assoc (escaped (doc_text p.key)) (0 ∷ []) (0 ∷ tail)))
    ∙ sym (append_assoc (part_code p.shard) (escaped (doc_text p.key) ++ 0 ∷ []) (0 ∷ tail)) in
    ap (in_document p.shard p.key)
    (ap (λ row. part_code row ++ (part_code k.family ++ tail)) r ∙ ap (λ family. part_code p.shard ++ (part_code family ++ tail)) f ∙ spelled)
    ∙ within_front p.shard p.key tail

-- ---- a test of cells

module _ (p : Place) (snapshot : ℕ) (q : EventCell → Bool) where
  abbrev test : List ℕ → Bool
  test key = in_document p.shard p.key key && option_map_or q (cell_at p.key snapshot key) false

  and_false : (a : Bool) → (a && false) ≡ false
  and_false true = refl
  and_false false = refl

  three_false : (a b : Bool) → (a && (b && false)) ≡ false
  three_false true b = and_false b
  three_false false b = refl

  if_there : (b : Bool) (c : EventCell) → option_map_or q (cond b (Some c) None) false ≡ (b && q c)
  if_there true c = refl
  if_there false c = refl

  at_index_none : (rule : FieldRule) (w : World) (e : Event) (c : EventCell) (o : Option (List ℕ)) → e.1.batch < 2 ^ 64 → at_index w p.shard test rule e c o ≡ false
  at_index_none rule w e c None small = and_false rule.indexed
  at_index_none rule w e c (Some v) small =
      ap (λ o. rule.indexed && (in_shard p.shard (code (field_key e c v)) && (in_document p.shard p.key (code (field_key e c v)) && option_map_or q o false))) (index_says_no_cell p.key snapshot e c v small)
      ∙ ap (λ b. rule.indexed && b) (three_false (in_shard p.shard (code (field_key e c v))) (in_document p.shard p.key (code (field_key e c v))))
      ∙ and_false rule.indexed

  module _ (e : Event) (c : EventCell) where
    abbrev key : List ℕ
    key = code (event_key e c)

    abbrev same_doc : Bool
    same_doc = is_eq (doc_key_cmp e.0.key p.key)

    abbrev counts : Bool → Bool → Bool
    counts shard doc = shard && (in_document p.shard p.key key && ((doc && nat_le e.1.batch snapshot) && q c))

    elsewhere : (a b : Bool) → in_shard p.shard key ≡ a → same_doc ≡ b → is_eq (place_cmp p e.0) ≡ false → counts a b ≡ false
    elsewhere false b s d n = refl
    elsewhere true false s d n = and_false (in_document p.shard p.key key)
    elsewhere true true s d n =
        let row : e.0.shard ≡ p.shard = within_row p.shard (event_key e c) s in
        let document : e.0.key ≡ p.key = exact e.0.key p.key (tied (doc_key_cmp e.0.key p.key) d) in
        let place : e.0 ≡ p = λ i. record { shard = row i; key = document i } in
        let f : false ≡ true = sym n ∙ ap (λ x. is_eq (place_cmp p x)) place ∙ ap is_eq (tied_itself places_total p) in absurd (cc)

    there : (t : Bool) → is_eq (place_cmp p e.0) ≡ t → counts (in_shard p.shard key) same_doc ≡ (t && (nat_le e.1.batch snapshot && q c))
    there false n = elsewhere (in_shard p.shard key) same_doc refl refl n
    there true n =
        let place : p ≡ e.0 = exact_places p e.0 (tied (place_cmp p e.0) n) in
        let row : e.0.shard ≡ p.shard = ap (λ (x : Place). x.shard) (sym place) in
        let document : e.0.key ≡ p.key = ap (λ (x : Place). x.key) (sym place) in
        ap (λ b. counts b same_doc) (row_within p.shard (event_key e c) row)
        ∙ ap (λ b. b && ((same_doc && nat_le e.1.batch snapshot) && q c)) (code_front p (event_key e c) row (ap doc_text document))
        ∙ ap (λ b. (b && nat_le e.1.batch snapshot) && q c) (ap (λ k. is_eq (doc_key_cmp k p.key)) document ∙ ap is_eq (tied_itself total p.key))

    at_event : (w : World) → IsDocKey e.0.key → e.1.batch < 2 ^ 64 → is_cell c ≡ true → at_event_cell w p.shard test e c ≡ (is_eq (place_cmp p e.0) && (nat_le e.1.batch snapshot && q c))
    at_event w doc small h =
        ap (λ s. in_shard p.shard key && (in_document p.shard p.key key && option_map_or q (cell_if p.key snapshot s) false)) (event_says e c doc small h)
        ∙ ap (λ b. in_shard p.shard key && (in_document p.shard p.key key && b)) (if_there (same_doc && nat_le e.1.batch snapshot) c)
        ∙ there (is_eq (place_cmp p e.0)) refl

  or_none : (a : Bool) → (a || false) ≡ a
  or_none true = refl
  or_none false = refl

  -- a cell of an event
  one_cell : (w : World) (e : Event) (c : EventCell) → IsDocKey e.0.key → e.1.batch < 2 ^ 64 → is_cell c ≡ true
      → at_cell w p.shard test w.dict e c ≡ (is_eq (place_cmp p e.0) && (nat_le e.1.batch snapshot && q c))
  one_cell w e c doc small h =
      ap (λ b. at_event_cell w p.shard test e c || b) (at_index_none (rule_of w.dict c.field) w e c (norm (rule_of w.dict c.field).kind c.raw) small)
      ∙ or_none (at_event_cell w p.shard test e c)
      ∙ at_event e c w doc small h

  -- an event
  one_event : (w : World) (e : Event) → IsEvent e → list_any (at_cell w p.shard test w.dict e) e.1.cells ≡ (is_eq (place_cmp p e.0) && (nat_le e.1.batch snapshot && list_any q e.1.cells))
  one_event w e i =
      alike_where (λ c. is_cell c ≡ true) _ _ (λ c h. one_cell w e c (doc_of_event e i) i.most h) e.1.cells (cells_of_event e i)
      ∙ and_any (is_eq (place_cmp p e.0)) (λ c. nat_le e.1.batch snapshot && q c) e.1.cells
      ∙ ap (λ b. is_eq (place_cmp p e.0) && b) (and_any (nat_le e.1.batch snapshot) q e.1.cells)

  abbrev holds : Held → Bool
  holds h = nat_le h.batch snapshot && list_any q h.cells

  -- and all
  all_events : (w : World) → HasEvents w → list_any test (content_of w p.shard) ≡ option_map_or holds (held_at w.events p) false
  all_events w has =
      found_in w p.shard test
      ∙ alike_where IsEvent _ _ (λ e i. of_event w p.shard test w.dict e ∙ one_event w e i) w.events has.lawful
      ∙ found_at p holds w.events has.ascend

-- ---- views

module _ (names : List (List ℕ)) (r : Pair → Bool) where
  abbrev of_cell : EventCell → Bool
  of_cell c = sees c.vis names && r (pair_of c)

  in_view : (cells : List EventCell) → list_any r (view_of names cells) ≡ list_any of_cell cells
  in_view cells =
      any_set pair_cmp exact_pairs pairs_total r (seen_pairs names cells)
      ∙ any_mapped r pair_of (filter (λ c. sees c.vis names) cells)
      ∙ any_filtered (λ c. r (pair_of c)) (λ c. sees c.vis names) cells

  in_held : (snapshot : ℕ) (o : Option Held) → list_any r (view_held names snapshot o) ≡ option_map_or (λ (h : Held). nat_le h.batch snapshot && list_any of_cell h.cells) o false
  in_held snapshot None = refl
  in_held snapshot (Some h) = at (nat_le h.batch snapshot)
    where
      at : (b : Bool) → list_any r (cond b (view_of names h.cells) []) ≡ (b && list_any of_cell h.cells)
      at true = in_view h.cells
      at false = refl

held_ascends : (names : List (List ℕ)) (snapshot : ℕ) (o : Option Held) → IsStrictlySortedBy pair_cmp (view_held names snapshot o)
held_ascends names snapshot None = ascending_none pair_cmp
held_ascends names snapshot (Some h) = at (nat_le h.batch snapshot)
  where
    at : (b : Bool) → IsStrictlySortedBy pair_cmp (cond b (view_of names h.cells) [])
    at true = set_ascends pair_cmp exact_pairs pairs_total (seen_pairs names h.cells)
    at false = ascending_none pair_cmp

pub documents_are_views : DocumentsAreViews
documents_are_views w shard key names snapshot has doc =
    let p : Place = record { shard = shard; key = key } in
    let content : List (List ℕ) = content_of w shard in
    let cells : List EventCell = cells_of key snapshot (between (document_start shard key) (document_end shard key) content) in
    same_sorted pair_cmp exact_pairs pairs_total _ _ (set_ascends pair_cmp exact_pairs pairs_total (seen_pairs names cells)) (held_ascends names snapshot (held_at w.events p)) (λ x.
    let r : Pair → Bool = eq_by_cmp pair_cmp x in
    let q : EventCell → Bool = of_cell names r in
    in_view names r cells
    ∙ any_filter_map q (cell_at key snapshot) (between (document_start shard key) (document_end shard key) content)
    ∙ any_filtered (λ k. option_map_or q (cell_at key snapshot k) false) (in_document shard key) content
    ∙ all_events p snapshot q w has
    ∙ sym (in_held names r snapshot (held_at w.events p)))
