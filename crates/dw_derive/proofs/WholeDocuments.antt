-- On the cells of one event that are read from the tables, as a whole.
use Rattle.std.proofs.Common.{◌≡◌, ◌&&◌, ◌==◌, Bool, true, false, cond, List, [], ◌∷◌, map, refl, sym, ap, ◌∙◌}
use Rattle.std.specs.Prelude.{Some, filter_map, ℕ}
use Rattle.std.specs.Option.{option_map_or}
use Rattle.std.specs.List.{list_any, filter, AllByRecursion}
use Rattle.std.specs.List.Sorted.{IsStrictlySortedBy}
use Rattle.std.specs.Map.{lookup}
use Rattle.std.specs.BTreeMap.{is_at}
use Rattle.std.specs.Cmp.{IsTotalOrder}
use Rattle.std.specs.Cmp.Lexicographic.{nat_list_cmp_total}
use Rattle.std.specs.Ordering.{eq_by_cmp, is_eq}
use Rattle.std.specs.FinMap.{keys, entries}
use Rattle.std.proofs.lemmas.Cmp.{on_total, then_total}
use Rattle.dw_base.proofs.Search.{ascending_none}
use Rattle.dw_event.specs.declared.cells.EventCell.{EventCell}
use Rattle.dw_event.specs.declared.records.Place.{Place}
use Rattle.dw_event.specs.declared.records.Held.{Held}
use Rattle.dw_event.specs.Cells.{cell_cmp, exact_cells}
use Rattle.dw_event.specs.Places.{place_cmp}
use Rattle.dw_event.specs.Take.{Event}
use Rattle.dw_outside.specs.declared.slot.Slot.{Slot}
use Rattle.dw_outside.specs.Tables.{Tables, is_in_span, span_of}
use Rattle.dw_derive.specs.Documents.{document_start, document_end, cell_from, document_of, DocumentsAreRead}
use Rattle.dw_derive.specs.ReaderLaws.{IsDocKey}
use Rattle.dw_derive.specs.Tables.{tables}
use Rattle.dw_derive.specs.Lawful.{IsEvent}
use Rattle.dw_derive.proofs.Lists.{any_mapped, any_alike}
use Rattle.dw_derive.proofs.Sets.{any_filtered, any_filter_map, any_set, set_ascends, same_sorted}
use Rattle.dw_derive.proofs.Stepping.{any_cell}
use Rattle.dw_derive.proofs.Rereading.{doc_read, event_keys}
use Rattle.dw_derive.proofs.Reading.{hits, at_event, at_place, any_alike_all}

pub cells_total : IsTotalOrder cell_cmp
cells_total = then_total (on_total (λ c. c.field) nat_list_cmp_total) (then_total (on_total (λ c. c.raw) nat_list_cmp_total) (on_total (λ c. c.vis) nat_list_cmp_total))

-- the cells that are held at a place ascend
held_ascend : (p : Place) (es : List Event) → AllByRecursion IsEvent es → IsStrictlySortedBy cell_cmp (option_map_or (λ (h : Held). h.cells) (lookup (is_at (place_cmp p)) es) [])
held_ascend p [] all = ascending_none cell_cmp
held_ascend p (e ∷ es) all = at (is_eq (place_cmp p e.0)) (held_ascend p es all.1)
  where
    at : (b : Bool) → IsStrictlySortedBy cell_cmp (option_map_or (λ (h : Held). h.cells) (lookup (is_at (place_cmp p)) es) [])
        → IsStrictlySortedBy cell_cmp (option_map_or (λ (h : Held). h.cells) (cond b (Some e.1) (lookup (is_at (place_cmp p)) es)) [])
    at true r = all.0.rules.ordered
    at false r = r

and_assoc : (a b c : Bool) → ((a && b) && c) ≡ (a && (b && c))
and_assoc true b c = refl
and_assoc false b c = refl

-- a test finds a cell among those read where it finds one among the slots of the document
any_read : (m : Tables) (p : Place) (doc : IsDocKey p.key) (q : EventCell → Bool) → list_any q (document_of m p) ≡ list_any (hits doc_read event_keys p doc q) (keys m)
any_read m p doc q =
    let inside = λ (e : Slot × List ℕ). (e.0.table == 0) && is_in_span (document_start p) (document_end p) e.0.key in
    any_set cell_cmp exact_cells cells_total q (filter_map cell_from (map (λ c. c.0) (span_of 0 (document_start p) (document_end p) m)))
    ∙ any_filter_map q cell_from (map (λ c. c.0) (span_of 0 (document_start p) (document_end p) m))
    ∙ any_mapped (λ x. option_map_or q (cell_from x) false) (λ c. c.0) (span_of 0 (document_start p) (document_end p) m)
    ∙ any_mapped (λ (c : List ℕ × List ℕ). option_map_or q (cell_from c.0) false) (λ (e : Slot × List ℕ). (e.0.key, e.1)) (filter inside (entries m))
    ∙ any_filtered (λ (e : Slot × List ℕ). option_map_or q (cell_from e.0.key) false) inside (entries m)
    ∙ any_alike _ _ (λ e. and_assoc (e.0.table == 0) (is_in_span (document_start p) (document_end p) e.0.key) (option_map_or q (cell_from e.0.key) false)) (entries m)
    ∙ sym (any_mapped (hits doc_read event_keys p doc q) (λ (e : Slot × List ℕ). e.0) (entries m))

pub documents_are_read : DocumentsAreRead
documents_are_read w p has dtype uid =
    let doc : IsDocKey p.key = record { dtype = dtype; uid = uid } in
    same_sorted cell_cmp exact_cells cells_total _ _ (set_ascends cell_cmp exact_cells cells_total (filter_map cell_from (map (λ (c : List ℕ × List ℕ). c.0) (span_of 0 (document_start p) (document_end p) (tables w))))) (held_ascend p w.events has.lawful) (λ c.
    let q = eq_by_cmp cell_cmp c in
    let test = hits doc_read event_keys p doc q in
    any_read (tables w) p doc q
    ∙ any_cell w test (λ s t. none_there s.table _ t)
    ∙ any_alike_all doc_read event_keys p doc q IsEvent _ _ (λ e i. at_event doc_read event_keys p doc q w.dict e i) w.events has.lawful
    ∙ at_place doc_read event_keys p doc q w.events has.ascend)
  where
    none_there : (n : ℕ) (c : Bool) → n ≡ 3 → ((n == 0) && c) ≡ false
    none_there n c t = ap (λ k. (k == 0) && c) t
