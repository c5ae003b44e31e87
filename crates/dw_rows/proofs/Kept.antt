-- A record that is read is well formed.
use Rattle.std.proofs.Common.{◌≡◌, ℕ, ◌≤◌, Bool, true, false, not, ◌&&◌, ◌||◌, nat_le, ◌==◌, if◌then◌else◌, List, [], ◌∷◌, ◌++◌, length, refl, sym, ap, ◌∙◌, arith, length-append, Option, Some, None, IfSome, is_some, unwrap_or, Result, Err, IfOk, codes}
use Rattle.std.specs.List.{list_any, list_all, AllByRecursion}
use Rattle.std.specs.Str.{is_utf8, str_to_ascii_uppercase}
use Rattle.std.proofs.lemmas.Bool.{and_parts, and_from, le-leb, ne_eqb}
use Rattle.std.proofs.lemmas.Str.{is_utf8-from_IsUtf8, IsUtf8-nil}
use Rattle.serde_json.specs.Data.{Data, Items, no_items, item, Members, no_members, member}
use Rattle.serde_json.specs.Find.{get, as_str}
use Rattle.dw_base.specs.Ascending.{with_items, set_of}
use Rattle.dw_base.specs.Days.{names_day, day_digits, is_dashed, without_dashes}
use Rattle.dw_base.specs.FieldNames.{is_field_name, is_folded_name}
use Rattle.dw_key.specs.TypeName.{is_type_name}
use Rattle.dw_vis.specs.Test.{is_vis}
use Rattle.dw_vis.specs.Depth.{is_deep_from}
use Rattle.dw_event.specs.Cells.{cell_cmp, with_cell}
use Rattle.dw_event.specs.Names.{lacks_zero, is_raw_value, is_visibility}
use Rattle.dw_event.specs.Records.{canon, is_cell, IsWellFormed}
use Rattle.dw_event.specs.declared.cells.EventCell.{EventCell}
use Rattle.dw_event.specs.declared.records.Record.{Record}
use Rattle.dw_event.specs.declared.reports.BadRecord.{BadRecord}
use Rattle.dw_event.specs.declared.reports.BadRecord.TheVariants.{Shape, Dtype, Date, Field, Visibility, Value, TooLarge}
use Rattle.dw_rows.specs.Values.{text_at, object_at, has_only}
use Rattle.dw_rows.specs.Entries.{Entry, Draft, field_of, vis_of, day_of, has_value, has_field, has_vis, is_short_text, has_short_value, cell_with, cells_at, cells_of, record_of, is_small, verdict}
use Rattle.dw_rows.specs.JsonRecords as json
use Rattle.dw_rows.specs.CsvRecords as csv
use Rattle.dw_rows.proofs.KeptSteps.{Gives, nothing, just, guarded_known, guarded_some, then_known, map_known, any_known, all_put, put_some}
use Rattle.dw_rows.proofs.Folded.{folded}
use Rattle.dw_rows.proofs.SetLemmas.{set_ascends, put_grows}

-- a field and a visibility, where they are there, keep their rules
abbrev FieldKept : Option (List ℕ) → Type 0
FieldKept field = IfSome field (λ f. is_folded_name f ≡ true)

abbrev VisKept : Option (List ℕ) → Type 0
VisKept vis = IfSome vis (λ text. is_visibility text ≡ true)

abbrev EntryKept : Entry → Type 0
EntryKept e = FieldKept e.field × VisKept e.vis

abbrev AllKept : List Entry → Type 0
AllKept es = AllByRecursion EntryKept es

field_kept : (name : List ℕ) → FieldKept (field_of name)
field_kept name = (guarded_some {P = λ t. is_folded_name t ≡ true} (is_field_name name) (str_to_ascii_uppercase name) (λ h. folded name h)).holds

vis_kept : (text : List ℕ) → VisKept (vis_of text)
vis_kept text = (guarded_some {P = λ t. is_visibility t ≡ true} (is_visibility text) text (λ h. h)).holds

everyone : is_visibility [] ≡ true
unfolding is_vis is_deep_from
everyone = rw (is_utf8-from_IsUtf8 [] IsUtf8-nil) refl

all_append : (xs ys : List Entry) → AllKept xs → AllKept ys → AllKept (xs ++ ys)
all_append [] ys h k = k
all_append (x ∷ xs) ys h k = (h.0, all_append xs ys h.1 k)

-- ---- entries of JSON

member_kept : (m : Option Data) (default : Option (List ℕ)) → VisKept default → Gives (json.vis_member m default) VisKept
member_kept None default h = just default h
member_kept (Some d) default h = map_known (as_str d) vis_of (any_known (as_str d)) (λ text _. vis_kept text)

module _ (field : Option (List ℕ)) (f : FieldKept field) where
  scalar_kept : (vis : Option (List ℕ)) (d : Data) → VisKept vis → Gives (json.scalar_entry field vis d) EntryKept
  scalar_kept vis d v = map_known (json.scalar_text d) _ (any_known (json.scalar_text d)) (λ raw _. (f, v))

  object_kept : (default : Option (List ℕ)) (d : Data) → VisKept default → Gives (json.object_entry field default d) EntryKept
  object_kept default d v =
      guarded_known _ _ (λ _.
      then_known (json.vis_member (get (codes "vis") d) default) _ (member_kept (get (codes "vis") d) default v) (λ vis k.
      then_known (get (codes "value") d) _ (any_known (get (codes "value") d)) (λ value _. scalar_kept vis value k)))

  item_kept : (default : Option (List ℕ)) (d : Data) → VisKept default → Gives (json.item_entry field default d) EntryKept
  item_kept default Data.null v = just _ (f, v)
  item_kept default (Data.boolean b) v = scalar_kept default (Data.boolean b) v
  item_kept default (Data.number n) v = scalar_kept default (Data.number n) v
  item_kept default (Data.string s) v = scalar_kept default (Data.string s) v
  item_kept default (Data.array ds) v = nothing
  item_kept default (Data.object ms) v = object_kept default (Data.object ms) v

  items_kept : (default : Option (List ℕ)) (ds : Items) → VisKept default → Gives (json.item_entries field default ds) AllKept
  items_kept default no_items v = just [] tt
  items_kept default (item d ds) v =
      then_known (json.item_entry field default d) _ (item_kept default d v) (λ e one.
      map_known (json.item_entries field default ds) _ (items_kept default ds v) (λ es all. (one, all)))

  values_kept : (default : Option (List ℕ)) (d : Data) → VisKept default → Gives (json.value_entries field default d) AllKept
  values_kept default Data.null v = items_kept default (item Data.null no_items) v
  values_kept default (Data.boolean b) v = items_kept default (item (Data.boolean b) no_items) v
  values_kept default (Data.number n) v = items_kept default (item (Data.number n) no_items) v
  values_kept default (Data.string s) v = items_kept default (item (Data.string s) no_items) v
  values_kept default (Data.array ds) v = items_kept default ds v
  values_kept default (Data.object ms) v = items_kept default (item (Data.object ms) no_items) v

fields_kept : (default : Option (List ℕ)) (ms : Members) → VisKept default → Gives (json.field_entries default ms) AllKept
fields_kept default no_members v = just [] tt
fields_kept default (member name d ms) v =
    then_known (json.named_entries name default d) _
    (map_known (json.value_entries (field_of name) default d) _ (values_kept (field_of name) (field_kept name) default d v) (λ es all. ((field_kept name, v), all)))
    (λ es one. map_known (json.field_entries default ms) _ (fields_kept default ms v) (λ more all. all_append es more one all))

-- ---- entries of CSV

pieces_kept : (field vis : Option (List ℕ)) (raws : List (List ℕ)) → FieldKept field → VisKept vis → AllKept (csv.piece_entries field vis raws)
pieces_kept field vis [] f v = tt
pieces_kept field vis (raw ∷ raws) f v = ((f, v), pieces_kept field vis raws f v)

column_kept : (at : Bool) (name : List ℕ) (vis : Option (List ℕ)) (cell : List ℕ) → VisKept vis → AllKept (if at then [] else csv.column_entries (field_of name) vis cell)
column_kept true name vis cell v = tt
column_kept false name vis cell v = ((field_kept name, v), pieces_kept (field_of name) vis (csv.pieces cell) (field_kept name) v)

row_kept : (vis : Option (List ℕ)) (header row : List (List ℕ)) → VisKept vis → AllKept (csv.row_entries vis header row)
row_kept vis [] row v = tt
row_kept vis (n ∷ ns) [] v = tt
row_kept vis (n ∷ ns) (c ∷ cs) v = all_append _ (csv.row_entries vis ns cs) (column_kept (csv.begins_with_at n) n vis c v) (row_kept vis ns cs v)

-- ---- cells

all_cells_append : (xs ys : List EventCell) → list_all is_cell xs ≡ true → list_all is_cell ys ≡ true → list_all is_cell (xs ++ ys) ≡ true
all_cells_append [] ys h k = k
all_cells_append (x ∷ xs) ys h k =
    let p = and_parts (is_cell x) (list_all is_cell xs) h in
    and_from (is_cell x) (list_all is_cell (xs ++ ys)) p.0 (all_cells_append xs ys p.1 k)

raw_at : (few lacks utf8 some : Bool) → (some && (few && lacks && utf8)) ≡ true → some ≡ true → ((some && few && lacks) ≡ true) × (utf8 ≡ true)
raw_at true true true true h s = (refl, refl)
raw_at true true false true h s = cc
raw_at true false utf8 true h s = cc
raw_at false lacks utf8 true h s = cc
raw_at few lacks utf8 false h s = cc

some_length : (raw : List ℕ) → not (length raw == 0) ≡ nat_le 1 (length raw)
some_length [] = refl
some_length (b ∷ bs) = ap not (ne_eqb (length (b ∷ bs)) 0 (λ e. omega (arith, e))) ∙ sym (le-leb 1 (length (b ∷ bs)) (omega arith))

cell_kept : (field vis raw : List ℕ) → is_folded_name field ≡ true → is_visibility vis ≡ true → (not (length raw == 0) && is_short_text raw) ≡ true
    → is_cell (record { field = field; raw = raw; vis = vis }) ≡ true
cell_kept field vis raw f v h =
    let k : (nat_le 1 (length raw) && is_short_text raw) ≡ true = ap (λ b. b && is_short_text raw) (sym (some_length raw)) ∙ h in
    let r = raw_at (nat_le (length raw) 4096) (lacks_zero raw) (is_utf8 raw) (nat_le 1 (length raw)) k (and_parts (nat_le 1 (length raw)) (is_short_text raw) k).0 in
    and_from (is_folded_name field) (is_raw_value raw && is_utf8 raw && is_visibility vis) f
    (and_from (is_raw_value raw && is_utf8 raw) (is_visibility vis) (and_from (is_raw_value raw) (is_utf8 raw) r.0 r.1) v)

with_kept : (field vis : Option (List ℕ)) (raw : List ℕ) → FieldKept field → VisKept vis → (not (length raw == 0) && is_short_text raw) ≡ true
    → list_all is_cell (cell_with field vis raw) ≡ true
with_kept None vis raw f v h = refl
with_kept (Some field) None raw f v h = refl
with_kept (Some field) (Some vis) raw f v h = and_from (is_cell (record { field = field; raw = raw; vis = vis })) true (cell_kept field vis raw f v h) refl

at_kept : (b : Bool) (e : Entry) → (has_value e && has_short_value e) ≡ b → EntryKept e → list_all is_cell (if b then cell_with e.field e.vis e.raw else []) ≡ true
at_kept true e h k = with_kept e.field e.vis e.raw k.0 k.1 h
at_kept false e h k = refl

cells_kept : (es : List Entry) → AllKept es → list_all is_cell (cells_of es) ≡ true
cells_kept [] k = refl
cells_kept (e ∷ es) k = all_cells_append (cells_at e) (cells_of es) (at_kept (has_value e && has_short_value e) e refl k.0) (cells_kept es k.1)

items_kept_in : (set cs : List EventCell) → list_all is_cell set ≡ true → list_all is_cell cs ≡ true → list_all is_cell (with_items cell_cmp set cs) ≡ true
items_kept_in set [] h k = h
items_kept_in set (c ∷ cs) h k =
    let p = and_parts (is_cell c) (list_all is_cell cs) k in
    items_kept_in (with_cell set c) cs (all_put cell_cmp is_cell c set p.0 h) p.1

items_grow : (set cs : List EventCell) → length set ≤ length (with_items cell_cmp set cs)
items_grow set [] = omega arith
items_grow set (c ∷ cs) = omega (arith, put_grows set c, items_grow (with_cell set c) cs)

set_some : (cs : List EventCell) → 1 ≤ length cs → 1 ≤ length (set_of cell_cmp cs)
set_some [] h = absurd (omega arith)
set_some (c ∷ cs) h = omega (arith, put_some cell_cmp c [], items_grow (with_cell [] c) cs)

-- the cell of an entry where a value stands and each rule is kept
one_cell : (e : Entry) → has_value e ≡ true → has_field e ≡ true → has_vis e ≡ true → has_short_value e ≡ true → 1 ≤ length (cells_at e)
one_cell e some f v s = rw (some, s) (here e.field e.vis f v)
  where
    here : (field vis : Option (List ℕ)) → is_some field ≡ true → is_some vis ≡ true → 1 ≤ length (cell_with field vis e.raw)
    here None vis f v = cc
    here (Some field) None f v = cc
    here (Some field) (Some vis) f v = omega arith

some_cells : (es : List Entry) → list_any has_value es ≡ true → list_all has_field es ≡ true → list_all has_vis es ≡ true → list_all has_short_value es ≡ true
    → 1 ≤ length (cells_of es)
some_cells [] a f v s = cc
some_cells (e ∷ es) a f v s =
    at (has_value e) refl
    (λ rest. some_cells es rest (and_parts (has_field e) (list_all has_field es) f).1 (and_parts (has_vis e) (list_all has_vis es) v).1 (and_parts (has_short_value e) (list_all has_short_value es) s).1)
  where
    at : (b : Bool) → has_value e ≡ b → (list_any has_value es ≡ true → 1 ≤ length (cells_of es)) → 1 ≤ length (cells_at e ++ cells_of es)
    at true h more =
        omega (
          arith,
          length-append (cells_at e) (cells_of es),
          one_cell e h (and_parts (has_field e) (list_all has_field es) f).0 (and_parts (has_vis e) (list_all has_vis es) v).0 (and_parts (has_short_value e) (list_all has_short_value es) s).0,
        )
    at false h more = omega (arith, length-append (cells_at e) (cells_of es), more (ap (λ b. b || list_any has_value es) (sym h) ∙ a))

-- ---- records

day_kept : (date : List ℕ) → is_some (day_of date) ≡ true → names_day (unwrap_or (day_of date) []) ≡ true
day_kept date h = known (day_of date) h (guarded_known (is_utf8 date) (day_digits date) (λ _. digits (if is_dashed date then without_dashes date else date)))
  where
    digits : (text : List ℕ) → Gives (if names_day text then Some text else None) (λ day. names_day day ≡ true)
    digits text = guarded_some (names_day text) text (λ k. k)

    known : (o : Option (List ℕ)) → is_some o ≡ true → Gives o (λ day. names_day day ≡ true) → names_day (unwrap_or o []) ≡ true
    known None s g = cc
    known (Some day) s g = g.holds

unless : (P : Record → Type 0) (b : Bool) (rule : BadRecord) (rest : Result Record BadRecord) → (b ≡ true → IfOk rest P) → IfOk (if not b then Err rule else rest) P
unless P true rule rest h = h refl
unless P false rule rest h = tt

verdict_kept : (d : Draft) → AllKept d.entries → IfOk (verdict d) IsWellFormed
verdict_kept d kept =
    let rec : Record = record_of d in
    unless IsWellFormed (list_any has_value d.entries) Shape _ (λ some.
    unless IsWellFormed (is_type_name d.dtype) Dtype _ (λ t.
    unless IsWellFormed (is_some (day_of d.date)) Date _ (λ day.
    unless IsWellFormed (list_all has_field d.entries) Field _ (λ f.
    unless IsWellFormed (list_all has_vis d.entries) Visibility _ (λ v.
    unless IsWellFormed (list_all has_short_value d.entries) Value _ (λ s.
    unless IsWellFormed (is_small rec) TooLarge _ (λ small. record {
      rules =
          let size = and_parts (nat_le (length rec.cells) 4096) (nat_le (length (canon rec)) 65536) small in
          let many : nat_le 1 (length rec.cells) ≡ true = le-leb 1 (length rec.cells) (set_some (cells_of d.entries) (some_cells d.entries some f v s)) in
          and_from (is_type_name rec.dtype && names_day rec.date && nat_le 1 (length rec.cells) && nat_le (length rec.cells) 4096 && list_all is_cell rec.cells) (nat_le (length (canon rec)) 65536)
          (and_from (is_type_name rec.dtype && names_day rec.date && nat_le 1 (length rec.cells) && nat_le (length rec.cells) 4096) (list_all is_cell rec.cells)
          (and_from (is_type_name rec.dtype && names_day rec.date && nat_le 1 (length rec.cells)) (nat_le (length rec.cells) 4096)
          (and_from (is_type_name rec.dtype && names_day rec.date) (nat_le 1 (length rec.cells)) (and_from (is_type_name rec.dtype) (names_day rec.date) t (day_kept d.date day)) many) size.0)
          (items_kept_in [] (cells_of d.entries) refl (cells_kept d.entries kept))) size.1;
      ordered = set_ascends (cells_of d.entries);
    })))))))

pub json_kept : (d : Data) → IfOk (json.json_record d) IsWellFormed
unfolding json.json_record
json_kept d =
    at (has_only (codes "type" ∷ codes "date" ∷ codes "fields" ∷ codes "vis" ∷ []) d) (text_at (codes "type") d) (text_at (codes "date") d)
    (json.vis_member (get (codes "vis") d) (Some [])) (object_at (codes "fields") d) (member_kept (get (codes "vis") d) (Some []) everyone)
  where
    of_fields : (dtype date : List ℕ) (o : Option (List Entry)) → Gives o AllKept → IfOk (json.fields_verdict dtype date o) IsWellFormed
    of_fields dtype date None k = tt
    of_fields dtype date (Some es) k = verdict_kept (record { dtype = dtype; date = date; entries = es }) k.holds

    parts : (dtype date : Option (List ℕ)) (default : Option (Option (List ℕ))) (fields : Option Members) → Gives default VisKept
        → IfOk (json.parts_verdict dtype date default fields) IsWellFormed
    parts None date default fields v = tt
    parts (Some dtype) None default fields v = tt
    parts (Some dtype) (Some date) None fields v = tt
    parts (Some dtype) (Some date) (Some default) None v = tt
    parts (Some dtype) (Some date) (Some default) (Some fields) v = of_fields dtype date (json.field_entries default fields) (fields_kept default fields v.holds)

    at : (b : Bool) (dtype date : Option (List ℕ)) (default : Option (Option (List ℕ))) (fields : Option Members) → Gives default VisKept
        → IfOk (if b then json.parts_verdict dtype date default fields else Err Shape) IsWellFormed
    at true dtype date default fields v = parts dtype date default fields v
    at false dtype date default fields v = tt

pub csv_kept : (header row : List (List ℕ)) → IfOk (csv.csv_record header row) IsWellFormed
unfolding csv.csv_record
csv_kept header row = at (csv.is_header header && (length row == length header)) (csv.cell_under (codes "@type") header row) (csv.cell_under (codes "@date") header row)
  where
    typed : (dtype date : Option (List ℕ)) → IfOk (csv.typed_verdict dtype date header row) IsWellFormed
    typed None date = tt
    typed (Some dtype) None = tt
    typed (Some dtype) (Some date) =
        let vis : Option (List ℕ) = vis_of (unwrap_or (csv.cell_under (codes "@vis") header row) []) in
        verdict_kept (record { dtype = dtype; date = date; entries = csv.row_entries vis header row })
        (row_kept vis header row (vis_kept (unwrap_or (csv.cell_under (codes "@vis") header row) [])))

    at : (b : Bool) (dtype date : Option (List ℕ)) → IfOk (if b then csv.typed_verdict dtype date header row else Err Shape) IsWellFormed
    at true dtype date = typed dtype date
    at false dtype date = tt
