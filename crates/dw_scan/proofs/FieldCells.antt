-- What the cells that an event gives say to a leaf.
use Rattle.std.proofs.Common.{◌≡◌, ◌≢◌, ℕ, ◌<◌, ◌≤◌, ◌^◌, ◌==◌, zero, suc, Bool, true, false, not, ◌&&◌, ◌||◌, ◌⊎◌, inl, inr, List, [], ◌∷◌, ◌++◌, refl, sym, ap, ◌∙◌, arith, append_assoc}
use Rattle.std.specs.Prelude.{Option, Some, None, nat_le, nat_eq, if◌then◌else◌}
use Rattle.std.specs.Option.{option_map_or}
use Rattle.std.specs.List.{list_any, list_all, starts_with, AllByRecursion}
use Rattle.std.specs.Ordering.{is_eq}
use Rattle.std.specs.Str.{is_utf8}
use Rattle.std.specs.Cmp.{both_ways}
use Rattle.std.specs.Cmp.Lexicographic.{pointwise, bytes_decides}
use Rattle.std.proofs.lemmas.Str.{IsUtf8-from_is_utf8, is_utf8-from_IsUtf8}
use Rattle.std.proofs.lemmas.List.Folds.{list_any-append}
use Rattle.std.proofs.lemmas.List.Elements.{recursion_from_All, All-from_recursion}
use Rattle.std.proofs.lemmas.Bool.Decides.{nat_tests}
use Rattle.dw_key.specs.declared.key.Key.{Key}
use Rattle.dw_key.specs.declared.doc_key.DocKey.{DocKey}
use Rattle.dw_key.specs.DocKeys.{doc_key_cmp}
use Rattle.dw_key.specs.KeyCode.{escaped, part_code, code_of, code}
use Rattle.dw_key.proofs.Prefixes.{no_part_behind}
use Rattle.dw_vis.specs.Test.{is_vis}
use Rattle.dw_vis.specs.Sight.{sees}
use Rattle.dw_norm.specs.declared.kind.Kind.{Kind}
use Rattle.dw_norm.specs.Normal.{norm}
use Rattle.dw_norm.proofs.Zeros.{no_zero_made}
use Rattle.dw_dict.specs.Dictionary.{Dictionary, rule_of}
use Rattle.dw_dict.specs.declared.rule.FieldRule.{FieldRule}
use Rattle.dw_event.specs.declared.cells.EventCell.{EventCell}
use Rattle.dw_event.specs.declared.types.Types.{Types}
use Rattle.dw_event.specs.Names.{lacks_zero, is_raw_value, is_visibility}
use Rattle.dw_event.specs.Records.{is_cell}
use Rattle.dw_event.specs.Take.{Event}
use Rattle.dw_event.specs.Texts.{is_same}
use Rattle.dw_event.specs.Wanted.{is_type_wanted}
use Rattle.dw_outside.specs.declared.slot.Slot.{Slot}
use Rattle.dw_outside.specs.Tables.{is_in_span}
use Rattle.dw_outside.proofs.Spanning.{prefix_span}
use Rattle.dw_base.specs.FieldNames.{is_folded_name}
use Rattle.dw_derive.specs.declared.event_cells.Entry.{Entry}
use Rattle.dw_derive.specs.Entries.{event_key, field_key, forward_entries, backward_entries, index_entries, cell_entries, entries_of, slot_of, slots_of}
use Rattle.dw_derive.specs.Lawful.{record_of, IsEvent}
use Rattle.dw_derive.specs.Readers.{index_reading}
use Rattle.dw_derive.specs.ReaderLaws.{IsDocKey, IsPlainText}
use Rattle.dw_derive.proofs.Decoding.{key_of_code}
use Rattle.dw_derive.proofs.Lists.{any_flat, any_mapped}
use Rattle.dw_derive.proofs.Reading.{begins_with, begins, field_is_plain}
use Rattle.dw_derive.proofs.Rereading.{event_keys, field_keys}
use Rattle.dw_derive.proofs.Shards.{left, right, KeepsRules, rules_of}
use Rattle.dw_eval.specs.Laws.{passes}
use Rattle.dw_tablet.specs.declared.said.Said.TheVariants.{Nothing}
use Rattle.dw_tablet.specs.Said.{event_said, index_said, key_said, visible_said, said_of}
use Rattle.dw_tablet.specs.Places.{shard_start, shard_end}
use Rattle.dw_tablet.specs.Values.{Value, value_if, value_at, kept_if, is_of_doc}
use Rattle.dw_iter.specs.LeafLists.{passed_if, leaf_value}
use Rattle.dw_plan.proofs.Named.{same_is, same_itself}
use Rattle.dw_plan.proofs.NormTexts.{norm_utf8}

-- ---- texts

pub same_texts : (a b : List ℕ) → pointwise nat_eq a b ≡ is_same a b
same_texts a b = both_ways (pointwise nat_eq a b) (is_same a b) (λ h. same_itself a b ((bytes_decides a b).0 h)) (λ h. (bytes_decides a b).1 (same_is a b h))

apart_from_zero : (b : ℕ) → not (b == 0) ≡ true → b ≢ 0
apart_from_zero b h = λ e. clash (ap (λ n. not (n == 0)) (sym e) ∙ h)
  where
    clash : false ≡ true → ⊥
    clash g = cc

all_apart : (xs : List ℕ) → lacks_zero xs ≡ true → AllByRecursion (λ b. b ≢ 0) xs
all_apart [] h = tt
all_apart (x ∷ xs) h = (apart_from_zero x (left (not (x == 0)) (lacks_zero xs) h), all_apart xs (right (not (x == 0)) (lacks_zero xs) h))

all_lack : (xs : List ℕ) → AllByRecursion (λ b. b ≢ 0) xs → lacks_zero xs ≡ true
all_lack [] h = refl
all_lack (zero ∷ xs) h = absurd (h.0 refl)
all_lack (suc x ∷ xs) h = ap (λ b. b && lacks_zero xs) (above x) ∙ all_lack xs h.1
  where
    above : (m : ℕ) → not (suc m == 0) ≡ true
    above m = grind (arith, nat_tests)

-- what is known of a cell
record CellRules (c : EventCell) : Type 0 where
  field : IsPlainText c.field
  raw : is_utf8 c.raw ≡ true
  no_zero : lacks_zero c.raw ≡ true
  vis : is_vis c.vis ≡ true

cell_rules : (c : EventCell) → is_cell c ≡ true → CellRules c
cell_rules c h =
    let more : (is_raw_value c.raw && is_utf8 c.raw && is_visibility c.vis) ≡ true = right (is_folded_name c.field) (is_raw_value c.raw && is_utf8 c.raw && is_visibility c.vis) h in
    let both = left (is_raw_value c.raw && is_utf8 c.raw) (is_visibility c.vis) more in
    record {
      field = field_is_plain c.field (left (is_folded_name c.field) _ h);
      raw = right (is_raw_value c.raw) (is_utf8 c.raw) both;
      no_zero = right _ (lacks_zero c.raw) (left (is_raw_value c.raw) (is_utf8 c.raw) both);
      vis = left (is_vis c.vis) (lacks_zero c.vis) (right (is_raw_value c.raw && is_utf8 c.raw) (is_visibility c.vis) more);
    }

-- a normal form of its is a text without a byte 0
plain_form : (kind : Kind) (c : EventCell) (v : List ℕ) → CellRules c → norm kind c.raw ≡ Some v → IsPlainText v
plain_form kind c v r h =
    let utf8 = IsUtf8-from_is_utf8 c.raw r.raw in record {
      utf8 = is_utf8-from_IsUtf8 v (norm_utf8 kind c.raw v utf8 h);
      no_zero = all_lack v (recursion_from_All (λ b. b ≢ 0) v (no_zero_made kind c.raw v utf8 (All-from_recursion (λ b. b ≢ 0) c.raw (all_apart c.raw r.no_zero)) h));
    }

-- ---- what keys say

none_kept : (test : List ℕ → Bool) (types : Types) (doc : DocKey) (o : Option Value) → o ≡ None → is_of_doc doc (passed_if test (kept_if None (Some types) o)) ≡ false
none_kept test types doc o h = ap (λ x. is_of_doc doc (passed_if test (kept_if None (Some types) x))) h

-- a value counts where all of it is asked for
some_kept : (test : List ℕ → Bool) (types : Types) (doc : DocKey) (v : List ℕ) (d : DocKey) → is_of_doc doc (passed_if test (kept_if None (Some types) (Some (v, d)))) ≡ (is_type_wanted types d.dtype && (test v && is_eq (doc_key_cmp doc d)))
some_kept test types doc v d = at (is_type_wanted types d.dtype) (test v) refl
  where
    at : (a b : Bool) → test v ≡ b → is_of_doc doc (passed_if test (if true && a then Some (v, d) else None)) ≡ (a && (b && is_eq (doc_key_cmp doc d)))
    at true true e = ap (λ t. is_of_doc doc (if t then Some (v, d) else None)) e
    at true false e = ap (λ t. is_of_doc doc (if t then Some (v, d) else None)) e
    at false b e = refl

module _ (field : List ℕ) (names : List (List ℕ)) (snapshot : ℕ) where
  -- the key of an event's cell says no value of a field
  event_says : (e : Event) (c : EventCell) → IsDocKey e.0.key → e.1.batch < 2 ^ 64 → CellRules c → value_at field names snapshot (code (event_key e c)) ≡ None
  unfolding said_of
  event_says e c doc small rules =
      (λ i. value_if field names snapshot (option_map_or visible_said (key_of_code (event_key e c) small i) Nothing))
      ∙ (λ i. value_if field names snapshot (if rules.vis i then key_said (event_key e c) else Nothing))
      ∙ (λ i. value_if field names snapshot (option_map_or (event_said (event_key e c)) ((event_keys e c doc rules.field rules.raw).0 i) (option_map_or (index_said (event_key e c)) (index_reading (event_key e c)) Nothing)))

  -- that of a cell of the field index says its value
  field_says : (e : Event) (c : EventCell) (v : List ℕ) → IsDocKey e.0.key → e.1.batch < 2 ^ 64 → CellRules c → IsPlainText v
      → value_at field names snapshot (code (field_key e c v)) ≡ (if is_same c.field field && (nat_le e.1.batch snapshot && sees c.vis names) then Some (v, e.0.key) else None)
  unfolding said_of
  field_says e c v doc small rules plain =
      let read = field_keys e c v doc rules.field.utf8 plain in
      (λ i. value_if field names snapshot (option_map_or visible_said (key_of_code (field_key e c v) small i) Nothing))
      ∙ (λ i. value_if field names snapshot (if rules.vis i then key_said (field_key e c v) else Nothing))
      ∙ (λ i. value_if field names snapshot (option_map_or (event_said (field_key e c v)) (read.1 i) (option_map_or (index_said (field_key e c v)) (read.0 i) Nothing)))
      ∙ (λ i. if same_texts c.field field i && (nat_le e.1.batch snapshot && sees c.vis names) then Some (v, e.0.key) else None)

-- ---- truth of several tests

and_false : (a : Bool) → (a && false) ≡ false
and_false true = refl
and_false false = refl

and_true : (a : Bool) → (a && true) ≡ a
and_true true = refl
and_true false = refl

shuffled : (b h s w t d : Bool) → (h && ((b && s) && (w && (t && d)))) ≡ (b && (h && (d && (w && (s && t)))))
shuffled false h s w t d = and_false h
shuffled true false s w t d = refl
shuffled true true false w t d = sym (ap (λ x. d && x) (and_false w) ∙ and_false d)
shuffled true true true false t d = sym (and_false d)
shuffled true true true true false d = sym (and_false d)
shuffled true true true true true d = sym (and_true d)

any_and : {A : Type 0} (a : Bool) (p : A → Bool) (xs : List A) → list_any (λ x. a && p x) xs ≡ (a && list_any p xs)
any_and a p [] = sym (and_false a)
any_and true p (x ∷ xs) = ap (λ b. p x || b) (any_and true p xs)
any_and false p (x ∷ xs) = any_and false p xs

any_alike_all : {A : Type 0} (P : A → Type 0) (f g : A → Bool) → ((x : A) → P x → f x ≡ g x) → (xs : List A) → AllByRecursion P xs → list_any f xs ≡ list_any g xs
any_alike_all P f g h [] all = refl
any_alike_all P f g h (x ∷ xs) all = ap (λ b. b || list_any f xs) (h x all.0) ∙ ap (λ b. g x || b) (any_alike_all P f g h xs all.1)

each_cell : (cells : List EventCell) → list_all is_cell cells ≡ true → AllByRecursion (λ (c : EventCell). is_cell c ≡ true) cells
each_cell [] h = tt
each_cell (c ∷ cells) h = (left (is_cell c) (list_all is_cell cells) h, each_cell cells (right (is_cell c) (list_all is_cell cells) h))

-- ---- the cells of a shard

-- a key lies in a shard exactly where its row is the shard
in_shard : (shard : List ℕ) (k : Key) → is_in_span (shard_start shard) (shard_end shard) (code k) ≡ is_same k.row shard
in_shard shard k =
    let front = escaped shard ++ 0 ∷ [] in
    let tail = code_of (k.family ∷ k.qualifier ∷ k.vis ∷ []) k.stamp in
    let start : front ++ 0 ∷ [] ≡ part_code shard = append_assoc (escaped shard) (0 ∷ []) (0 ∷ []) in
    let end : front ++ 1 ∷ [] ≡ shard_end shard = append_assoc (escaped shard) (0 ∷ []) (1 ∷ []) in
    (λ i. is_in_span (sym start i) (sym end i) (code k))
    ∙ prefix_span front 0 (code k)
    ∙ ap (starts_with nat_eq (code k)) start
    ∙ both_ways (starts_with nat_eq (code k) (part_code shard)) (is_same k.row shard)
    (λ h. let b = begins_with (code k) (part_code shard) h in same_itself k.row shard (no_part_behind k.row shard tail b.0 b.1).0)
    (λ h. ap (λ row. starts_with nat_eq (part_code row ++ tail) (part_code shard)) (same_is k.row shard h) ∙ begins (part_code shard) tail)

module _ (shard : List ℕ) (names : List (List ℕ)) (snapshot : ℕ) (types : Types) (field : List ℕ) (test : List ℕ → Bool) (doc : DocKey) (world dict : Dictionary)
    (alike : (snapshot ≡ 0) ⊎ (((rule_of world field).indexed ≡ true) × ((rule_of world field).kind ≡ (rule_of dict field).kind)))
  where
    -- a cell of the shard says a value of the document that meets the leaf
    abbrev pub says : Slot → Bool
    says s = (s.table == 0) && (is_in_span (shard_start shard) (shard_end shard) s.key && is_of_doc doc (leaf_value field test names snapshot types s.key))

    -- a cell of an event is seen, and has such a value
    abbrev pub meets_leaf : EventCell → Bool
    meets_leaf c = sees c.vis names && (is_same c.field field && passes test (norm (rule_of dict c.field).kind c.raw))

    -- and the event is of a batch that is seen, of the shard and the document, and of a type that is asked for
    abbrev pub counts : Event → Bool → Bool
    counts e met = nat_le e.1.batch snapshot && (is_same e.0.shard shard && (is_eq (doc_key_cmp doc e.0.key) && (is_type_wanted types e.0.key.dtype && met)))

    module _ (e : Event) (lawful : IsEvent e) (key : IsDocKey e.0.key) where
      abbrev cell_says : Entry → Bool
      cell_says n = says (slot_of n)

      event_off : (c : EventCell) → CellRules c → cell_says (record { table = 0; key = event_key e c }) ≡ false
      event_off c rules =
          ap (λ b. is_in_span (shard_start shard) (shard_end shard) (code (event_key e c)) && b) (none_kept test types doc (value_at field names snapshot (code (event_key e c))) (event_says field names snapshot e c key lawful.most rules))
          ∙ and_false (is_in_span (shard_start shard) (shard_end shard) (code (event_key e c)))

      -- what a cell of the field index says
      abbrev field_met : EventCell → List ℕ → Bool
      field_met c v = is_same e.0.shard shard && ((is_same c.field field && (nat_le e.1.batch snapshot && sees c.vis names)) && (is_type_wanted types e.0.key.dtype && (test v && is_eq (doc_key_cmp doc e.0.key))))

      kept_where : (b : Bool) (v : List ℕ) → is_of_doc doc (passed_if test (kept_if None (Some types) (if b then Some (v, e.0.key) else None))) ≡ (b && (is_type_wanted types e.0.key.dtype && (test v && is_eq (doc_key_cmp doc e.0.key))))
      kept_where true v = some_kept test types doc v e.0.key
      kept_where false v = refl

      field_on : (c : EventCell) (v : List ℕ) → CellRules c → IsPlainText v → cell_says (record { table = 0; key = field_key e c v }) ≡ field_met c v
      field_on c v rules plain =
          (λ i. in_shard shard (field_key e c v) i && is_of_doc doc (passed_if test (kept_if None (Some types) (field_says field names snapshot e c v key lawful.most rules plain i))))
          ∙ ap (λ b. is_same e.0.shard shard && b) (kept_where (is_same c.field field && (nat_le e.1.batch snapshot && sees c.vis names)) v)

      or_none : (a : Bool) → (a || false) ≡ a
      or_none true = refl
      or_none false = refl

      forward_on : (c : EventCell) (v : List ℕ) → CellRules c → IsPlainText v → (b : Bool) → list_any cell_says (if b then forward_entries e c v else []) ≡ (b && field_met c v)
      forward_on c v rules plain true = or_none (cell_says (record { table = 0; key = field_key e c v })) ∙ field_on c v rules plain
      forward_on c v rules plain false = refl

      backward_off : (c : EventCell) (v : List ℕ) (b : Bool) → list_any cell_says (if b then backward_entries e c v else []) ≡ false
      backward_off c v true = refl
      backward_off c v false = refl

      index_on : (rule : FieldRule) (c : EventCell) (v : List ℕ) → CellRules c → IsPlainText v → list_any cell_says (index_entries rule e c (Some v)) ≡ (rule.indexed && field_met c v)
      index_on rule c v rules plain =
          list_any-append cell_says (if rule.indexed then forward_entries e c v else []) (if rule.reversed then backward_entries e c v else [])
          ∙ (λ i. forward_on c v rules plain rule.indexed i || backward_off c v rule.reversed i)
          ∙ or_none (rule.indexed && field_met c v)

      -- by a form of the value, where the world indexes the field
      of_form : (rule : FieldRule) (c : EventCell) (o : Option (List ℕ)) → norm rule.kind c.raw ≡ o → CellRules c → rule.indexed ≡ true → is_same c.field field ≡ true
          → list_any cell_says (index_entries rule e c o) ≡ counts e (sees c.vis names && (is_same c.field field && passes test o))
      of_form rule c None form rules indexed same =
          sym (ap (counts e) (ap (λ b. sees c.vis names && b) (and_false (is_same c.field field)) ∙ and_false (sees c.vis names))
          ∙ none (nat_le e.1.batch snapshot) (is_same e.0.shard shard) (is_eq (doc_key_cmp doc e.0.key)) (is_type_wanted types e.0.key.dtype))
        where
          none : (a b c d : Bool) → (a && (b && (c && (d && false)))) ≡ false
          none a b c d = ap (λ x. a && (b && (c && x))) (and_false d) ∙ ap (λ x. a && (b && x)) (and_false c) ∙ ap (λ x. a && x) (and_false b) ∙ and_false a
      of_form rule c (Some v) form rules indexed same =
          let plain = plain_form rule.kind c v rules form in
          index_on rule c v rules plain
          ∙ (λ i. indexed i && (is_same e.0.shard shard && ((same i && (nat_le e.1.batch snapshot && sees c.vis names)) && (is_type_wanted types e.0.key.dtype && (test v && is_eq (doc_key_cmp doc e.0.key))))))
          ∙ shuffled (nat_le e.1.batch snapshot) (is_same e.0.shard shard) (sees c.vis names) (is_type_wanted types e.0.key.dtype) (test v) (is_eq (doc_key_cmp doc e.0.key))
          ∙ (λ i. counts e (sees c.vis names && (sym same i && test v)))

      counts_none : (b : Bool) → b ≡ false → counts e b ≡ false
      counts_none b h = ap (counts e) h ∙ none (nat_le e.1.batch snapshot) (is_same e.0.shard shard) (is_eq (doc_key_cmp doc e.0.key)) (is_type_wanted types e.0.key.dtype)
        where
          none : (a b c d : Bool) → (a && (b && (c && (d && false)))) ≡ false
          none a b c d = ap (λ x. a && (b && (c && x))) (and_false d) ∙ ap (λ x. a && (b && x)) (and_false c) ∙ ap (λ x. a && x) (and_false b) ∙ and_false a

      -- a cell of another field
      off_field : (rule : FieldRule) (c : EventCell) (o : Option (List ℕ)) → norm rule.kind c.raw ≡ o → CellRules c → is_same c.field field ≡ false → list_any cell_says (index_entries rule e c o) ≡ false
      off_field rule c None form rules other = refl
      off_field rule c (Some v) form rules other =
          index_on rule c v rules (plain_form rule.kind c v rules form)
          ∙ (λ i. rule.indexed && (is_same e.0.shard shard && ((other i && (nat_le e.1.batch snapshot && sees c.vis names)) && (is_type_wanted types e.0.key.dtype && (test v && is_eq (doc_key_cmp doc e.0.key))))))
          ∙ ap (λ x. rule.indexed && x) (and_false (is_same e.0.shard shard))
          ∙ and_false rule.indexed

      -- nothing is of batch 0
      off_batch : (rule : FieldRule) (c : EventCell) (o : Option (List ℕ)) → norm rule.kind c.raw ≡ o → CellRules c → nat_le e.1.batch snapshot ≡ false → list_any cell_says (index_entries rule e c o) ≡ false
      off_batch rule c None form rules none = refl
      off_batch rule c (Some v) form rules none =
          index_on rule c v rules (plain_form rule.kind c v rules form)
          ∙ (λ i. rule.indexed && (is_same e.0.shard shard && ((is_same c.field field && (none i && sees c.vis names)) && (is_type_wanted types e.0.key.dtype && (test v && is_eq (doc_key_cmp doc e.0.key))))))
          ∙ (λ i. rule.indexed && (is_same e.0.shard shard && (and_false (is_same c.field field) i && (is_type_wanted types e.0.key.dtype && (test v && is_eq (doc_key_cmp doc e.0.key))))))
          ∙ ap (λ x. rule.indexed && x) (and_false (is_same e.0.shard shard))
          ∙ and_false rule.indexed

      before_first : snapshot ≡ 0 → nat_le e.1.batch snapshot ≡ false
      before_first z = grind (arith, nat_tests, z, lawful.first)

      indexed_says : (c : EventCell) → CellRules c → list_any cell_says (index_entries (rule_of world c.field) e c (norm (rule_of world c.field).kind c.raw)) ≡ counts e (meets_leaf c)
      indexed_says c rules = at (is_same c.field field) refl alike
        where
          rule : FieldRule
          rule = rule_of world c.field

          at : (b : Bool) → is_same c.field field ≡ b → (snapshot ≡ 0) ⊎ (((rule_of world field).indexed ≡ true) × ((rule_of world field).kind ≡ (rule_of dict field).kind))
              → list_any cell_says (index_entries (rule_of world c.field) e c (norm (rule_of world c.field).kind c.raw)) ≡ counts e (meets_leaf c)
          at false other h =
              off_field (rule_of world c.field) c (norm (rule_of world c.field).kind c.raw) refl rules other
              ∙ sym (counts_none (meets_leaf c) (ap (λ b. sees c.vis names && (b && passes test (norm (rule_of dict c.field).kind c.raw))) other ∙ and_false (sees c.vis names)))
          at true same (inl z) =
              off_batch (rule_of world c.field) c (norm (rule_of world c.field).kind c.raw) refl rules (before_first z)
              ∙ sym (ap (λ b. b && (is_same e.0.shard shard && (is_eq (doc_key_cmp doc e.0.key) && (is_type_wanted types e.0.key.dtype && meets_leaf c)))) (before_first z))
          at true same (inr h) =
              let f = same_is c.field field same in
              let indexed = ap (λ x. (rule_of world x).indexed) f ∙ h.0 in
              let kind = ap (λ x. (rule_of world x).kind) f ∙ h.1 ∙ sym (ap (λ x. (rule_of dict x).kind) f) in
              of_form (rule_of world c.field) c (norm (rule_of world c.field).kind c.raw) refl rules indexed same
              ∙ ap (λ k. counts e (sees c.vis names && (is_same c.field field && passes test (norm k c.raw)))) kind

      one_cell : (c : EventCell) → is_cell c ≡ true → list_any cell_says (cell_entries world e c) ≡ counts e (meets_leaf c)
      one_cell c h =
          let rules = cell_rules c h in
          ap (λ b. b || list_any cell_says (index_entries (rule_of world c.field) e c (norm (rule_of world c.field).kind c.raw))) (event_off c rules)
          ∙ indexed_says c rules

    -- among the cells that an event gives
    pub event_counts : (e : Event) → IsEvent e → list_any says (slots_of world e) ≡ counts e (list_any meets_leaf e.1.cells)
    event_counts e lawful =
        let rules : KeepsRules (record_of e) = rules_of (record_of e) lawful.rules.rules in
        let key : IsDocKey e.0.key = record { dtype = rules.dtype; uid = lawful.uid } in
        any_mapped says slot_of (entries_of world e)
        ∙ any_flat (λ n. says (slot_of n)) (cell_entries world e) e.1.cells
        ∙ any_alike_all (λ c. is_cell c ≡ true) _ _ (λ c h. one_cell e lawful key c h) e.1.cells (each_cell e.1.cells rules.cells)
        ∙ any_and (nat_le e.1.batch snapshot) (λ c. is_same e.0.shard shard && (is_eq (doc_key_cmp doc e.0.key) && (is_type_wanted types e.0.key.dtype && meets_leaf c))) e.1.cells
        ∙ ap (λ x. nat_le e.1.batch snapshot && x) (any_and (is_same e.0.shard shard) (λ c. is_eq (doc_key_cmp doc e.0.key) && (is_type_wanted types e.0.key.dtype && meets_leaf c)) e.1.cells
        ∙ ap (λ x. is_same e.0.shard shard && x) (any_and (is_eq (doc_key_cmp doc e.0.key)) (λ c. is_type_wanted types e.0.key.dtype && meets_leaf c) e.1.cells
        ∙ ap (λ x. is_eq (doc_key_cmp doc e.0.key) && x) (any_and (is_type_wanted types e.0.key.dtype) meets_leaf e.1.cells)))
