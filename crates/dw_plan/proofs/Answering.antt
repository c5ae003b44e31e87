-- What answers a query stands in a shard that it reads.
use Rattle.std.proofs.Common.{◌≡◌, ◌≢◌, inl, inr, ℕ, ◌≤◌, ◌==◌, Bool, true, false, cond, not, ◌&&◌, ◌||◌, nat_eq, List, [], ◌∷◌, map, Option, Some, None, refl, sym, ap, subst, ◌∙◌, arith}
use Rattle.std.specs.Prelude.{nat_le}
use Rattle.std.specs.Option.{option_map_or}
use Rattle.std.specs.List.{list_all, list_any, filter, starts_with, ends_with, AllByRecursion}
use Rattle.std.specs.Str.{is_utf8, IsUtf8}
use Rattle.std.specs.Cmp.{IsTotalOrder}
use Rattle.std.specs.Cmp.Lexicographic.{nat_list_cmp_total}
use Rattle.std.proofs.lemmas.Cmp.{on_total, then_total}
use Rattle.std.proofs.lemmas.Bool.{and_parts, and_from, eq-eqb}
use Rattle.std.proofs.lemmas.Bool.Decides.{nat_tests}
use Rattle.std.proofs.lemmas.List.Folds.{list_any-append}
use Rattle.std.proofs.lemmas.Str.{IsUtf8-from_is_utf8, is_utf8-from_IsUtf8}
use Rattle.dw_base.proofs.Members.{StandsIn}
use Rattle.dw_key.specs.declared.key.Key.{Key}
use Rattle.dw_key.specs.KeyCode.{code}
use Rattle.dw_vis.specs.Sight.{sees}
use Rattle.dw_vis.specs.Test.{is_vis}
use Rattle.dw_norm.specs.Normal.{norm}
use Rattle.dw_norm.specs.Reversal.{rev}
use Rattle.dw_norm.proofs.Reversals.{reversed_twice}
use Rattle.dw_dict.specs.Rules.{Widens, widens, kind_number}
use Rattle.dw_dict.specs.Dictionary.{Dictionary, rule_of}
use Rattle.dw_dict.specs.declared.rule.FieldRule.{FieldRule}
use Rattle.dw_event.specs.declared.cells.EventCell.{EventCell}
use Rattle.dw_event.specs.declared.views.Pair.{Pair}
use Rattle.dw_event.specs.declared.reports.Shown.{Shown}
use Rattle.dw_event.specs.declared.types.Types.{Types}
use Rattle.dw_event.specs.Names.{lacks_zero, is_raw_value, is_visibility}
use Rattle.dw_event.specs.Records.{is_cell}
use Rattle.dw_base.specs.FieldNames.{is_folded_name}
use Rattle.dw_event.specs.Seen.{shown_of, is_seen}
use Rattle.dw_event.specs.Take.{Event}
use Rattle.dw_event.specs.Texts.{is_same}
use Rattle.dw_event.specs.Views.{pair_cmp, exact_pairs, pair_of, seen_pairs, view_of}
use Rattle.dw_event.specs.Wanted.{is_in_range, is_type_wanted}
use Rattle.dw_outside.specs.declared.slot.Slot.{Slot}
use Rattle.dw_derive.specs.declared.event_cells.Entry.{Entry}
use Rattle.dw_derive.specs.Entries.{global_key, forward_entries, backward_entries, index_entries, cell_entries, entries_of, slot_of, slots_of}
use Rattle.dw_derive.specs.Readers.{GlobalReading}
use Rattle.dw_derive.specs.Decoded.{key_from, has_key}
use Rattle.dw_derive.specs.World.{World}
use Rattle.dw_derive.specs.Tables.{tables}
use Rattle.dw_derive.specs.Lawful.{record_of, IsEvent, IsWorld}
use Rattle.dw_derive.proofs.Lists.{any_mapped, any_flat, all_filtered, all_pass}
use Rattle.dw_derive.proofs.Sets.{any_filtered, any_set}
use Rattle.dw_derive.proofs.Shards.{left, right, KeepsRules, rules_of, shard_lacks}
use Rattle.dw_derive.proofs.Reading.{field_is_plain}
use Rattle.dw_derive.proofs.Rereading.{global_keys}
use Rattle.dw_derive.proofs.Decoding.{key_of_code}
use Rattle.dw_derive.proofs.Stepping.{any_cell}
use Rattle.dw_eval.specs.declared.nview.Formed.{Formed}
use Rattle.dw_eval.specs.declared.open_query.OpenQuery.{OpenQuery}
use Rattle.dw_eval.specs.declared.nquery.NQuery.{NQuery, map-NQuery}
use Rattle.dw_eval.specs.declared.nquery.NQuery.TheOpen.{NQuery-F}
use Rattle.dw_eval.specs.declared.nquery.NQuery.TheOpen as layer
use Rattle.dw_eval.specs.declared.nquery.NQuery.TheViews.{roll-NQuery}
use Rattle.dw_eval.specs.declared.nquery.NQuery.TheFolds.{fold-roll-NQuery, ind-NQuery}
use Rattle.dw_eval.specs.Laws.{passes}
use Rattle.dw_eval.specs.Leaves.{some_value, is_above, is_below}
use Rattle.dw_eval.specs.Values.{normal_view}
use Rattle.dw_eval.specs.Sat.{sat, sat_step}
use Rattle.dw_eval.specs.Answer.{is_answer, answer_of}
use Rattle.dw_eval.proofs.Forms.{forms_of_values}
use Rattle.dw_plan.specs.Anchored.{Place}
use Rattle.dw_plan.specs.Hit.{told_by, some_cell, says_value, forward, backward, is_shard_name, is_in_days, is_hit, named_shards, hit_shards}
use Rattle.dw_plan.specs.Joins.{has}
use Rattle.dw_plan.specs.Staying.{all_joined, holds_leaf, stays, stay_step}
use Rattle.dw_plan.specs.PlanLaws.{is_ruled, is_ruled_as, ruled_step, StandsFor, AnswersAreHit}
use Rattle.dw_plan.proofs.Named.{same_is, same_itself, has_filter}
use Rattle.dw_plan.proofs.NormTexts.{norm_utf8}
use Rattle.dw_plan.proofs.Backward.{utf8_reversed}
use Rattle.dw_plan.proofs.EventShards.{event_shard}
use Rattle.dw_plan.proofs.Valued.{stays_named, valued}
use Rattle.dw_plan.proofs.Hitting.{named_has}

-- ---- lists

or_right : (a b : Bool) → b ≡ true → (a || b) ≡ true
or_right true b h = refl
or_right false b h = h

or_left : (a b : Bool) → a ≡ true → (a || b) ≡ true
or_left true b h = refl
or_left false b h = cc

stands_any : {A : Type 0} (p : A → Bool) (xs : List A) (x : A) → StandsIn xs x → p x ≡ true → list_any p xs ≡ true
stands_any p [] x h k = absurd h
stands_any p (y ∷ ys) x (inl e) k = or_left (p y) (list_any p ys) (ap p e ∙ k)
stands_any p (y ∷ ys) x (inr h) k = or_right (p y) (list_any p ys) (stands_any p ys x h k)

-- what passes one test among those that pass another passes a third
pub any_of_all : {A : Type 0} (r p q : A → Bool) → ((x : A) → r x ≡ true → p x ≡ true → q x ≡ true) → (xs : List A) → list_all r xs ≡ true → list_any p xs ≡ true → list_any q xs ≡ true
any_of_all r p q f [] all h = cc
any_of_all r p q f (x ∷ xs) all h =
    let parts = and_parts (r x) (list_all r xs) all in
    at (p x) refl h parts.0 (any_of_all r p q f xs parts.1)
  where
    at : (b : Bool) → p x ≡ b → (b || list_any p xs) ≡ true → r x ≡ true → (list_any p xs ≡ true → list_any q xs ≡ true) → (q x || list_any q xs) ≡ true
    at true e k g more = or_left (q x) (list_any q xs) (f x g e)
    at false e k g more = or_right (q x) (list_any q xs) (more k)

all_more : {A : Type 0} (P Q : A → Type 0) → ((x : A) → P x → Q x) → (xs : List A) → AllByRecursion P xs → AllByRecursion Q xs
all_more P Q f [] h = tt
all_more P Q f (x ∷ xs) h = (f x h.0, all_more P Q f xs h.1)

pub all_both : {A : Type 0} (P Q : A → Type 0) (xs : List A) → AllByRecursion P xs → AllByRecursion Q xs → AllByRecursion (λ x. P x × Q x) xs
all_both P Q [] h k = tt
all_both P Q (x ∷ xs) h k = ((h.0, k.0), all_both P Q xs h.1 k.1)

pub all_stand : {A : Type 0} (xs : List A) → AllByRecursion (StandsIn xs) xs
all_stand [] = tt
all_stand (x ∷ xs) = (inl refl, all_more (StandsIn xs) (StandsIn (x ∷ xs)) (λ y h. inr h) xs (all_stand xs))

all_images : {A B : Type 0} (P : A → Type 0) (f : A → B) (xs : List A) → AllByRecursion P xs → AllByRecursion (λ (y : B). (x : A) × P x × (y ≡ f x)) (map f xs)
all_images P f [] h = tt
all_images P f (x ∷ xs) h = ((x, h.0, refl), all_images P f xs h.1)

pairs_total : IsTotalOrder pair_cmp
pairs_total = then_total (on_total (λ p. p.field) nat_list_cmp_total) (on_total (λ p. p.raw) nat_list_cmp_total)

-- a form that passes
passed : (test : List ℕ → Bool) (o : Option (List ℕ)) → passes test o ≡ true → (v : List ℕ) × (o ≡ Some v) × (test v ≡ true)
passed test None h = cc
passed test (Some v) h = (v, refl, h)

-- ---- rules

module _ (w : World) (dict : Dictionary) (widened : (field : List ℕ) → Widens (rule_of w.dict field) (rule_of dict field)) where
  -- the world indexes what the leaf's rule says
  pub indexed_there : (field : List ℕ) (rule : FieldRule) → is_ruled_as dict field rule ≡ true → rule.indexed ≡ true → (rule_of w.dict field).indexed ≡ true
  indexed_there field rule h i =
      let p = and_parts (widens (rule_of dict field) rule) (widens rule (rule_of dict field)) h in
      let d = rule_of dict field in
      let parts = and_parts (kind_number d.kind == kind_number rule.kind) (d.indexed || not rule.indexed) (and_parts ((kind_number d.kind == kind_number rule.kind) && (d.indexed || not rule.indexed)) (d.reversed || not rule.reversed) p.0).0 in
      (widened field).1 (kept d.indexed rule.indexed parts.1 i)
    where
      kept : (a b : Bool) → (a || not b) ≡ true → b ≡ true → a ≡ true
      kept true b g k = refl
      kept false true g k = cc
      kept false false g k = cc

  pub reversed_there : (field : List ℕ) (rule : FieldRule) → is_ruled_as dict field rule ≡ true → rule.reversed ≡ true → (rule_of w.dict field).reversed ≡ true
  reversed_there field rule h i =
      let p = and_parts (widens (rule_of dict field) rule) (widens rule (rule_of dict field)) h in
      let d = rule_of dict field in
      let part = (and_parts ((kind_number d.kind == kind_number rule.kind) && (d.indexed || not rule.indexed)) (d.reversed || not rule.reversed) p.0).1 in
      (widened field).2 (kept d.reversed rule.reversed part i)
    where
      kept : (a b : Bool) → (a || not b) ≡ true → b ≡ true → a ≡ true
      kept true b g k = refl
      kept false true g k = cc
      kept false false g k = cc

-- ---- the cells of an event

module _ (w : World) (names : List (List ℕ)) (types : Types) (e : Event) (lawful : IsEvent e) (there : StandsIn w.events e) (asked : is_type_wanted types e.0.key.dtype ≡ true) where
  rules : KeepsRules (record_of e)
  rules = rules_of (record_of e) lawful.rules.rules

  abbrev keyed : (GlobalReading → Bool) → Key → Bool
  keyed test k = option_map_or test (told_by names k) false

  abbrev reading : EventCell → List ℕ → GlobalReading
  reading c v = record { value = v; field = c.field; shard = e.0.shard; dtype = e.0.key.dtype }

  no_meta : (n : ℕ) (test : GlobalReading → Bool) → (3 == n) ≡ false → (s : Slot) → s.table ≡ 3 → has_key n (keyed test) s ≡ false
  no_meta n test h s t = ap (λ k. (k == n) && option_map_or (keyed test) (key_from s.key) false) t ∙ ap (λ b. b && option_map_or (keyed test) (key_from s.key) false) h

  -- an entry of the event is a cell of the tables
  given : (n : ℕ) (test : GlobalReading → Bool) → (3 == n) ≡ false
      → list_any (λ c. list_any (λ m. has_key n (keyed test) (slot_of m)) (cell_entries w.dict e c)) e.1.cells ≡ true → some_cell (tables w) names n test ≡ true
  given n test h k =
      any_cell w (has_key n (keyed test)) (no_meta n test h)
      ∙ stands_any (λ d. list_any (has_key n (keyed test)) (slots_of w.dict d)) w.events e there
      (any_mapped (has_key n (keyed test)) slot_of (entries_of w.dict e) ∙ any_flat (λ m. has_key n (keyed test) (slot_of m)) (cell_entries w.dict e) e.1.cells ∙ k)

  -- a cell that is seen says what it is of
  key_passes : (n : ℕ) (test : GlobalReading → Bool) (c : EventCell) (v : List ℕ) → is_cell c ≡ true → sees c.vis names ≡ true → is_utf8 v ≡ true → test (reading c v) ≡ true
      → has_key n (keyed test) (record { table = n; key = code (global_key e c v) }) ≡ true
  key_passes n test c v cell seen utf8 h =
      let more : (is_raw_value c.raw && is_utf8 c.raw && is_visibility c.vis) ≡ true = right (is_folded_name c.field) (is_raw_value c.raw && is_utf8 c.raw && is_visibility c.vis) cell in
      let vis : is_vis c.vis ≡ true = left (is_vis c.vis) (lacks_zero c.vis) (right (is_raw_value c.raw && is_utf8 c.raw) (is_visibility c.vis) more) in
      let field = field_is_plain c.field (left (is_folded_name c.field) _ cell) in
      and_from (n == n) (option_map_or (keyed test) (key_from (code (global_key e c v))) false) (eq-eqb n n refl)
      (ap (λ o. option_map_or (keyed test) o false) (key_of_code (global_key e c v) (omega arith))
      ∙ (λ i. option_map_or test (cond (vis i && seen i) (global_keys e c v rules.dtype (shard_lacks e lawful) field.utf8 utf8 i) None) false)
      ∙ h)

  -- a value of an indexed field stands in table 1
  pub forward_entry : (test : GlobalReading → Bool) (c : EventCell) (v : List ℕ) → (rule_of w.dict c.field).indexed ≡ true → norm (rule_of w.dict c.field).kind c.raw ≡ Some v → is_cell c ≡ true → sees c.vis names ≡ true → is_utf8 v ≡ true → test (reading c v) ≡ true
      → list_any (λ m. has_key 1 (keyed test) (slot_of m)) (cell_entries w.dict e c) ≡ true
  forward_entry test c v indexed form cell seen utf8 h =
      let p = λ (m : Entry). has_key 1 (keyed test) (slot_of m) in
      let rule = rule_of w.dict c.field in
      ap (λ o. list_any p (index_entries rule e c o)) form
      ∙ list_any-append p (cond rule.indexed (forward_entries e c v) []) (cond rule.reversed (backward_entries e c v) [])
      ∙ or_left _ (list_any p (cond rule.reversed (backward_entries e c v) []))
      (ap (λ b. list_any p (cond b (forward_entries e c v) [])) indexed ∙ or_left (has_key 1 (keyed test) (record { table = 1; key = code (global_key e c v) })) false (key_passes 1 test c v cell seen utf8 h))

  -- and one of a reversed field, back to front, in table 2
  pub backward_entry : (test : GlobalReading → Bool) (c : EventCell) (v : List ℕ) → (rule_of w.dict c.field).reversed ≡ true → norm (rule_of w.dict c.field).kind c.raw ≡ Some v → is_cell c ≡ true → sees c.vis names ≡ true → is_utf8 (rev v) ≡ true → test (reading c (rev v)) ≡ true
      → list_any (λ m. has_key 2 (keyed test) (slot_of m)) (cell_entries w.dict e c) ≡ true
  backward_entry test c v reversed form cell seen utf8 h =
      let p = λ (m : Entry). has_key 2 (keyed test) (slot_of m) in
      let rule = rule_of w.dict c.field in
      ap (λ o. list_any p (index_entries rule e c o)) form
      ∙ list_any-append p (cond rule.indexed (forward_entries e c v) []) (cond rule.reversed (backward_entries e c v) [])
      ∙ or_right (list_any p (cond rule.indexed (forward_entries e c v) [])) _
      (ap (λ b. list_any p (cond b (backward_entries e c v) [])) reversed ∙ or_left (has_key 2 (keyed test) (record { table = 2; key = code (global_key e c (rev v)) })) false (key_passes 2 test c (rev v) cell seen utf8 h))

  -- ---- from values to cells

  module _ (dict : Dictionary) where
    abbrev view : List Formed
    view = normal_view dict (view_of names e.1.cells)

    abbrev shows : List ℕ → (List ℕ → Bool) → EventCell → Bool
    shows field meets c = sees c.vis names && (is_same c.field field && passes meets (norm (rule_of dict c.field).kind c.raw))

    cells_show : (field : List ℕ) (meets : List ℕ → Bool) → some_value view field meets ≡ list_any (shows field meets) e.1.cells
    cells_show field meets =
        let p = λ (x : Pair). is_same x.field field && passes meets (norm (rule_of dict x.field).kind x.raw) in
        forms_of_values dict (view_of names e.1.cells) field meets
        ∙ any_set pair_cmp exact_pairs pairs_total p (seen_pairs names e.1.cells)
        ∙ any_mapped p pair_of (filter (λ c. sees c.vis names) e.1.cells)
        ∙ any_filtered (λ c. p (pair_of c)) (λ c. sees c.vis names) e.1.cells

    -- what a cell shows that passes
    pub record Shows (field : List ℕ) (meets : List ℕ → Bool) (c : EventCell) : Type 0 where
      pub seen : sees c.vis names ≡ true
      pub field_is : c.field ≡ field
      pub value : List ℕ
      pub form : norm (rule_of w.dict c.field).kind c.raw ≡ Some value
      pub utf8 : IsUtf8 value
      pub meet : meets value ≡ true

    shown_parts : (field : List ℕ) (meets : List ℕ → Bool) (c : EventCell) → (rule_of w.dict field).kind ≡ (rule_of dict field).kind → is_cell c ≡ true → shows field meets c ≡ true → Shows field meets c
    shown_parts field meets c kinds cell h =
        let p = and_parts (sees c.vis names) (is_same c.field field && passes meets (norm (rule_of dict c.field).kind c.raw)) h in
        let q = and_parts (is_same c.field field) (passes meets (norm (rule_of dict c.field).kind c.raw)) p.1 in
        let there = same_is c.field field q.0 in
        let found = passed meets (norm (rule_of dict c.field).kind c.raw) q.1 in
        let kind : (rule_of w.dict c.field).kind ≡ (rule_of dict c.field).kind = ap (λ f. (rule_of w.dict f).kind) there ∙ kinds ∙ ap (λ f. (rule_of dict f).kind) (sym there) in
        let form : norm (rule_of w.dict c.field).kind c.raw ≡ Some found.0 = ap (λ k. norm k c.raw) kind ∙ found.1 in
        let more : (is_raw_value c.raw && is_utf8 c.raw && is_visibility c.vis) ≡ true = right (is_folded_name c.field) (is_raw_value c.raw && is_utf8 c.raw && is_visibility c.vis) cell in
        let raw : is_utf8 c.raw ≡ true = right (is_raw_value c.raw) (is_utf8 c.raw) (left (is_raw_value c.raw && is_utf8 c.raw) (is_visibility c.vis) more) in
        record {
          seen = p.0;
          field_is = there;
          value = found.0;
          form = form;
          utf8 = norm_utf8 (rule_of w.dict c.field).kind c.raw found.0 (IsUtf8-from_is_utf8 c.raw raw) form;
          meet = found.2;
        }

    says_it : (field : List ℕ) (meets : List ℕ → Bool) (c : EventCell) (v : List ℕ) → c.field ≡ field → meets v ≡ true → says_value types e.0.shard field meets (reading c v) ≡ true
    says_it field meets c v f h =
        and_from (is_same e.0.shard e.0.shard && is_type_wanted types e.0.key.dtype && is_same field c.field) (meets v)
        (and_from (is_same e.0.shard e.0.shard && is_type_wanted types e.0.key.dtype) (is_same field c.field)
        (and_from (is_same e.0.shard e.0.shard) (is_type_wanted types e.0.key.dtype) (same_itself e.0.shard e.0.shard refl) asked)
        (same_itself field c.field (sym f))) h

    forward_met : (field : List ℕ) (meets : List ℕ → Bool) → (rule_of w.dict field).kind ≡ (rule_of dict field).kind → (rule_of w.dict field).indexed ≡ true → some_value view field meets ≡ true → forward (tables w) names types e.0.shard field meets ≡ true
    forward_met field meets kinds indexed h =
        given 1 (says_value types e.0.shard field meets) refl
        (any_of_all is_cell (shows field meets) (λ c. list_any (λ m. has_key 1 (keyed (says_value types e.0.shard field meets)) (slot_of m)) (cell_entries w.dict e c))
        (λ c cell k.
        let s = shown_parts field meets c kinds cell k in
        forward_entry (says_value types e.0.shard field meets) c s.value (ap (λ f. (rule_of w.dict f).indexed) s.field_is ∙ indexed) s.form cell s.seen (is_utf8-from_IsUtf8 s.value s.utf8) (says_it field meets c s.value s.field_is s.meet))
        e.1.cells rules.cells (sym (cells_show field meets) ∙ h))

    backward_met : (field : List ℕ) (meets : List ℕ → Bool) → (rule_of w.dict field).kind ≡ (rule_of dict field).kind → (rule_of w.dict field).reversed ≡ true → some_value view field meets ≡ true → backward (tables w) names types e.0.shard field meets ≡ true
    backward_met field meets kinds reversed h =
        let back = λ (value : List ℕ). meets (rev value) in
        given 2 (says_value types e.0.shard field back) refl
        (any_of_all is_cell (shows field meets) (λ c. list_any (λ m. has_key 2 (keyed (says_value types e.0.shard field back)) (slot_of m)) (cell_entries w.dict e c))
        (λ c cell k.
        let s = shown_parts field meets c kinds cell k in
        backward_entry (says_value types e.0.shard field back) c s.value (ap (λ f. (rule_of w.dict f).reversed) s.field_is ∙ reversed) s.form cell s.seen (is_utf8-from_IsUtf8 (rev s.value) (utf8_reversed s.value s.utf8))
        (says_it field back c (rev s.value) s.field_is (ap meets (reversed_twice s.value s.utf8) ∙ s.meet)))
        e.1.cells rules.cells (sym (cells_show field meets) ∙ h))

    -- ---- queries

    module _ (widened : (field : List ℕ) → Widens (rule_of w.dict field) (rule_of dict field)) where
      abbrev stay : NQuery → Place → Bool
      stay = stays (tables w) names types e.0.shard

      abbrev Meets : NQuery → Type 0
      Meets q = (place : Place) → is_ruled dict q ≡ true → sat view q ≡ place → stay q place ≡ true

      abbrev Child : Type 0
      Child = (q : NQuery) × Meets q

      abbrev those : List Child → List NQuery
      those es = map (λ c. c.0) es

      ruled_of : (y : NQuery-F NQuery) → is_ruled dict (roll-NQuery y) ≡ ruled_step dict (map-NQuery NQuery Bool (is_ruled dict) y)
      ruled_of y = fold-roll-NQuery Bool (ruled_step dict) y

      sat_of : (y : NQuery-F NQuery) → sat view (roll-NQuery y) ≡ sat_step view (map-NQuery NQuery Bool (sat view) y)
      sat_of y = fold-roll-NQuery Bool (sat_step view) y

      stay_of : (y : NQuery-F NQuery) (place : Place) → stay (roll-NQuery y) place ≡ stay_step (tables w) names types e.0.shard (map-NQuery NQuery (Place → Bool) stay y) place
      stay_of y place = ap (λ f. f place) (fold-roll-NQuery (Place → Bool) (stay_step (tables w) names types e.0.shard) y)

      abbrev rest : Bool → Place → List Child → Bool
      rest both place es = all_joined both (map (λ (c : Place → Bool). c place) (map stay (those es)))

      abbrev ruled_all : List Child → Bool
      ruled_all es = list_all (λ b. b) (map (is_ruled dict) (those es))

      and_true : (es : List Child) → ruled_all es ≡ true → list_all (λ b. b) (map (sat view) (those es)) ≡ true → rest true true es ≡ true
      and_true [] r h = refl
      and_true (c ∷ cs) r h =
          let p = and_parts (is_ruled dict c.0) (ruled_all cs) r in
          let k = and_parts (sat view c.0) (list_all (λ b. b) (map (sat view) (those cs))) h in
          and_from (stay c.0 true) (rest true true cs) (c.1 true p.0 k.0) (and_true cs p.1 k.1)

      or_true : (es : List Child) → ruled_all es ≡ true → list_any (λ b. b) (map (sat view) (those es)) ≡ true → rest false true es ≡ true
      or_true [] r h = cc
      or_true (c ∷ cs) r h =
          let p = and_parts (is_ruled dict c.0) (ruled_all cs) r in
          at (sat view c.0) refl h p.0 (or_true cs p.1)
        where
          at : (b : Bool) → sat view c.0 ≡ b → (b || list_any (λ x. x) (map (sat view) (those cs))) ≡ true → is_ruled dict c.0 ≡ true → (list_any (λ x. x) (map (sat view) (those cs)) ≡ true → rest false true cs ≡ true) → rest false true (c ∷ cs) ≡ true
          at true s k g more = or_left (stay c.0 true) (rest false true cs) (c.1 true g s)
          at false s k g more = or_right (stay c.0 true) (rest false true cs) (more k)

      and_false : (es : List Child) → ruled_all es ≡ true → list_all (λ b. b) (map (sat view) (those es)) ≡ false → rest false false es ≡ true
      and_false [] r h = cc
      and_false (c ∷ cs) r h =
          let p = and_parts (is_ruled dict c.0) (ruled_all cs) r in
          at (sat view c.0) refl h p.0 (and_false cs p.1)
        where
          at : (b : Bool) → sat view c.0 ≡ b → (b && list_all (λ x. x) (map (sat view) (those cs))) ≡ false → is_ruled dict c.0 ≡ true → (list_all (λ x. x) (map (sat view) (those cs)) ≡ false → rest false false cs ≡ true) → rest false false (c ∷ cs) ≡ true
          at true s k g more = or_right (stay c.0 false) (rest false false cs) (more k)
          at false s k g more = or_left (stay c.0 false) (rest false false cs) (c.1 false g s)

      or_false : (es : List Child) → ruled_all es ≡ true → list_any (λ b. b) (map (sat view) (those es)) ≡ false → rest true false es ≡ true
      or_false [] r h = refl
      or_false (c ∷ cs) r h =
          let p = and_parts (is_ruled dict c.0) (ruled_all cs) r in
          at (sat view c.0) refl h p.0 (or_false cs p.1)
        where
          at : (b : Bool) → sat view c.0 ≡ b → (b || list_any (λ x. x) (map (sat view) (those cs))) ≡ false → is_ruled dict c.0 ≡ true → (list_any (λ x. x) (map (sat view) (those cs)) ≡ false → rest true false cs ≡ true) → rest true false (c ∷ cs) ≡ true
          at true s k g more = cc
          at false s k g more = and_from (stay c.0 false) (rest true false cs) (c.1 false g s) (more k)

      -- a leaf at a positive place that is an anchor is met
      held : (anchor met : Bool) → (anchor ≡ true → met ≡ true) → holds_leaf anchor met ≡ true
      held true met f = f refl
      held false met f = refl

      at_leaf : (y : NQuery-F NQuery) (rule_flag met : Bool) → ((place : Place) → stay_step (tables w) names types e.0.shard (map-NQuery NQuery (Place → Bool) stay y) place ≡ holds_leaf (place && rule_flag) met)
          → (is_ruled dict (roll-NQuery y) ≡ true → sat view (roll-NQuery y) ≡ true → rule_flag ≡ true → met ≡ true) → Meets (roll-NQuery y)
      at_leaf y flag met s f true r h = stay_of y true ∙ s true ∙ held flag met (f r h)
      at_leaf y flag met s f false r h = stay_of y false ∙ s false

      no_leaf : (y : NQuery-F NQuery) → ((place : Place) → stay_step (tables w) names types e.0.shard (map-NQuery NQuery (Place → Bool) stay y) place ≡ true) → Meets (roll-NQuery y)
      no_leaf y s place r h = stay_of y place ∙ s place

      by_table_1 : (y : NQuery-F NQuery) (field : List ℕ) (rule : FieldRule) (meets : List ℕ → Bool) → ruled_step dict (map-NQuery NQuery Bool (is_ruled dict) y) ≡ is_ruled_as dict field rule → sat_step view (map-NQuery NQuery Bool (sat view) y) ≡ some_value view field meets
          → is_ruled dict (roll-NQuery y) ≡ true → sat view (roll-NQuery y) ≡ true → rule.indexed ≡ true → forward (tables w) names types e.0.shard field meets ≡ true
      by_table_1 y field rule meets a b r h i =
          forward_met field meets (widened field).0 (indexed_there w dict widened field rule (sym a ∙ sym (ruled_of y) ∙ r) i) (sym b ∙ sym (sat_of y) ∙ h)

      by_table_2 : (y : NQuery-F NQuery) (field : List ℕ) (rule : FieldRule) (meets : List ℕ → Bool) → ruled_step dict (map-NQuery NQuery Bool (is_ruled dict) y) ≡ is_ruled_as dict field rule → sat_step view (map-NQuery NQuery Bool (sat view) y) ≡ some_value view field meets
          → is_ruled dict (roll-NQuery y) ≡ true → sat view (roll-NQuery y) ≡ true → rule.reversed ≡ true → backward (tables w) names types e.0.shard field meets ≡ true
      by_table_2 y field rule meets a b r h i =
          backward_met field meets (widened field).0 (reversed_there w dict widened field rule (sym a ∙ sym (ruled_of y) ∙ r) i) (sym b ∙ sym (sat_of y) ∙ h)

      not_place : (b place : Bool) → not b ≡ place → b ≡ not place
      not_place true place h = ap not h
      not_place false place h = ap not h

      layer_meets : (y : NQuery-F Child) → Meets (roll-NQuery (map-NQuery Child NQuery (λ c. c.0) y))
      layer_meets (layer.Equal f r v) = at_leaf (layer.Equal f r v) r.indexed _ (λ p. refl) (by_table_1 (layer.Equal f r v) f r (λ form. is_same form v) refl refl)
      layer_meets (layer.Below f r v g) = no_leaf (layer.Below f r v g) (λ p. refl)
      layer_meets (layer.Above f r v g) = no_leaf (layer.Above f r v g) (λ p. refl)
      layer_meets (layer.Between f r l d h g) = at_leaf (layer.Between f r l d h g) r.indexed _ (λ p. refl) (by_table_1 (layer.Between f r l d h g) f r (λ form. is_above form l d && is_below form h g) refl refl)
      layer_meets (layer.Starts f r x) = at_leaf (layer.Starts f r x) r.indexed _ (λ p. refl) (by_table_1 (layer.Starts f r x) f r (λ form. starts_with nat_eq form x) refl refl)
      layer_meets (layer.Ends f r x) = at_leaf (layer.Ends f r x) r.reversed (backward (tables w) names types e.0.shard f (λ form. ends_with nat_eq form x)) (λ p. refl) (by_table_2 (layer.Ends f r x) f r (λ form. ends_with nat_eq form x) refl refl)
      layer_meets (layer.Holds f r x) = no_leaf (layer.Holds f r x) (λ p. refl)
      layer_meets (layer.Not c) = λ place r h.
          stay_of (layer.Not c.0) place ∙ c.1 (not place) (sym (ruled_of (layer.Not c.0)) ∙ r) (not_place (sat view c.0) place (sym (sat_of (layer.Not c.0)) ∙ h))
      layer_meets (layer.And es) = at
        where
          at : Meets (roll-NQuery (layer.And (those es)))
          at true r h = stay_of (layer.And (those es)) true ∙ and_true es (sym (ruled_of (layer.And (those es))) ∙ r) (sym (sat_of (layer.And (those es))) ∙ h)
          at false r h = stay_of (layer.And (those es)) false ∙ and_false es (sym (ruled_of (layer.And (those es))) ∙ r) (sym (sat_of (layer.And (those es))) ∙ h)
      layer_meets (layer.Or es) = at
        where
          at : Meets (roll-NQuery (layer.Or (those es)))
          at true r h = stay_of (layer.Or (those es)) true ∙ or_true es (sym (ruled_of (layer.Or (those es))) ∙ r) (sym (sat_of (layer.Or (those es))) ∙ h)
          at false r h = stay_of (layer.Or (those es)) false ∙ or_false es (sym (ruled_of (layer.Or (those es))) ∙ r) (sym (sat_of (layer.Or (those es))) ∙ h)

      pub query_meets : (q : NQuery) → Meets q
      query_meets = ind-NQuery Meets (λ x y is. subst (λ z. Meets (roll-NQuery z)) is (layer_meets y))

-- ---- answers

module _ (w : World) (q : OpenQuery) (world : IsWorld w) (stand : StandsFor w q) where
  abbrev Kept : Event → Type 0
  Kept e = (IsEvent e × StandsIn w.events e) × (nat_le e.1.batch q.snapshot ≡ true)

  abbrev From : Shown → Type 0
  From s = (e : Event) × Kept e × (s ≡ shown_of q.auths e)

  abbrev Hit : Shown → Type 0
  Hit s = has (hit_shards q.query q.auths q.days q.types (tables w)) s.shard ≡ true

  some_batch : (a b : ℕ) → 1 ≤ a → nat_le a b ≡ true → b ≢ 0
  some_batch a b h k e = let m : a ≤ b = grind (arith, nat_tests) in absurd (omega arith)

  hit_there : (shard : List ℕ) → is_shard_name shard ≡ true → is_in_range q.days shard ≡ true → stays (tables w) q.auths q.types shard q.query true ≡ true → has (hit_shards q.query q.auths q.days q.types (tables w)) shard ≡ true
  unfolding hit_shards
  hit_there shard name range stay =
      has_filter (is_hit q.query q.auths q.days q.types (tables w)) (named_shards q.auths (tables w)) shard
      ∙ and_from (has (named_shards q.auths (tables w)) shard) (is_hit q.query q.auths q.days q.types (tables w) shard)
      (named_has (tables w) q.auths q.types shard ∙ stays_named (tables w) q.auths q.types shard q.query true stand.anchor stay)
      (and_from (is_in_days q.days shard) _ (and_from (is_shard_name shard) (is_in_range q.days shard) name range) (valued (tables w) q.auths q.types shard q.query true ∙ stay))

  answer_hit : (s : Shown) → From s → is_answer q s ≡ true → Hit s
  answer_hit s from h =
      let e = from.0 in
      let kept = from.1 in
      let answer : is_answer q (shown_of q.auths e) ≡ true = ap (is_answer q) (sym from.2) ∙ h in
      let p = and_parts (is_in_range q.days e.0.shard) (is_type_wanted q.types e.0.key.dtype && sat (normal_view q.dict (view_of q.auths e.1.cells)) q.query) answer in
      let k = and_parts (is_type_wanted q.types e.0.key.dtype) (sat (normal_view q.dict (view_of q.auths e.1.cells)) q.query) p.1 in
      let sees_batch = some_batch e.1.batch q.snapshot kept.0.0.first kept.1 in
      ap (λ (x : Shown). has (hit_shards q.query q.auths q.days q.types (tables w)) x.shard) from.2
      ∙ hit_there e.0.shard (event_shard e kept.0.0) p.0
      (query_meets w q.auths q.types e kept.0.0 kept.0.1 k.0 q.dict (stand.widened sees_batch) q.query true stand.ruled k.1)

  all_hit : AllByRecursion Hit (answer_of q w.events)
  all_hit =
      let events = all_both IsEvent (StandsIn w.events) w.events world.events.lawful (all_stand w.events) in
      let kept = all_pass (λ e. IsEvent e × StandsIn w.events e) Kept (λ e. nat_le e.1.batch q.snapshot) (λ e h k. (h, k)) w.events events in
      let shown = all_images Kept (shown_of q.auths) (filter (λ e. nat_le e.1.batch q.snapshot) w.events) kept in
      let seen = all_filtered From (λ s. is_seen s.view) (map (shown_of q.auths) (filter (λ e. nat_le e.1.batch q.snapshot) w.events)) shown in
      all_pass From Hit (is_answer q) answer_hit (filter (λ s. is_seen s.view) (map (shown_of q.auths) (filter (λ e. nat_le e.1.batch q.snapshot) w.events))) seen

pub answers_are_hit : AnswersAreHit
answers_are_hit w q world stand = all_hit w q world stand
