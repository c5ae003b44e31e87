-- For the tables of a world, the cells of the other table change no plan.
use Rattle.std.proofs.Common.{◌≡◌, ℕ, ◌==◌, Bool, true, false, cond, not, ◌&&◌, ◌||◌, nat_eq, List, [], ◌∷◌, ◌++◌, map, Option, Some, None, refl, sym, ap, subst, ◌∙◌, arith}
use Rattle.std.specs.Option.{option_map_or}
use Rattle.std.specs.List.{list_all, list_any, starts_with, ends_with, AllByRecursion}
use Rattle.std.specs.Str.{is_utf8, IsUtf8}
use Rattle.std.proofs.lemmas.Bool.{and_parts, and_from}
use Rattle.std.proofs.lemmas.Str.{IsUtf8-from_is_utf8, is_utf8-from_IsUtf8}
use Rattle.dw_base.proofs.Members.{StandsIn}
use Rattle.dw_key.specs.declared.key.Key.{Key}
use Rattle.dw_key.specs.KeyCode.{code}
use Rattle.dw_vis.specs.Sight.{sees}
use Rattle.dw_vis.specs.Test.{is_vis}
use Rattle.dw_norm.specs.Normal.{norm}
use Rattle.dw_norm.specs.Reversal.{rev}
use Rattle.dw_norm.proofs.Reversals.{reversed_twice}
use Rattle.dw_dict.specs.Rules.{Widens}
use Rattle.dw_dict.specs.Dictionary.{Dictionary, rule_of}
use Rattle.dw_dict.specs.declared.rule.FieldRule.{FieldRule}
use Rattle.dw_event.specs.declared.cells.EventCell.{EventCell}
use Rattle.dw_event.specs.declared.types.Types.{Types}
use Rattle.dw_event.specs.Names.{is_raw_value, is_visibility}
use Rattle.dw_event.specs.Records.{is_cell}
use Rattle.dw_base.specs.FieldNames.{is_folded_name}
use Rattle.dw_event.specs.Take.{Event}
use Rattle.dw_event.specs.Texts.{is_same}
use Rattle.dw_event.specs.Wanted.{is_type_wanted}
use Rattle.dw_outside.specs.declared.slot.Slot.{Slot}
use Rattle.dw_derive.specs.declared.event_cells.Entry.{Entry}
use Rattle.dw_derive.specs.Entries.{global_key, forward_entries, backward_entries, index_entries, cell_entries, entries_of, slot_of, slots_of}
use Rattle.dw_derive.specs.Readers.{GlobalReading}
use Rattle.dw_derive.specs.Decoded.{key_from, has_key}
use Rattle.dw_derive.specs.World.{World}
use Rattle.dw_derive.specs.Tables.{tables}
use Rattle.dw_derive.specs.Lawful.{record_of, IsEvent, IsWorld}
use Rattle.dw_derive.proofs.Lists.{any_mapped, any_flat, filter_alike}
use Rattle.dw_derive.proofs.Shards.{left, right, KeepsRules, rules_of, shard_lacks}
use Rattle.dw_derive.proofs.Reading.{field_is_plain}
use Rattle.dw_derive.proofs.Rereading.{global_keys}
use Rattle.dw_derive.proofs.Decoding.{key_of_code}
use Rattle.dw_derive.proofs.Stepping.{any_cell}
use Rattle.dw_nest.specs.Kleene.{swapped, least_of_two, most_of_two}
use Rattle.dw_nest.specs.declared.truth.Truth.{Truth}
use Rattle.dw_eval.specs.Kleene.{least, greatest}
use Rattle.dw_eval.specs.Leaves.{is_above, is_below}
use Rattle.dw_eval.specs.declared.nquery.NQuery.{NQuery, map-NQuery}
use Rattle.dw_eval.specs.declared.nquery.NQuery.TheOpen.{NQuery-F}
use Rattle.dw_eval.specs.declared.nquery.NQuery.TheOpen as layer
use Rattle.dw_eval.specs.declared.nquery.NQuery.TheViews.{roll-NQuery}
use Rattle.dw_eval.specs.declared.nquery.NQuery.TheFolds.{fold-roll-NQuery, ind-NQuery}
use Rattle.dw_plan.specs.Anchored.{Place}
use Rattle.dw_plan.specs.Hit.{told_by, says_value, forward, backward, leaf_truth, truth_at, truth_step, is_no, is_in_days, is_hit, named_shards, hit_shards}
use Rattle.dw_plan.specs.PlanLaws.{is_ruled, ruled_step, either, either_at, either_step, either_shards, OtherTableAddsNothing}
use Rattle.dw_plan.proofs.Named.{same_is}
use Rattle.dw_plan.proofs.NormTexts.{norm_utf8}
use Rattle.dw_plan.proofs.Backward.{utf8_reversed}
use Rattle.dw_plan.proofs.Answering.{any_of_all, all_both, all_stand, forward_entry, backward_entry, reversed_there}

or_only : (a : Bool) → (a || false) ≡ true → a ≡ true
or_only true h = refl
or_only false h = cc

any_of_those : {A : Type 0} (P : A → Type 0) (p q : A → Bool) → ((x : A) → P x → p x ≡ true → q x ≡ true) → (xs : List A) → AllByRecursion P xs → list_any p xs ≡ true → list_any q xs ≡ true
any_of_those P p q f [] all h = cc
any_of_those P p q f (x ∷ xs) all h = at (p x) refl h (any_of_those P p q f xs all.1)
  where
    first : (a b : Bool) → a ≡ true → (a || b) ≡ true
    first true b e = refl
    first false b e = cc

    second : (a b : Bool) → b ≡ true → (a || b) ≡ true
    second true b e = refl
    second false b e = e

    at : (b : Bool) → p x ≡ b → (b || list_any p xs) ≡ true → (list_any p xs ≡ true → list_any q xs ≡ true) → (q x || list_any q xs) ≡ true
    at true e k more = first (q x) (list_any q xs) (f x all.0 e)
    at false e k more = second (q x) (list_any q xs) (more k)

module _ (w : World) (names : List (List ℕ)) (types : Types) (s : List ℕ) where
  abbrev keyed : (GlobalReading → Bool) → Key → Bool
  keyed test k = option_map_or test (told_by names k) false

  no_meta : (n : ℕ) (test : GlobalReading → Bool) → (3 == n) ≡ false → (q : Slot) → q.table ≡ 3 → has_key n (keyed test) q ≡ false
  no_meta n test h q t = ap (λ k. (k == n) && option_map_or (keyed test) (key_from q.key) false) t ∙ ap (λ b. b && option_map_or (keyed test) (key_from q.key) false) h

  by_cells : (n : ℕ) (test : GlobalReading → Bool) (e : Event) → list_any (has_key n (keyed test)) (slots_of w.dict e) ≡ list_any (λ c. list_any (λ m. has_key n (keyed test) (slot_of m)) (cell_entries w.dict e c)) e.1.cells
  by_cells n test e = any_mapped (has_key n (keyed test)) slot_of (entries_of w.dict e) ∙ any_flat (λ m. has_key n (keyed test) (slot_of m)) (cell_entries w.dict e) e.1.cells

  module _ (e : Event) (lawful : IsEvent e) (there : StandsIn w.events e) where
    rules : KeepsRules (record_of e)
    rules = rules_of (record_of e) lawful.rules.rules

    abbrev reading : EventCell → List ℕ → GlobalReading
    reading c v = record { value = v; field = c.field; shard = e.0.shard; dtype = e.0.key.dtype }

    opened : (test : GlobalReading → Bool) (r : GlobalReading) (a b : Bool) → option_map_or test (cond (a && b) (Some r) None) false ≡ true → (b ≡ true) × (test r ≡ true)
    opened test r true true h = (refl, h)
    opened test r true false h = cc
    opened test r false b h = cc

    -- what the cell of a value says
    key_says : (n : ℕ) (test : GlobalReading → Bool) (c : EventCell) (v : List ℕ) → is_cell c ≡ true → is_utf8 v ≡ true → has_key n (keyed test) (record { table = n; key = code (global_key e c v) }) ≡ true
        → (sees c.vis names ≡ true) × (test (reading c v) ≡ true)
    key_says n test c v cell utf8 h =
        let p = and_parts (n == n) (option_map_or (keyed test) (key_from (code (global_key e c v))) false) h in
        let field = field_is_plain c.field (left (is_folded_name c.field) _ cell) in
        opened test (reading c v) (is_vis c.vis) (sees c.vis names)
        (sym (λ i. option_map_or test (cond (is_vis c.vis && sees c.vis names) (global_keys e c v rules.dtype (shard_lacks e lawful) field.utf8 utf8 i) None) false)
        ∙ sym (ap (λ o. option_map_or (keyed test) o false) (key_of_code (global_key e c v) (omega arith)))
        ∙ p.1)

    -- a cell that gives one of table 2
    in_table_2 : (test : GlobalReading → Bool) (c : EventCell) (rule : FieldRule) (o : Option (List ℕ)) → list_any (λ m. has_key 2 (keyed test) (slot_of m)) (index_entries rule e c o) ≡ true
        → (v : List ℕ) × (o ≡ Some v) × (rule.reversed ≡ true) × (has_key 2 (keyed test) (record { table = 2; key = code (global_key e c (rev v)) }) ≡ true)
    in_table_2 test c rule None h = cc
    in_table_2 test c rule (Some v) h = at rule.indexed rule.reversed refl h
      where
        at : (i r : Bool) → rule.reversed ≡ r → list_any (λ (m : Entry). has_key 2 (keyed test) (slot_of m)) (cond i (forward_entries e c v) [] ++ cond r (backward_entries e c v) []) ≡ true
            → (u : List ℕ) × (Some v ≡ Some u) × (rule.reversed ≡ true) × (has_key 2 (keyed test) (record { table = 2; key = code (global_key e c (rev u)) }) ≡ true)
        at true true k g = (v, refl, k, or_only _ g)
        at true false k g = cc
        at false true k g = (v, refl, k, or_only _ g)
        at false false k g = cc

    -- and one of table 1
    in_table_1 : (test : GlobalReading → Bool) (c : EventCell) (rule : FieldRule) (o : Option (List ℕ)) → list_any (λ m. has_key 1 (keyed test) (slot_of m)) (index_entries rule e c o) ≡ true
        → (v : List ℕ) × (o ≡ Some v) × (has_key 1 (keyed test) (record { table = 1; key = code (global_key e c v) }) ≡ true)
    in_table_1 test c rule None h = cc
    in_table_1 test c rule (Some v) h = at rule.indexed rule.reversed h
      where
        at : (i r : Bool) → list_any (λ (m : Entry). has_key 1 (keyed test) (slot_of m)) (cond i (forward_entries e c v) [] ++ cond r (backward_entries e c v) []) ≡ true
            → (u : List ℕ) × (Some v ≡ Some u) × (has_key 1 (keyed test) (record { table = 1; key = code (global_key e c u) }) ≡ true)
        at true true g = (v, refl, or_only _ g)
        at true false g = (v, refl, or_only _ g)
        at false true g = cc
        at false false g = cc

    -- the parts of what a reading has to say
    pub record Saying (field : List ℕ) (meets : List ℕ → Bool) (c : EventCell) (v : List ℕ) : Type 0 where
      pub shard_is : (is_same s e.0.shard && is_type_wanted types e.0.key.dtype) ≡ true
      pub type_is : is_type_wanted types e.0.key.dtype ≡ true
      pub field_is : is_same field c.field ≡ true
      pub meet : meets v ≡ true

    said : (field : List ℕ) (meets : List ℕ → Bool) (c : EventCell) (v : List ℕ) → says_value types s field meets (reading c v) ≡ true → Saying field meets c v
    said field meets c v h =
        let a = and_parts (is_same s e.0.shard && is_type_wanted types e.0.key.dtype && is_same field c.field) (meets v) h in
        let b = and_parts (is_same s e.0.shard && is_type_wanted types e.0.key.dtype) (is_same field c.field) a.0 in
        record { shard_is = b.0; type_is = (and_parts (is_same s e.0.shard) (is_type_wanted types e.0.key.dtype) b.0).1; field_is = b.1; meet = a.1 }

    again : (field : List ℕ) (meets : List ℕ → Bool) (c : EventCell) (v : List ℕ) → (is_same s e.0.shard && is_type_wanted types e.0.key.dtype) ≡ true → is_same field c.field ≡ true → meets v ≡ true → says_value types s field meets (reading c v) ≡ true
    again field meets c v a b h =
        and_from (is_same s e.0.shard && is_type_wanted types e.0.key.dtype && is_same field c.field) (meets v)
        (and_from (is_same s e.0.shard && is_type_wanted types e.0.key.dtype) (is_same field c.field) a b) h

    raw_utf8 : (c : EventCell) → is_cell c ≡ true → IsUtf8 c.raw
    raw_utf8 c cell =
        let more : (is_raw_value c.raw && is_utf8 c.raw && is_visibility c.vis) ≡ true = right (is_folded_name c.field) (is_raw_value c.raw && is_utf8 c.raw && is_visibility c.vis) cell in
        IsUtf8-from_is_utf8 c.raw (right (is_raw_value c.raw) (is_utf8 c.raw) (left (is_raw_value c.raw && is_utf8 c.raw) (is_visibility c.vis) more))

    module _ (field : List ℕ) (meets : List ℕ → Bool) where
      abbrev there_test : GlobalReading → Bool
      there_test = says_value types s field meets

      abbrev back_test : GlobalReading → Bool
      back_test = says_value types s field (λ value. meets (rev value))

      to_first : (c : EventCell) → is_cell c ≡ true → list_any (λ m. has_key 2 (keyed back_test) (slot_of m)) (cell_entries w.dict e c) ≡ true → list_any (λ m. has_key 1 (keyed there_test) (slot_of m)) (cell_entries w.dict e c) ≡ true
      to_first c cell h =
          let rule = rule_of w.dict c.field in
          let found = in_table_2 back_test c rule (norm rule.kind c.raw) h in
          let v = found.0 in
          let utf8 = norm_utf8 rule.kind c.raw v (raw_utf8 c cell) found.1 in
          let told = key_says 2 back_test c (rev v) cell (is_utf8-from_IsUtf8 (rev v) (utf8_reversed v utf8)) found.3 in
          let parts = said field (λ value. meets (rev value)) c (rev v) told.1 in
          forward_entry w names types e lawful there parts.type_is there_test c v (rule.ruled found.2) found.1 cell told.0 (is_utf8-from_IsUtf8 v utf8)
          (again field meets c v parts.shard_is parts.field_is (ap meets (sym (reversed_twice v utf8)) ∙ parts.meet))

      to_second : (rule_of w.dict field).reversed ≡ true → (c : EventCell) → is_cell c ≡ true → list_any (λ m. has_key 1 (keyed there_test) (slot_of m)) (cell_entries w.dict e c) ≡ true → list_any (λ m. has_key 2 (keyed back_test) (slot_of m)) (cell_entries w.dict e c) ≡ true
      to_second reversed c cell h =
          let rule = rule_of w.dict c.field in
          let found = in_table_1 there_test c rule (norm rule.kind c.raw) h in
          let v = found.0 in
          let utf8 = norm_utf8 rule.kind c.raw v (raw_utf8 c cell) found.1 in
          let told = key_says 1 there_test c v cell (is_utf8-from_IsUtf8 v utf8) found.2 in
          let parts = said field meets c v told.1 in
          backward_entry w names types e lawful there parts.type_is back_test c v (ap (λ f. (rule_of w.dict f).reversed) (sym (same_is field c.field parts.field_is)) ∙ reversed) found.1 cell told.0 (is_utf8-from_IsUtf8 (rev v) (utf8_reversed v utf8))
          (again field (λ value. meets (rev value)) c (rev v) parts.shard_is parts.field_is (ap meets (reversed_twice v utf8) ∙ parts.meet))

  -- ---- over all events

  module _ (world : IsWorld w) where
    abbrev Known : Event → Type 0
    Known e = IsEvent e × StandsIn w.events e

    known : AllByRecursion Known w.events
    known = all_both IsEvent (StandsIn w.events) w.events world.events.lawful (all_stand w.events)

    back_is_there : (field : List ℕ) (meets : List ℕ → Bool) → backward (tables w) names types s field meets ≡ true → forward (tables w) names types s field meets ≡ true
    back_is_there field meets h =
        let one = says_value types s field meets in
        let two = says_value types s field (λ value. meets (rev value)) in
        any_cell w (has_key 1 (keyed one)) (no_meta 1 one refl)
        ∙ any_of_those Known (λ e. list_any (has_key 2 (keyed two)) (slots_of w.dict e)) (λ e. list_any (has_key 1 (keyed one)) (slots_of w.dict e))
        (λ e k g. by_cells 1 one e ∙ any_of_all is_cell (λ c. list_any (λ m. has_key 2 (keyed two) (slot_of m)) (cell_entries w.dict e c)) (λ c. list_any (λ m. has_key 1 (keyed one) (slot_of m)) (cell_entries w.dict e c))
        (to_first e k.0 k.1 field meets) e.1.cells (rules_of (record_of e) k.0.rules.rules).cells (sym (by_cells 2 two e) ∙ g))
        w.events known (sym (any_cell w (has_key 2 (keyed two)) (no_meta 2 two refl)) ∙ h)

    there_is_back : (field : List ℕ) (meets : List ℕ → Bool) → (rule_of w.dict field).reversed ≡ true → forward (tables w) names types s field meets ≡ true → backward (tables w) names types s field meets ≡ true
    there_is_back field meets reversed h =
        let one = says_value types s field meets in
        let two = says_value types s field (λ value. meets (rev value)) in
        any_cell w (has_key 2 (keyed two)) (no_meta 2 two refl)
        ∙ any_of_those Known (λ e. list_any (has_key 1 (keyed one)) (slots_of w.dict e)) (λ e. list_any (has_key 2 (keyed two)) (slots_of w.dict e))
        (λ e k g. by_cells 2 two e ∙ any_of_all is_cell (λ c. list_any (λ m. has_key 1 (keyed one) (slot_of m)) (cell_entries w.dict e c)) (λ c. list_any (λ m. has_key 2 (keyed two) (slot_of m)) (cell_entries w.dict e c))
        (to_second e k.0 k.1 field meets reversed) e.1.cells (rules_of (record_of e) k.0.rules.rules).cells (sym (by_cells 1 one e) ∙ g))
        w.events known (sym (any_cell w (has_key 1 (keyed one)) (no_meta 1 one refl)) ∙ h)

    -- ---- queries

    module _ (dict : Dictionary) (widened : (field : List ℕ) → Widens (rule_of w.dict field) (rule_of dict field)) where
      abbrev mine : NQuery → Place → Truth
      mine = truth_at (tables w) names types s

      abbrev both : NQuery → Place → Truth
      both = either_at (tables w) names types s

      abbrev Same : NQuery → Type 0
      Same q = (place : Place) → is_ruled dict q ≡ true → both q place ≡ mine q place

      abbrev Child : Type 0
      Child = (q : NQuery) × Same q

      abbrev those : List Child → List NQuery
      those es = map (λ c. c.0) es

      ruled_of : (y : NQuery-F NQuery) → is_ruled dict (roll-NQuery y) ≡ ruled_step dict (map-NQuery NQuery Bool (is_ruled dict) y)
      ruled_of y = fold-roll-NQuery Bool (ruled_step dict) y

      mine_of : (y : NQuery-F NQuery) (place : Place) → mine (roll-NQuery y) place ≡ truth_step (tables w) names types s (map-NQuery NQuery (Place → Truth) mine y) place
      mine_of y place = ap (λ f. f place) (fold-roll-NQuery (Place → Truth) (truth_step (tables w) names types s) y)

      both_of : (y : NQuery-F NQuery) (place : Place) → both (roll-NQuery y) place ≡ either_step (tables w) names types s (map-NQuery NQuery (Place → Truth) both y) place
      both_of y place = ap (λ f. f place) (fold-roll-NQuery (Place → Truth) (either_step (tables w) names types s) y)

      abbrev ruled_all : List Child → Bool
      ruled_all es = list_all (λ b. b) (map (is_ruled dict) (those es))

      least_same : (place : Place) (es : List Child) → ruled_all es ≡ true → least (map (λ (c : Place → Truth). c place) (map both (those es))) ≡ least (map (λ (c : Place → Truth). c place) (map mine (those es)))
      least_same place [] r = refl
      least_same place (c ∷ cs) r =
          let p = and_parts (is_ruled dict c.0) (ruled_all cs) r in
          λ i. least_of_two (c.1 place p.0 i) (least_same place cs p.1 i)

      greatest_same : (place : Place) (es : List Child) → ruled_all es ≡ true → greatest (map (λ (c : Place → Truth). c place) (map both (those es))) ≡ greatest (map (λ (c : Place → Truth). c place) (map mine (those es)))
      greatest_same place [] r = refl
      greatest_same place (c ∷ cs) r =
          let p = and_parts (is_ruled dict c.0) (ruled_all cs) r in
          λ i. most_of_two (c.1 place p.0 i) (greatest_same place cs p.1 i)

      one_counts : (anchor f b : Bool) → (b ≡ true → f ≡ true) → leaf_truth anchor (f || b) ≡ leaf_truth anchor f
      one_counts anchor true b h = refl
      one_counts anchor false true h = ap (leaf_truth anchor) (sym (h refl))
      one_counts anchor false false h = refl

      two_counts : (place flag f b : Bool) → (flag ≡ true → f ≡ true → b ≡ true) → leaf_truth (place && flag) (f || b) ≡ leaf_truth (place && flag) b
      two_counts true true true b h = ap (leaf_truth true) (sym (h refl refl))
      two_counts true true false b h = refl
      two_counts true false f b h = refl
      two_counts false flag f b h = refl

      in_first : (y : NQuery-F NQuery) (field : List ℕ) (flag : Bool) (meets : List ℕ → Bool)
          → ((place : Place) → either_step (tables w) names types s (map-NQuery NQuery (Place → Truth) both y) place ≡ leaf_truth (place && flag) (either (tables w) names types s field meets))
          → ((place : Place) → truth_step (tables w) names types s (map-NQuery NQuery (Place → Truth) mine y) place ≡ leaf_truth (place && flag) (forward (tables w) names types s field meets)) → Same (roll-NQuery y)
      in_first y field flag meets a b place r =
          both_of y place ∙ a place ∙ one_counts (place && flag) (forward (tables w) names types s field meets) (backward (tables w) names types s field meets) (back_is_there field meets) ∙ sym (mine_of y place ∙ b place)

      unknown : (y : NQuery-F NQuery)
          → ((place : Place) → either_step (tables w) names types s (map-NQuery NQuery (Place → Truth) both y) place ≡ truth_step (tables w) names types s (map-NQuery NQuery (Place → Truth) mine y) place) → Same (roll-NQuery y)
      unknown y a place r = both_of y place ∙ a place ∙ sym (mine_of y place)

      layer_same : (y : NQuery-F Child) → Same (roll-NQuery (map-NQuery Child NQuery (λ c. c.0) y))
      layer_same (layer.Equal f r v) = in_first (layer.Equal f r v) f r.indexed (λ form. is_same form v) (λ p. refl) (λ p. refl)
      layer_same (layer.Below f r v g) = unknown (layer.Below f r v g) (λ p. refl)
      layer_same (layer.Above f r v g) = unknown (layer.Above f r v g) (λ p. refl)
      layer_same (layer.Between f r l d h g) = in_first (layer.Between f r l d h g) f r.indexed (λ form. is_above form l d && is_below form h g) (λ p. refl) (λ p. refl)
      layer_same (layer.Starts f r x) = in_first (layer.Starts f r x) f r.indexed (λ form. starts_with nat_eq form x) (λ p. refl) (λ p. refl)
      layer_same (layer.Ends f r x) = λ place ruled.
          let meets = λ (form : List ℕ). ends_with nat_eq form x in
          both_of (layer.Ends f r x) place
          ∙ two_counts place r.reversed (forward (tables w) names types s f meets) (backward (tables w) names types s f meets)
          (λ flag h. there_is_back f meets (reversed_there w dict widened f r (sym (ruled_of (layer.Ends f r x)) ∙ ruled) flag) h)
          ∙ sym (mine_of (layer.Ends f r x) place)
      layer_same (layer.Holds f r x) = unknown (layer.Holds f r x) (λ p. refl)
      layer_same (layer.Not c) = λ place r.
          both_of (layer.Not c.0) place ∙ ap swapped (c.1 (not place) (sym (ruled_of (layer.Not c.0)) ∙ r)) ∙ sym (mine_of (layer.Not c.0) place)
      layer_same (layer.And es) = λ place r.
          both_of (layer.And (those es)) place ∙ least_same place es (sym (ruled_of (layer.And (those es))) ∙ r) ∙ sym (mine_of (layer.And (those es)) place)
      layer_same (layer.Or es) = λ place r.
          both_of (layer.Or (those es)) place ∙ greatest_same place es (sym (ruled_of (layer.Or (those es))) ∙ r) ∙ sym (mine_of (layer.Or (those es)) place)

      pub query_same : (q : NQuery) → Same q
      query_same = ind-NQuery Same (λ x y is. subst (λ z. Same (roll-NQuery z)) is (layer_same y))

pub other_table_adds_nothing : OtherTableAddsNothing
unfolding either_shards hit_shards
other_table_adds_nothing w dict q names days types world ruled widened =
    filter_alike (λ s. is_in_days days s && not (is_no (either_at (tables w) names types s q true))) (is_hit q names days types (tables w))
    (λ s. ap (λ v. is_in_days days s && not (is_no v)) (query_same w names types s world dict widened q true ruled)) (named_shards names (tables w))
