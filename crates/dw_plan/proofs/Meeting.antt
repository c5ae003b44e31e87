-- The cells of a span that meet a leaf are those of the table that do.
use Rattle.std.proofs.Common.{◌≡◌, inl, ℕ, ◌≤◌, ◌==◌, Bool, true, false, cond, ◌&&◌, ◌||◌, List, [], ◌∷◌, ◌++◌, map, length, take, Option, Some, None, refl, sym, ap, ◌∙◌, append_assoc, arith}
use Rattle.std.specs.Option.{option_and_then, option_map_or}
use Rattle.std.specs.List.{list_any, filter}
use Rattle.std.specs.Ordering.{nat_cmp, is_le}
use Rattle.std.specs.Cmp.Lexicographic.{slice_cmp}
use Rattle.std.specs.declared.cmp.Ordering.{Ordering}
use Rattle.std.specs.FinMap.{entries}
use Rattle.std.proofs.lemmas.Bool.{and_parts}
use Rattle.dw_key.specs.declared.key.Key.{Key}
use Rattle.dw_key.specs.KeyCode.{escaped, part_code}
use Rattle.dw_key.proofs.Escapes.{part_code-then, escaped-append}
use Rattle.dw_event.specs.Texts.{is_same}
use Rattle.dw_event.specs.Wanted.{is_in_range, is_type_wanted}
use Rattle.dw_event.specs.declared.days.Days.{Days}
use Rattle.dw_event.specs.declared.types.Types.{Types}
use Rattle.dw_eval.specs.Leaves.{is_above, is_below}
use Rattle.dw_outside.specs.declared.slot.Slot.{Slot}
use Rattle.dw_outside.specs.declared.cell.Cell.{Cell}
use Rattle.dw_outside.specs.Tables.{Tables, is_in_span, span_of, cell_pair}
use Rattle.dw_derive.specs.Readers.{GlobalReading, global_reading, only_if}
use Rattle.dw_derive.specs.Decoded.{key_from, has_key}
use Rattle.dw_derive.proofs.Lists.{any_mapped, any_alike}
use Rattle.dw_derive.proofs.Sets.{any_filtered}
use Rattle.dw_plan.specs.declared.wanted.Wanted.{Wanted}
use Rattle.dw_plan.specs.declared.wanted.Wanted.TheVariants.{Equal, Between, Front}
use Rattle.dw_plan.specs.Hit.{is_shard_name, is_in_days, told_by, some_cell, says_value}
use Rattle.dw_plan.specs.Spans.{is_wanted, past, day_front, span_from, span_before}
use Rattle.dw_plan.specs.Cells.{is_open, is_asked, shard_of, shard_of_key, shard_from}
use Rattle.dw_plan.proofs.Named.{same_is}
use Rattle.dw_plan.proofs.Sighted.{IsName, name_parts}
use Rattle.dw_plan.proofs.Keys.{reading_says, key_spelled}
use Rattle.dw_plan.proofs.Spanned.{in_span, lower, before_past, from_front, cmp_behind, upto_behind, from_day, upto_day, from_edge, to_edge, escaped_front}

abbrev cmp : List ℕ → List ℕ → Ordering
cmp = slice_cmp nat_cmp

module _ (days : Days) (shard : List ℕ) (good : is_in_days days shard ≡ true) where
  in_range : is_in_range days shard ≡ true
  in_range = (and_parts (is_shard_name shard) (is_in_range days shard) good).1

  name : IsName shard
  name = name_parts shard (and_parts (is_shard_name shard) (is_in_range days shard) good).0

  -- the keys of a row and a field whose shard is of the days
  day_span : (v field dtype rest : List ℕ) →
      is_in_span (day_front v field days.first) (past (day_front v field (take 8 days.last))) (part_code v ++ (part_code field ++ (part_code (shard ++ 0 ∷ dtype) ++ rest))) ≡ true
  day_span v field dtype rest =
      let ends = and_parts (is_le (cmp days.first (take 8 shard))) (is_le (cmp (take 8 shard) days.last)) in_range in
      let more = escaped (0 ∷ dtype) ++ 0 ∷ 0 ∷ rest in
      let long : 8 ≤ length shard = omega (arith, name.least) in
      let split : part_code (shard ++ 0 ∷ dtype) ++ rest ≡ escaped shard ++ more =
      part_code-then (shard ++ 0 ∷ dtype) rest ∙ ap (λ z. z ++ 0 ∷ 0 ∷ rest) (escaped-append shard (0 ∷ dtype)) ∙ append_assoc (escaped shard) (escaped (0 ∷ dtype)) (0 ∷ 0 ∷ rest) in
      ap (λ z. is_in_span (day_front v field days.first) (past (day_front v field (take 8 days.last))) (part_code v ++ (part_code field ++ z))) split
      ∙ in_span (day_front v field days.first) (past (day_front v field (take 8 days.last))) (part_code v ++ (part_code field ++ (escaped shard ++ more)))
      (ap is_le (cmp_behind (part_code v) (part_code field ++ escaped days.first) (part_code field ++ (escaped shard ++ more)) ∙ cmp_behind (part_code field) (escaped days.first) (escaped shard ++ more)) ∙ from_day days.first shard more 8 ends.0)
      (before_past (day_front v field (take 8 days.last)) (part_code v ++ (part_code field ++ (escaped shard ++ more)))
      (upto_behind (part_code v) (part_code field ++ (escaped shard ++ more)) (part_code field ++ escaped (take 8 days.last))
      (upto_behind (part_code field) (escaped shard ++ more) (escaped (take 8 days.last)) (upto_day 8 shard days.last more long ends.1))))

  -- a key that says the shard, the field and a value that is wanted
  covered : (wanted : Wanted) (field row dtype rest : List ℕ) → is_wanted wanted row ≡ true →
      is_in_span (span_from field days wanted) (span_before field days wanted) (part_code row ++ (part_code field ++ (part_code (shard ++ 0 ∷ dtype) ++ rest))) ≡ true
  covered (Equal value) field row dtype rest h =
      ap (λ v. is_in_span (day_front value.now field days.first) (past (day_front value.now field (take 8 days.last))) (part_code v ++ (part_code field ++ (part_code (shard ++ 0 ∷ dtype) ++ rest)))) (same_is row value.now h)
      ∙ day_span value.now field dtype rest
  covered (Between low low_edge high high_edge) field row dtype rest h =
      let p = and_parts (is_above row low.now low_edge) (is_below row high.now high_edge) h in
      let x = part_code field ++ (part_code (shard ++ 0 ∷ dtype) ++ rest) in
      in_span (span_from field days (Between low low_edge high high_edge)) (span_before field days (Between low low_edge high high_edge)) (part_code row ++ x)
      (from_edge row low.now x low_edge p.0) (lower (span_before field days (Between low low_edge high high_edge)) (part_code row ++ x) (to_edge row high.now x high_edge p.1))
  covered (Front front) field row dtype rest h =
      let x = part_code field ++ (part_code (shard ++ 0 ∷ dtype) ++ rest) in
      let begins = escaped_front row front.now (0 ∷ 0 ∷ x) h in
      ap (is_in_span (escaped front.now) (past (escaped front.now))) (part_code-then row x)
      ∙ in_span (escaped front.now) (past (escaped front.now)) (escaped row ++ 0 ∷ 0 ∷ x) (from_front (escaped front.now) (escaped row ++ 0 ∷ 0 ∷ x) begins) (before_past (escaped front.now) (escaped row ++ 0 ∷ 0 ∷ x) (inl begins))

and_false : (a : Bool) → (a && false) ≡ false
and_false true = refl
and_false false = refl

any_and : {A : Type 0} (a : Bool) (p : A → Bool) (xs : List A) → list_any (λ x. a && p x) xs ≡ (a && list_any p xs)
any_and a p [] = sym (and_false a)
any_and true p (x ∷ xs) = ap (λ b. p x || b) (any_and true p xs)
any_and false p (x ∷ xs) = any_and false p xs

only_any : {A : Type 0} (p : A → Bool) (b : Bool) (x : A) → option_map_or p (only_if b x) false ≡ (b && p x)
only_any p true x = refl
only_any p false x = refl

-- what is in the span and asked for is what the shard asks for
weighed : (table span day there same type field value : Bool) → (same ≡ true → there ≡ day) → (day ≡ true → same ≡ true → field ≡ true → value ≡ true → span ≡ true)
    → ((table && span) && ((((there && type) && field) && value) && same)) ≡ (day && (table && (((same && type) && field) && value)))
weighed table span day there false type field value e f = none table span ((((there && type) && field) && value)) ∙ sym (nothing day table)
  where
    none : (a b c : Bool) → ((a && b) && (c && false)) ≡ false
    none a b c = ap (λ x. (a && b) && x) (and_false c) ∙ and_false (a && b)

    nothing : (a b : Bool) → (a && (b && false)) ≡ false
    nothing a b = ap (λ x. a && x) (and_false b) ∙ and_false a
weighed table span day there true type field value e f = ap (λ d. (table && span) && ((((d && type) && field) && value) && true)) (e refl) ∙ at day type field value table (λ g h i. f g refl h i)
  where
    at : (day type field value table : Bool) → (day ≡ true → field ≡ true → value ≡ true → span ≡ true) → ((table && span) && ((((day && type) && field) && value) && true)) ≡ (day && (table && (((true && type) && field) && value)))
    at false type field value table g = and_false (table && span)
    at true false field value table g = and_false (table && span) ∙ sym (and_false table)
    at true true false value table g = and_false (table && span) ∙ sym (and_false table)
    at true true true false table g = and_false (table && span) ∙ sym (and_false table)
    at true true true true table g = ap (λ s. (table && s) && true) (g refl refl refl) ∙ last table
      where
        last : (t : Bool) → ((t && true) && true) ≡ (t && true)
        last true = refl
        last false = refl

module _ (names : List (List ℕ)) (days : Days) (types : Types) (field : List ℕ) (wanted : Wanted) (table : ℕ) (s : List ℕ) where
  abbrev test : GlobalReading → Bool
  test = says_value types s field (is_wanted wanted)

  abbrev inside : Slot → Bool
  inside q = (q.table == table) && is_in_span (span_from field days wanted) (span_before field days wanted) q.key

  abbrev named : List ℕ → Bool
  named bytes = option_map_or (is_same s) (shard_from names days types field wanted bytes) false

  at_reading : (q : Slot) (k : Key) (r : GlobalReading) → key_from q.key ≡ Some k → global_reading k ≡ Some r
      → (inside q && option_map_or (is_same s) (shard_of days types field wanted r) false) ≡ (is_in_days days s && ((q.table == table) && test r))
  at_reading q k r e g =
      ap (λ b. inside q && b) (only_any (is_same s) (is_asked days types field wanted r) r.shard)
      ∙ weighed (q.table == table) (is_in_span (span_from field days wanted) (span_before field days wanted) q.key) (is_in_days days s) (is_in_days days r.shard) (is_same s r.shard) (is_type_wanted types r.dtype) (is_same field r.field) (is_wanted wanted r.value)
      (λ h. ap (is_in_days days) (sym (same_is s r.shard h)))
      (λ day h fit value.
      let says = reading_says k r g in
      let spelled = key_spelled q.key k e in
      let key : q.key ≡ part_code r.value ++ (part_code field ++ (part_code (s ++ 0 ∷ r.dtype) ++ spelled.0)) =
      spelled.1 ∙ (λ i. part_code (says.value i) ++ (part_code ((says.field ∙ sym (same_is field r.field fit)) i) ++ (part_code ((says.qualifier ∙ ap (λ (z : List ℕ). z ++ 0 ∷ r.dtype) (sym (same_is s r.shard h))) i) ++ spelled.0))) in
      ap (is_in_span (span_from field days wanted) (span_before field days wanted)) key ∙ covered days s day wanted field r.value r.dtype spelled.0 value)

  both_none : (a b : Bool) (d t : Bool) → ((a && b) && false) ≡ (d && (t && false))
  both_none a b d t = and_false (a && b) ∙ sym (ap (λ x. d && x) (and_false t) ∙ and_false d)

  at_told : (q : Slot) (k : Key) (b : Bool) (o : Option GlobalReading) → key_from q.key ≡ Some k → global_reading k ≡ o
      → (inside q && option_map_or (is_same s) (option_and_then (shard_of days types field wanted) (cond b o None)) false) ≡ (is_in_days days s && ((q.table == table) && option_map_or test (cond b o None) false))
  at_told q k true (Some r) e g = at_reading q k r e g
  at_told q k true None e g = both_none (q.table == table) _ (is_in_days days s) (q.table == table)
  at_told q k false o e g = both_none (q.table == table) _ (is_in_days days s) (q.table == table)

  at_key : (q : Slot) (o : Option Key) → key_from q.key ≡ o
      → (inside q && option_map_or (is_same s) (option_and_then (shard_of_key names days types field wanted) o) false) ≡ (is_in_days days s && ((q.table == table) && option_map_or (λ k. option_map_or test (told_by names k) false) o false))
  at_key q (Some k) e = at_told q k (is_open names k.vis) (global_reading k) e refl
  at_key q None e = both_none (q.table == table) _ (is_in_days days s) (q.table == table)

  -- the shards that the cells of the span name are those that the table names
  pub span_meets : (t : Tables) (cells : List Cell) → map cell_pair cells ≡ span_of table (span_from field days wanted) (span_before field days wanted) t
      → list_any (λ (c : Cell). named c.key) cells ≡ (is_in_days days s && some_cell t names table test)
  span_meets t cells is =
      sym (any_mapped (λ (p : List ℕ × List ℕ). named p.0) cell_pair cells)
      ∙ ap (list_any (λ (p : List ℕ × List ℕ). named p.0)) is
      ∙ any_mapped (λ (p : List ℕ × List ℕ). named p.0) (λ (e : Slot × List ℕ). (e.0.key, e.1)) (filter (λ (e : Slot × List ℕ). inside e.0) (entries t))
      ∙ any_filtered (λ (e : Slot × List ℕ). named e.0.key) (λ (e : Slot × List ℕ). inside e.0) (entries t)
      ∙ any_alike _ _ (λ (e : Slot × List ℕ). at_key e.0 (key_from e.0.key) refl) (entries t)
      ∙ any_and (is_in_days days s) (λ (e : Slot × List ℕ). has_key table (λ k. option_map_or test (told_by names k) false) e.0) (entries t)
      ∙ ap (λ b. is_in_days days s && b) (sym (any_mapped (has_key table (λ k. option_map_or test (told_by names k) false)) (λ (e : Slot × List ℕ). e.0) (entries t)))
