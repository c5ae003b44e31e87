-- On table 3 of a world: what it has, and one cell more.
use Rattle.std.proofs.Common.{◌≡◌, ◌≢◌, ◌⊎◌, inl, inr, ◌^◌, ◌<◌, ◌≤◌, ◌&&◌, ◌==◌, ◌++◌, ℕ, Bool, true, false, cond, T, List, [], ◌∷◌, map, refl, sym, ap, subst, ◌∙◌, arith}
use Rattle.std.specs.Prelude.{Option, Some, None, filter_map, filter, IsTrue}
use Rattle.std.specs.Option.{is_some, option_map, option_and_then, option_or}
use Rattle.std.specs.List.{list_any, cons_option, AllByRecursion}
use Rattle.std.specs.Cmp.{IsTotalOrder, both_ways}
use Rattle.std.specs.Cmp.Lexicographic.{slice_cmp, nat_list_cmp_total}
use Rattle.std.specs.Ordering.{nat_cmp, eq_by_cmp, is_eq, is_lt, is_le, ordering_reverse}
use Rattle.std.specs.FinMap.{FinMap, find, put, is_sorted, get, insert, entries, from_entries, get-entries, get-insert, get-from_entries, entries-insert, entries_sorted, same_map}
use Rattle.std.specs.FinMap.Entries.{below_all, by_order}
use Rattle.std.specs.declared.cmp.Ordering.{Ordering}
use Rattle.std.specs.declared.cmp.Ordering.TheVariants.{Less, Equal, Greater}
use Rattle.std.proofs.lemmas.Cmp.{tied_itself}
use Rattle.std.proofs.lemmas.Map.Lookups.{exact_bytes}
use Rattle.std.proofs.lemmas.Bool.Decides.{nat_tests}
use Rattle.dw_base.specs.FieldNames.{is_folded_name}
use Rattle.dw_key.specs.declared.key.Key.{Key}
use Rattle.dw_key.specs.KeyCode.{code}
use Rattle.dw_dict.specs.declared.rule.FieldRule.{FieldRule}
use Rattle.dw_outside.specs.declared.slot.Slot.{Slot}
use Rattle.dw_outside.specs.Tables.{Tables, slot_cmp, is_slot, is_in_span}
use Rattle.dw_outside.proofs.CellMaps.{exact_slots, slots_total, same_slot, tied}
use Rattle.dw_derive.specs.Decoded.{key_from}
use Rattle.dw_derive.specs.Entries.{slots_of}
use Rattle.dw_derive.specs.Meta.{meta_key, meta_slot, commit_row, commit_slot, commit_bytes, field_row, field_slot, rule_bytes, grant_row, grant_slot, names_bytes}
use Rattle.dw_derive.specs.MetaReaders.{commit_reading, field_reading, grant_reading, rule_from, names_from}
use Rattle.dw_derive.specs.World.{World}
use Rattle.dw_derive.specs.Tables.{gives, field_cell, grant_cell, commit_cells, meta_cells, tables}
use Rattle.dw_derive.specs.Lawful.{IsGrant, IsWorld}
use Rattle.dw_derive.specs.MetaTables.{cell_says, meta_of, first_number, last_of, dict_of, grants_of, MetaIsRead, with_rule, with_grant, RulesAreCells, GrantsAreCells, RulesKeepWorlds, GrantsKeepWorlds}
use Rattle.dw_derive.proofs.Decoding.{key_of_code}
use Rattle.dw_derive.proofs.Given.{all_append}
use Rattle.dw_derive.proofs.Growing.{find_append, get_tables, content_at}
use Rattle.dw_derive.proofs.Stepping.{none_given}
use Rattle.dw_derive.proofs.MetaSpellings.{rule_again, number_again, granted_again}

-- ---- the entries of a map

both_parts : (a b : Bool) → T (a && b) → T a × T b
both_parts true b h = (tt, h)
both_parts false b h = absurd h

less : (o : Ordering) → T (is_lt o) → o ≡ Less
less Less h = refl
less Equal h = absurd h
less Greater h = absurd h

module _ {K X : Type 0} (R : K → K → Ordering) (o : IsTotalOrder R) where
  later : (e : K × X) (es fs : List (K × X)) → T (below_all R e.0 fs) → AllByRecursion (λ (f : K × X). find R f.0 es ≡ Some f.1) fs → AllByRecursion (λ (f : K × X). find R f.0 (e ∷ es) ≡ Some f.1) fs
  later e es [] b h = tt
  later e es (f ∷ fs) b h =
      let parts = both_parts (is_lt (R e.0 f.0)) (below_all R e.0 fs) b in
      let apart : eq_by_cmp R f.0 e.0 ≡ false = ap is_eq (o.antisymm f.0 e.0 ∙ ap ordering_reverse (less (R e.0 f.0) parts.0)) in
      (ap (λ t. cond t (Some e.1) (find R f.0 es)) apart ∙ h.0, later e es fs parts.1 h.1)

  sorted_found : (es : List (K × X)) → T (is_sorted R es) → AllByRecursion (λ (e : K × X). find R e.0 es ≡ Some e.1) es
  sorted_found [] s = tt
  sorted_found (e ∷ es) s =
      let parts = both_parts (below_all R e.0 es) (is_sorted R es) s in
      (ap (λ t. cond t (Some e.1) (find R e.0 es)) (ap is_eq (tied_itself o e.0)), later e es es parts.0 (sorted_found es parts.1))

all_by : {A : Type 0} (P Q : A → Type 0) → ((x : A) → P x → Q x) → (xs : List A) → AllByRecursion P xs → AllByRecursion Q xs
all_by P Q f [] h = tt
all_by P Q f (x ∷ xs) h = (f x h.0, all_by P Q f xs h.1)

all_both : {A : Type 0} (P Q : A → Type 0) (xs : List A) → AllByRecursion P xs → AllByRecursion Q xs → AllByRecursion (λ x. P x × Q x) xs
all_both P Q [] h k = tt
all_both P Q (x ∷ xs) h k = ((h.0, k.0), all_both P Q xs h.1 k.1)

all_map : {A B : Type 0} (P : A → Type 0) (Q : B → Type 0) (f : A → B) → ((x : A) → P x → Q (f x)) → (xs : List A) → AllByRecursion P xs → AllByRecursion Q (map f xs)
all_map P Q f h [] all = tt
all_map P Q f h (x ∷ xs) all = (h x all.0, all_map P Q f h xs all.1)

-- each entry is what the map has
pub entries_are_had : {K X : Type 0} (R : K → K → Ordering) → IsTotalOrder R → (m : FinMap R X) → AllByRecursion (λ (e : K × X). get m e.0 ≡ Some e.1) (entries m)
entries_are_had {K = K} {X = X} R o m = all_by (λ (e : K × X). find R e.0 (entries m) ≡ Some e.1) (λ (e : K × X). get m e.0 ≡ Some e.1) (λ e h. get-entries m e.0 ∙ h) (entries m) (sorted_found R o (entries m) (entries_sorted m))

-- ---- maps that are read from tables

module _ {Y : Type 0} (said : Slot × List ℕ → Option (List ℕ × Y)) (target : FinMap (slice_cmp nat_cmp) Y) where
  -- what an entry says, the map has
  abbrev pub Knows : Slot × List ℕ → Type 0
  Knows e = (p : List ℕ × Y) → said e ≡ Some p → get target p.0 ≡ Some p.1

  abbrev names : List ℕ → List ℕ → Ordering
  names = slice_cmp nat_cmp

  value_known : (es : List (Slot × List ℕ)) → AllByRecursion Knows es → (q : List ℕ) (y : Y) → find names q (filter_map said es) ≡ Some y → get target q ≡ Some y
  value_known [] all q y h = cc
  value_known (e ∷ es) all q y h = at (said e) refl h (value_known es all.1 q y)
    where
      there : (p : List ℕ × Y) (b : Bool) → eq_by_cmp names q p.0 ≡ b → said e ≡ Some p → cond b (Some p.1) (find names q (filter_map said es)) ≡ Some y → (find names q (filter_map said es) ≡ Some y → get target q ≡ Some y) → get target q ≡ Some y
      there p true t s h r = ap (get target) (exact_bytes q p.0 (tied (names q p.0) t)) ∙ all.0 p s ∙ h
      there p false t s h r = r h

      at : (x : Option (List ℕ × Y)) → said e ≡ x → find names q (cons_option x (filter_map said es)) ≡ Some y → (find names q (filter_map said es) ≡ Some y → get target q ≡ Some y) → get target q ≡ Some y
      at None s h r = r h
      at (Some p) s h r = there p (eq_by_cmp names q p.0) refl s h r

  still : (q : List ℕ) (x : Option (List ℕ × Y)) (ps : List (List ℕ × Y)) → is_some (find names q ps) ≡ true → is_some (find names q (cons_option x ps)) ≡ true
  still q None ps h = h
  still q (Some p) ps h = at (eq_by_cmp names q p.0)
    where
      at : (b : Bool) → is_some (cond b (Some p.1) (find names q ps)) ≡ true
      at true = refl
      at false = h

  value_there : (es : List (Slot × List ℕ)) (s : Slot) (x : List ℕ) (q : List ℕ) (y : Y) → find slot_cmp s es ≡ Some x → said (s, x) ≡ Some (q, y) → is_some (find names q (filter_map said es)) ≡ true
  value_there [] s x q y h k = cc
  value_there (e ∷ es) s x q y h k = at (is_slot s e.0) refl h (λ r. value_there es s x q y r k)
    where
      found : (o : Option (List ℕ × Y)) → o ≡ Some (q, y) → is_some (find names q (cons_option o (filter_map said es))) ≡ true
      found None i = cc
      found (Some p) i =
          let same : p.0 ≡ q = ap (λ (z : List ℕ × Y). z.0) (some_is i) in
          ap (λ t. is_some (cond t (Some p.1) (find names q (filter_map said es)))) (ap (λ z. is_eq (names q z)) same ∙ ap is_eq (tied_itself nat_list_cmp_total q))
        where
          some_is : {A : Type 0} {a b : A} → Some a ≡ Some b → a ≡ b
          some_is e = cc

      at : (b : Bool) → is_slot s e.0 ≡ b → cond b (Some e.1) (find slot_cmp s es) ≡ Some x → (find slot_cmp s es ≡ Some x → is_some (find names q (filter_map said es)) ≡ true) → is_some (find names q (filter_map said (e ∷ es))) ≡ true
      at true t h r =
          let slot : e.0 ≡ s = sym (same_slot s e.0 t) in
          let content : e.1 ≡ x = cc in
          found (said e) ((λ i. said (slot i, content i)) ∙ k)
      at false t h r = still q (said e) (filter_map said es) (r h)

  -- tables whose entries say what the map has, and all of it, are read as the map
  pub read_map : (t : Tables) → ((s : Slot) (x : List ℕ) → get t s ≡ Some x → Knows (s, x))
      → ((q : List ℕ) (y : Y) → get target q ≡ Some y → (s : Slot) × ((x : List ℕ) × (get t s ≡ Some x) × (said (s, x) ≡ Some (q, y))))
      → from_entries {R = names} (filter_map said (entries t)) ≡ target
  read_map t known there = same_map nat_list_cmp_total exact_bytes _ _ (λ q. get-from_entries nat_list_cmp_total (filter_map said (entries t)) q ∙ at q (get target q) refl)
    where
      all : AllByRecursion Knows (entries t)
      all = all_by (λ (e : Slot × List ℕ). get t e.0 ≡ Some e.1) Knows (λ e h. known e.0 e.1 h) (entries t) (entries_are_had slot_cmp slots_total t)

      none : (q : List ℕ) → get target q ≡ None → (r : Option Y) → find names q (filter_map said (entries t)) ≡ r → r ≡ None
      none q h None e = refl
      none q h (Some y) e = cc (h, value_known (entries t) all q y e)

      some : (q : List ℕ) (y : Y) → get target q ≡ Some y → (r : Option Y) → find names q (filter_map said (entries t)) ≡ r → r ≡ Some y
      some q y h None e =
          let at = there q y h in
          cc (e, value_there (entries t) at.0 at.1.0 q y (sym (get-entries t at.0) ∙ at.1.1) at.1.2)
      some q y h (Some z) e = sym (value_known (entries t) all q z e) ∙ h

      at : (q : List ℕ) (o : Option Y) → get target q ≡ o → find names q (filter_map said (entries t)) ≡ o
      at q None h = none q h (find names q (filter_map said (entries t))) refl
      at q (Some y) h = some q y h (find names q (filter_map said (entries t))) refl

-- ---- a number that is read from tables

module _ (said : Slot × List ℕ → Option ℕ) (last : ℕ) where
  abbrev pub Says : Slot × List ℕ → Type 0
  Says e = (n : ℕ) → said e ≡ Some n → n ≡ last

  firsts : (es : List (Slot × List ℕ)) → AllByRecursion Says es → (filter_map said es ≡ []) ⊎ (first_number (filter_map said es) ≡ last)
  firsts [] all = inl refl
  firsts (e ∷ es) all = at (said e) refl (firsts es all.1)
    where
      at : (o : Option ℕ) → said e ≡ o → (filter_map said es ≡ []) ⊎ (first_number (filter_map said es) ≡ last) → (cons_option o (filter_map said es) ≡ []) ⊎ (first_number (cons_option o (filter_map said es)) ≡ last)
      at None s r = r
      at (Some n) s r = inr (all.0 n s)

  some_said : (es : List (Slot × List ℕ)) (s : Slot) (x : List ℕ) (n : ℕ) → find slot_cmp s es ≡ Some x → said (s, x) ≡ Some n → filter_map said es ≢ []
  some_said [] s x n h k = cc
  some_said (e ∷ es) s x n h k = at (is_slot s e.0) refl h (some_said es s x n)
    where
      here : (o : Option ℕ) → o ≡ Some n → cons_option o (filter_map said es) ≢ []
      here None i = cc
      here (Some m) i = λ z. cc

      behind : (o : Option ℕ) → filter_map said es ≢ [] → cons_option o (filter_map said es) ≢ []
      behind None h = h
      behind (Some m) h = λ z. cc

      at : (b : Bool) → is_slot s e.0 ≡ b → cond b (Some e.1) (find slot_cmp s es) ≡ Some x → (find slot_cmp s es ≡ Some x → said (s, x) ≡ Some n → filter_map said es ≢ []) → cons_option (said e) (filter_map said es) ≢ []
      at true t h r =
          let slot : e.0 ≡ s = sym (same_slot s e.0 t) in
          let content : e.1 ≡ x = cc in
          here (said e) ((λ i. said (slot i, content i)) ∙ k)
      at false t h r = behind (said e) (r h k)

  pub read_number : (t : Tables) → ((s : Slot) (x : List ℕ) → get t s ≡ Some x → Says (s, x)) → (last ≢ 0 → (s : Slot) × ((x : List ℕ) × (get t s ≡ Some x) × (said (s, x) ≡ Some last)))
      → first_number (filter_map said (entries t)) ≡ last
  read_number t known there =
      at (firsts (entries t) (all_by (λ (e : Slot × List ℕ). get t e.0 ≡ Some e.1) Says (λ e h. known e.0 e.1 h) (entries t) (entries_are_had slot_cmp slots_total t)))
    where
      zero_is : (last == 0) ≡ true → last ≡ 0
      zero_is e = grind (arith, nat_tests)

      other : (last == 0) ≡ false → last ≢ 0
      other e = λ z. absurd (grind (arith, nat_tests))

      by : (b : Bool) → (last == 0) ≡ b → filter_map said (entries t) ≡ [] → first_number (filter_map said (entries t)) ≡ last
      by true e none = ap first_number none ∙ sym (zero_is e)
      by false e none = let a = there (other e) in absurd (some_said (entries t) a.0 a.1.0 last (sym (get-entries t a.0) ∙ a.1.1) a.1.2 none)

      at : (filter_map said (entries t) ≡ []) ⊎ (first_number (filter_map said (entries t)) ≡ last) → first_number (filter_map said (entries t)) ≡ last
      at (inl none) = by (last == 0) refl none
      at (inr h) = h

-- ---- the cells of table 3

le_any : (xs : List ℕ) → is_le (slice_cmp nat_cmp [] xs) ≡ true
le_any [] = refl
le_any (x ∷ xs) = refl

-- what a slot and its content say
abbrev pub says : {A : Type 0} → (Key → List ℕ → Option A) → Slot × List ℕ → Option A
says reading e = cond ((e.0.table == 3) && is_in_span [] [] e.0.key) (cell_says reading (e.0.key, e.1)) None

filter_map_map : {A B C : Type 0} (f : B → Option C) (g : A → B) (p : A → Bool) (es : List A) → filter_map f (map g (filter p es)) ≡ filter_map (λ e. cond (p e) (f (g e)) None) es
filter_map_map f g p [] = refl
filter_map_map {C = C} f g p (e ∷ es) = at (p e) (filter_map_map f g p es)
  where
    rest : List C
    rest = filter_map (λ e. cond (p e) (f (g e)) None) es

    at : (b : Bool) → filter_map f (map g (filter p es)) ≡ filter_map (λ e. cond (p e) (f (g e)) None) es → filter_map f (map g (cond b (e ∷ filter p es) (filter p es))) ≡ cons_option (cond b (f (g e)) None) (filter_map (λ e. cond (p e) (f (g e)) None) es)
    at true r = ap (cons_option (f (g e))) r
    at false r = r

said_of_meta : {A : Type 0} (reading : Key → List ℕ → Option A) (t : Tables) → filter_map (cell_says reading) (meta_of t) ≡ filter_map (says reading) (entries t)
said_of_meta reading t = filter_map_map (cell_says reading) (λ e. (e.0.key, e.1)) (λ e. (e.0.table == 3) && is_in_span [] [] e.0.key) (entries t)

says_at : {A : Type 0} (reading : Key → List ℕ → Option A) (row family content : List ℕ) → says reading (meta_slot row family, content) ≡ reading (meta_key row family) content
says_at reading row family content =
    ap (λ b. cond b (cell_says reading (code (meta_key row family), content)) None) (le_any (code (meta_key row family)))
    ∙ ap (option_and_then (λ k. reading k content)) (key_of_code (meta_key row family) (omega arith))

-- a slot of table 3 has what the cells of that table say
pub meta_has : (w : World) (s : Slot) → s.table ≡ 3 → get (tables w) s ≡ find slot_cmp s (meta_cells w)
meta_has w s t = get_tables w s ∙ ap (λ b. cond b (Some (content_at w s)) (find slot_cmp s (meta_cells w))) (none_given w s t w.events)

is_three : (n : ℕ) → (n == 3) ≡ true → n ≡ 3
is_three n e = grind (arith, nat_tests)

-- what holds of each cell of table 3 holds of each that the tables have and that says something
module _ {A : Type 0} (reading : Key → List ℕ → Option A) (P : A → Type 0) where
  abbrev pub OfAll : Slot × List ℕ → Type 0
  OfAll e = (p : A) → says reading e ≡ Some p → P p

  found_of : (es : List (Slot × List ℕ)) → AllByRecursion OfAll es → (s : Slot) (x : List ℕ) → find slot_cmp s es ≡ Some x → OfAll (s, x)
  found_of [] all s x h = cc
  found_of (e ∷ es) all s x h = at (is_slot s e.0) refl h (found_of es all.1 s x)
    where
      at : (b : Bool) → is_slot s e.0 ≡ b → cond b (Some e.1) (find slot_cmp s es) ≡ Some x → (find slot_cmp s es ≡ Some x → OfAll (s, x)) → OfAll (s, x)
      at true t h r =
          let slot : e.0 ≡ s = sym (same_slot s e.0 t) in
          let content : e.1 ≡ x = cc in
          λ p q. all.0 p ((λ i. says reading (slot i, content i)) ∙ q)
      at false t h r = r h

  pub of_tables : (w : World) → AllByRecursion OfAll (meta_cells w) → (s : Slot) (x : List ℕ) → get (tables w) s ≡ Some x → OfAll (s, x)
  of_tables w all s x h = at (s.table == 3) refl
    where
      at : (b : Bool) → (s.table == 3) ≡ b → OfAll (s, x)
      at true t = found_of (meta_cells w) all s x (sym (meta_has w s (is_three s.table t)) ∙ h)
      at false t = λ p q.
          let none : says reading (s, x) ≡ None = ap (λ b. cond (b && is_in_span [] [] s.key) (cell_says reading (s.key, x)) None) t in
          cc

  pub none_says : (e : Slot × List ℕ) → says reading e ≡ None → OfAll e
  none_says e h = λ p q. cc

  pub of_meta : (w : World) → ((w.last == 0) ≡ false → OfAll (commit_slot, commit_bytes w.last)) → AllByRecursion (λ f. OfAll (field_cell f)) (entries w.dict) → AllByRecursion (λ g. OfAll (grant_cell g)) (entries w.grants) → AllByRecursion OfAll (meta_cells w)
  of_meta w c f g =
      all_append OfAll _ (map grant_cell (entries w.grants))
      (all_append OfAll (commit_cells w.last) (map field_cell (entries w.dict)) (numbers (w.last == 0) refl) (all_map (λ f. OfAll (field_cell f)) OfAll field_cell (λ x h. h) (entries w.dict) f))
      (all_map (λ g. OfAll (grant_cell g)) OfAll grant_cell (λ x h. h) (entries w.grants) g)
    where
      numbers : (b : Bool) → (w.last == 0) ≡ b → AllByRecursion OfAll (cond b [] ((commit_slot, commit_bytes w.last) ∷ []))
      numbers true e = tt
      numbers false e = (c e, tt)

-- ---- cells that stand under keys

tied_bytes : (a b : List ℕ) → a ≡ b → eq_by_cmp (slice_cmp nat_cmp) a b ≡ true
tied_bytes a b e = ap (λ x. is_eq (slice_cmp nat_cmp a x)) (sym e) ∙ ap is_eq (tied_itself nat_list_cmp_total a)

some_is : {A : Type 0} {a b : A} → Some a ≡ Some b → a ≡ b
some_is e = cc

-- two slots of a row are one where their families are
row_slots : (row a b : List ℕ) → is_slot (meta_slot row a) (meta_slot row b) ≡ eq_by_cmp (slice_cmp nat_cmp) a b
row_slots row a b = both_ways _ _
    (λ h.
    let codes : code (meta_key row a) ≡ code (meta_key row b) = ap (λ (x : Slot). x.key) (same_slot (meta_slot row a) (meta_slot row b) h) in
    let keys : Some (meta_key row a) ≡ Some (meta_key row b) = sym (key_of_code (meta_key row a) (omega arith)) ∙ ap key_from codes ∙ key_of_code (meta_key row b) (omega arith) in
    tied_bytes a b (ap (λ (k : Key). k.family) (some_is keys)))
    (λ h. let same : a ≡ b = exact_bytes a b (tied (slice_cmp nat_cmp a b) h) in
    ap (λ x. is_slot (meta_slot row a) (meta_slot row x)) (sym same) ∙ ap is_eq (tied_itself slots_total (meta_slot row a)))

module _ {Y : Type 0} (slot : List ℕ → Slot) (same : (a b : List ℕ) → is_slot (slot a) (slot b) ≡ eq_by_cmp (slice_cmp nat_cmp) a b) (bytes : Y → List ℕ) where
  abbrev pub under : List ℕ × Y → Slot × List ℕ
  under e = (slot e.0, bytes e.1)

  pub find_under : (es : List (List ℕ × Y)) (q : List ℕ) → find slot_cmp (slot q) (map under es) ≡ option_map bytes (find (slice_cmp nat_cmp) q es)
  find_under [] q = refl
  find_under (e ∷ es) q = ap (λ b. cond b (Some (bytes e.1)) (find slot_cmp (slot q) (map under es))) (same q e.0) ∙ at (eq_by_cmp (slice_cmp nat_cmp) q e.0) (find_under es q)
    where
      at : (b : Bool) → find slot_cmp (slot q) (map under es) ≡ option_map bytes (find (slice_cmp nat_cmp) q es) → cond b (Some (bytes e.1)) (find slot_cmp (slot q) (map under es)) ≡ option_map bytes (cond b (Some e.1) (find (slice_cmp nat_cmp) q es))
      at true r = refl
      at false r = r

  -- a slot has nothing, or is that of a key
  where_under : (s : Slot) (es : List (List ℕ × Y)) → (find slot_cmp s (map under es) ≡ None) ⊎ ((q : List ℕ) × (s ≡ slot q))
  where_under s [] = inl refl
  where_under s (e ∷ es) = at (is_slot s (slot e.0)) refl (where_under s es)
    where
      at : (b : Bool) → is_slot s (slot e.0) ≡ b → (find slot_cmp s (map under es) ≡ None) ⊎ ((q : List ℕ) × (s ≡ slot q)) → (cond b (Some (bytes e.1)) (find slot_cmp s (map under es)) ≡ None) ⊎ ((q : List ℕ) × (s ≡ slot q))
      at true t r = inr (e.0, same_slot s (slot e.0) t)
      at false t r = r

  module _ (d : FinMap (slice_cmp nat_cmp) Y) (k : List ℕ) (y : Y) where
    abbrev More : Slot → Type 0
    More s = find slot_cmp s (map under (entries (insert d k y))) ≡ cond (is_slot s (slot k)) (Some (bytes y)) (find slot_cmp s (map under (entries d)))

    picked : (b : Bool) (o : Option Y) → option_map bytes (cond b (Some y) o) ≡ cond b (Some (bytes y)) (option_map bytes o)
    picked true o = refl
    picked false o = refl

    more_at : (q : List ℕ) → More (slot q)
    more_at q =
        find_under (entries (insert d k y)) q
        ∙ ap (option_map bytes) (sym (get-entries (insert d k y) q) ∙ get-insert nat_list_cmp_total d k y q)
        ∙ picked (eq_by_cmp (slice_cmp nat_cmp) q k) (get d q)
        ∙ ap (λ b. cond b (Some (bytes y)) (option_map bytes (get d q))) (sym (same q k))
        ∙ ap (cond (is_slot (slot q) (slot k)) (Some (bytes y))) (ap (option_map bytes) (get-entries d q) ∙ sym (find_under (entries d) q))

    -- with one more, each slot but that one has what it had
    pub find_more : (s : Slot) → More s
    find_more s = at (where_under s (entries (insert d k y))) (where_under s (entries d))
      where
        there : (q : List ℕ) → s ≡ slot q → More s
        there q e = subst More (sym e) (more_at q)

        neither : (b : Bool) → is_slot s (slot k) ≡ b → find slot_cmp s (map under (entries (insert d k y))) ≡ None → find slot_cmp s (map under (entries d)) ≡ None → More s
        neither true t h n = there k (same_slot s (slot k) t)
        neither false t h n = h ∙ sym (ap (λ b. cond b (Some (bytes y)) (find slot_cmp s (map under (entries d)))) t ∙ n)

        at : (find slot_cmp s (map under (entries (insert d k y))) ≡ None) ⊎ ((q : List ℕ) × (s ≡ slot q)) → (find slot_cmp s (map under (entries d)) ≡ None) ⊎ ((q : List ℕ) × (s ≡ slot q)) → More s
        at (inr a) n = there a.0 a.1
        at (inl h) (inr a) = there a.0 a.1
        at (inl h) (inl n) = neither (is_slot s (slot k)) refl h n

  -- what holds of each entry holds of the one that is found
  pub found_entry : (P : List ℕ × Y → Type 0) (es : List (List ℕ × Y)) (q : List ℕ) (y : Y) → AllByRecursion P es → find (slice_cmp nat_cmp) q es ≡ Some y → P (q, y)
  found_entry P [] q y all h = cc
  found_entry P (e ∷ es) q y all h = at (eq_by_cmp (slice_cmp nat_cmp) q e.0) refl h (found_entry P es q y all.1)
    where
      at : (b : Bool) → eq_by_cmp (slice_cmp nat_cmp) q e.0 ≡ b → cond b (Some e.1) (find (slice_cmp nat_cmp) q es) ≡ Some y → (find (slice_cmp nat_cmp) q es ≡ Some y → P (q, y)) → P (q, y)
      at true t h r =
          let key : e.0 ≡ q = sym (exact_bytes q e.0 (tied (slice_cmp nat_cmp q e.0) t)) in
          let value : e.1 ≡ y = cc in
          subst P (λ i. (key i, value i)) all.0
      at false t h r = r h

-- ---- the three kinds of cells

commit_says : (n : ℕ) → 1 ≤ n → n < 2 ^ 63 → says commit_reading (commit_slot, commit_bytes n) ≡ Some n
commit_says n a b = says_at commit_reading commit_row [] (commit_bytes n) ∙ number_again n a b

rule_says : (f : List ℕ × FieldRule) → is_folded_name f.0 ≡ true → says field_reading (field_cell f) ≡ Some f
rule_says f h =
    says_at field_reading field_row f.0 (rule_bytes f.1)
    ∙ ap (λ b. cond b (option_map (λ rule. (f.0, rule)) (rule_from (rule_bytes f.1))) None) h
    ∙ ap (option_map (λ rule. (f.0, rule))) (rule_again f.1)

grant_says : (g : List ℕ × List (List ℕ)) → IsGrant g → says grant_reading (grant_cell g) ≡ Some g
grant_says g h =
    says_at grant_reading grant_row g.0 (names_bytes g.1)
    ∙ ap (λ b. cond b (option_map (λ names. (g.0, names)) (names_from (names_bytes g.1))) None) h.caller
    ∙ ap (option_map (λ names. (g.0, names))) (granted_again g.1 h.names)

no_commit : (n : ℕ) (s : Slot) → is_slot s commit_slot ≡ false → find slot_cmp s (commit_cells n) ≡ None
no_commit n s h = at (n == 0)
  where
    at : (b : Bool) → find slot_cmp s (cond b [] ((commit_slot, commit_bytes n) ∷ [])) ≡ None
    at true = refl
    at false = ap (λ b. cond b (Some (commit_bytes n)) None) h

no_rule : (caller : List ℕ) (fs : List (List ℕ × FieldRule)) → find slot_cmp (grant_slot caller) (map field_cell fs) ≡ None
no_rule caller [] = refl
no_rule caller (f ∷ fs) = no_rule caller fs

find_meta : (w : World) (s : Slot) → find slot_cmp s (meta_cells w)
    ≡ option_or (option_or (find slot_cmp s (commit_cells w.last)) (find slot_cmp s (map field_cell (entries w.dict)))) (find slot_cmp s (map grant_cell (entries w.grants)))
find_meta w s =
    find_append (commit_cells w.last ++ map field_cell (entries w.dict)) (map grant_cell (entries w.grants)) s
    ∙ ap (λ o. option_or o (find slot_cmp s (map grant_cell (entries w.grants)))) (find_append (commit_cells w.last) (map field_cell (entries w.dict)) s)

-- what the slot of a field has
pub find_rule : (w : World) (field : List ℕ) (rule : FieldRule) → get w.dict field ≡ Some rule → find slot_cmp (field_slot field) (meta_cells w) ≡ Some (rule_bytes rule)
find_rule w field rule h =
    find_meta w (field_slot field)
    ∙ ap (λ o. option_or (option_or o (find slot_cmp (field_slot field) (map field_cell (entries w.dict)))) (find slot_cmp (field_slot field) (map grant_cell (entries w.grants)))) (no_commit w.last (field_slot field) refl)
    ∙ ap (λ o. option_or o (find slot_cmp (field_slot field) (map grant_cell (entries w.grants))))
    (find_under field_slot (row_slots field_row) rule_bytes (entries w.dict) field ∙ ap (option_map rule_bytes) (sym (get-entries w.dict field) ∙ h))

-- and that of a caller
find_grant : (w : World) (caller : List ℕ) (names : List (List ℕ)) → get w.grants caller ≡ Some names → find slot_cmp (grant_slot caller) (meta_cells w) ≡ Some (names_bytes names)
find_grant w caller names h =
    find_meta w (grant_slot caller)
    ∙ ap (λ o. option_or (option_or o (find slot_cmp (grant_slot caller) (map field_cell (entries w.dict)))) (find slot_cmp (grant_slot caller) (map grant_cell (entries w.grants)))) (no_commit w.last (grant_slot caller) refl)
    ∙ ap (λ o. option_or o (find slot_cmp (grant_slot caller) (map grant_cell (entries w.grants)))) (no_rule caller (entries w.dict))
    ∙ find_under grant_slot (row_slots grant_row) names_bytes (entries w.grants) caller
    ∙ ap (option_map names_bytes) (sym (get-entries w.grants caller) ∙ h)

every : {A : Type 0} (P : A → Type 0) → ((x : A) → P x) → (xs : List A) → AllByRecursion P xs
every P h [] = tt
every P h (x ∷ xs) = (h x, every P h xs)

-- ---- reading table 3 of a world

dict_read : (w : World) → IsWorld w → dict_of (tables w) ≡ w.dict
dict_read w is =
    ap (λ (es : List (List ℕ × FieldRule)). from_entries {R = slice_cmp nat_cmp} es) (said_of_meta field_reading (tables w))
    ∙ read_map (says field_reading) w.dict (tables w) (of_tables field_reading Had w (of_meta field_reading Had w
    (λ z. none_says field_reading Had (commit_slot, commit_bytes w.last) (says_at field_reading commit_row [] (commit_bytes w.last)))
    rules
    (every _ (λ g. none_says field_reading Had (grant_cell g) (says_at field_reading grant_row g.0 (names_bytes g.1))) (entries w.grants))))
    (λ field rule h.
    let folded : is_folded_name field ≡ true = found_entry field_slot (row_slots field_row) rule_bytes (λ f. IsTrue (is_folded_name f.0)) (entries w.dict) field rule is.fields (sym (get-entries w.dict field) ∙ h) in
    (field_slot field, (rule_bytes rule, meta_has w (field_slot field) refl ∙ find_rule w field rule h, rule_says (field, rule) folded)))
  where
    Had : List ℕ × FieldRule → Type 0
    Had p = get w.dict p.0 ≡ Some p.1

    rules : AllByRecursion (λ f. OfAll field_reading Had (field_cell f)) (entries w.dict)
    rules = all_by (λ (f : List ℕ × FieldRule). (get w.dict f.0 ≡ Some f.1) × IsTrue (is_folded_name f.0)) (λ f. OfAll field_reading Had (field_cell f))
        (λ f h p q. subst Had (some_is (sym (rule_says f h.1) ∙ q)) h.0) (entries w.dict)
        (all_both (λ (f : List ℕ × FieldRule). get w.dict f.0 ≡ Some f.1) (λ (f : List ℕ × FieldRule). IsTrue (is_folded_name f.0)) (entries w.dict) (entries_are_had (slice_cmp nat_cmp) nat_list_cmp_total w.dict) is.fields)

grants_read : (w : World) → IsWorld w → grants_of (tables w) ≡ w.grants
grants_read w is =
    ap (λ (es : List (List ℕ × List (List ℕ))). from_entries {R = slice_cmp nat_cmp} es) (said_of_meta grant_reading (tables w))
    ∙ read_map (says grant_reading) w.grants (tables w) (of_tables grant_reading Had w (of_meta grant_reading Had w
    (λ z. none_says grant_reading Had (commit_slot, commit_bytes w.last) (says_at grant_reading commit_row [] (commit_bytes w.last)))
    (every _ (λ f. none_says grant_reading Had (field_cell f) (says_at grant_reading field_row f.0 (rule_bytes f.1))) (entries w.dict))
    granted))
    (λ caller names h.
    let keeps : IsGrant (caller, names) = found_entry grant_slot (row_slots grant_row) names_bytes IsGrant (entries w.grants) caller names is.grants (sym (get-entries w.grants caller) ∙ h) in
    (grant_slot caller, (names_bytes names, meta_has w (grant_slot caller) refl ∙ find_grant w caller names h, grant_says (caller, names) keeps)))
  where
    Had : List ℕ × List (List ℕ) → Type 0
    Had p = get w.grants p.0 ≡ Some p.1

    granted : AllByRecursion (λ g. OfAll grant_reading Had (grant_cell g)) (entries w.grants)
    granted = all_by (λ (g : List ℕ × List (List ℕ)). (get w.grants g.0 ≡ Some g.1) × IsGrant g) (λ g. OfAll grant_reading Had (grant_cell g))
        (λ g h p q. subst Had (some_is (sym (grant_says g h.1) ∙ q)) h.0) (entries w.grants)
        (all_both (λ (g : List ℕ × List (List ℕ)). get w.grants g.0 ≡ Some g.1) IsGrant (entries w.grants) (entries_are_had (slice_cmp nat_cmp) nat_list_cmp_total w.grants) is.grants)

last_read : (w : World) → IsWorld w → last_of (tables w) ≡ w.last
last_read w is =
    ap first_number (said_of_meta commit_reading (tables w))
    ∙ read_number (says commit_reading) w.last (tables w) (of_tables commit_reading (λ n. n ≡ w.last) w (of_meta commit_reading (λ n. n ≡ w.last) w
    (λ z p q. some_is (sym q ∙ said (above z)))
    (every _ (λ f. none_says commit_reading (λ n. n ≡ w.last) (field_cell f) (says_at commit_reading field_row f.0 (rule_bytes f.1))) (entries w.dict))
    (every _ (λ g. none_says commit_reading (λ n. n ≡ w.last) (grant_cell g) (says_at commit_reading grant_row g.0 (names_bytes g.1))) (entries w.grants))))
    (λ h. (commit_slot, (commit_bytes w.last, meta_has w commit_slot refl ∙ found (some h), said (above (some h)))))
  where
    above : (w.last == 0) ≡ false → 1 ≤ w.last
    above z = grind (arith, nat_tests)

    some : w.last ≢ 0 → (w.last == 0) ≡ false
    some h = grind (arith, nat_tests, h)

    said : 1 ≤ w.last → says commit_reading (commit_slot, commit_bytes w.last) ≡ Some w.last
    said a = let m = is.most in commit_says w.last a (omega (arith, m))

    found : (w.last == 0) ≡ false → find slot_cmp commit_slot (meta_cells w) ≡ Some (commit_bytes w.last)
    found z =
        ap (λ b. find slot_cmp commit_slot (cond b [] ((commit_slot, commit_bytes w.last) ∷ []) ++ map field_cell (entries w.dict) ++ map grant_cell (entries w.grants))) z
        ∙ ap (λ b. cond b (Some (commit_bytes w.last)) (find slot_cmp commit_slot (map field_cell (entries w.dict) ++ map grant_cell (entries w.grants)))) (ap is_eq (tied_itself slots_total commit_slot))

pub meta_read : MetaIsRead
meta_read w is = record { last = last_read w is; dict = dict_read w is; grants = grants_read w is }

-- ---- one cell more of table 3

pub itself_there : {Y : Type 0} (d : FinMap (slice_cmp nat_cmp) Y) (k : List ℕ) (y : Y) → get (insert d k y) k ≡ Some y
itself_there d k y = get-insert nat_list_cmp_total d k y k ∙ ap (λ b. cond b (Some y) (get d k)) (ap is_eq (tied_itself nat_list_cmp_total k))

-- where there is no event the tables have table 3 alone
only_meta : (w : World) → w.events ≡ [] → (s : Slot) → get (tables w) s ≡ find slot_cmp s (meta_cells w)
only_meta w none s = get_tables w s ∙ ap (λ es. cond (list_any (gives (slots_of w.dict) s) es) (Some (content_at w s)) (find slot_cmp s (meta_cells w))) none

-- a slot of another field has what it had
pub rule_apart : (w : World) (field : List ℕ) (rule : FieldRule) (s : Slot) → is_slot s (field_slot field) ≡ false → find slot_cmp s (meta_cells w) ≡ find slot_cmp s (meta_cells (with_rule w field rule))
rule_apart w field rule s t =
    let more : find slot_cmp s (map field_cell (entries (insert w.dict field rule))) ≡ find slot_cmp s (map field_cell (entries w.dict)) =
    find_more field_slot (row_slots field_row) rule_bytes w.dict field rule s ∙ ap (λ b. cond b (Some (rule_bytes rule)) (find slot_cmp s (map field_cell (entries w.dict)))) t in
    find_meta w s
    ∙ ap (λ o. option_or (option_or (find slot_cmp s (commit_cells w.last)) o) (find slot_cmp s (map grant_cell (entries w.grants)))) (sym more)
    ∙ sym (find_meta (with_rule w field rule) s)

pub rule_set : RulesAreCells
rule_set w field rule none = same_map slots_total exact_slots _ _ (λ s.
    get-insert slots_total (tables w) (field_slot field) (rule_bytes rule) s
    ∙ at s (is_slot s (field_slot field)) refl
    ∙ sym (only_meta (with_rule w field rule) none s))
  where
    next : World
    next = with_rule w field rule

    at : (s : Slot) (b : Bool) → is_slot s (field_slot field) ≡ b → cond b (Some (rule_bytes rule)) (get (tables w) s) ≡ find slot_cmp s (meta_cells next)
    at s true t = sym (ap (λ x. find slot_cmp x (meta_cells next)) (same_slot s (field_slot field) t) ∙ find_rule next field rule (itself_there w.dict field rule))
    at s false t = only_meta w none s ∙ rule_apart w field rule s t

pub grant_set : GrantsAreCells
grant_set w caller names = same_map slots_total exact_slots _ _ (λ s.
    get-insert slots_total (tables w) (grant_slot caller) (names_bytes names) s
    ∙ at s (is_slot s (grant_slot caller)) refl)
  where
    next : World
    next = with_grant w caller names

    at : (s : Slot) (b : Bool) → is_slot s (grant_slot caller) ≡ b → cond b (Some (names_bytes names)) (get (tables w) s) ≡ get (tables next) s
    at s true t =
        let same : s ≡ grant_slot caller = same_slot s (grant_slot caller) t in
        sym (meta_has next s (ap (λ (x : Slot). x.table) same) ∙ ap (λ x. find slot_cmp x (meta_cells next)) same ∙ find_grant next caller names (itself_there w.grants caller names))
    at s false t =
        let more : find slot_cmp s (map grant_cell (entries next.grants)) ≡ find slot_cmp s (map grant_cell (entries w.grants)) =
        find_more grant_slot (row_slots grant_row) names_bytes w.grants caller names s ∙ ap (λ b. cond b (Some (names_bytes names)) (find slot_cmp s (map grant_cell (entries w.grants)))) t in
        get_tables w s
        ∙ ap (cond (list_any (gives (slots_of w.dict) s) w.events) (Some (content_at w s)))
        (find_meta w s ∙ ap (option_or (option_or (find slot_cmp s (commit_cells w.last)) (find slot_cmp s (map field_cell (entries w.dict))))) (sym more) ∙ sym (find_meta next s))
        ∙ sym (get_tables next s)

-- ---- the rules of a world

module _ {Y : Type 0} (P : List ℕ × Y → Type 0) (k : List ℕ) (y : Y) where
  all_put : P (k, y) → (es : List (List ℕ × Y)) → AllByRecursion P es → AllByRecursion P (put (slice_cmp nat_cmp) k y es)
  all_put h [] all = (h, tt)
  all_put h (e ∷ es) all = at (slice_cmp nat_cmp k e.0) refl (all_put h es all.1)
    where
      at : (o : Ordering) → slice_cmp nat_cmp k e.0 ≡ o → AllByRecursion P (put (slice_cmp nat_cmp) k y es) → AllByRecursion P (by_order o ((k, y) ∷ e ∷ es) ((e.0, y) ∷ es) (e ∷ put (slice_cmp nat_cmp) k y es))
      at Less t r = (h, all)
      at Equal t r = (let key = exact_bytes k e.0 t in subst P (λ i. (key i, y)) h, all.1)
      at Greater t r = (all.0, r)

  pub all_inserted : (d : FinMap (slice_cmp nat_cmp) Y) → P (k, y) → AllByRecursion P (entries d) → AllByRecursion P (entries (insert d k y))
  all_inserted d h all = subst (AllByRecursion P) (sym (entries-insert nat_list_cmp_total d k y)) (all_put h (entries d) all)

pub rule_keeps : RulesKeepWorlds
rule_keeps w field rule none is folded = record {
  events = record {
    ascend = is.events.ascend;
    lawful = is.events.lawful;
    old = λ s h. let given = is.events.old s h in let no : list_any (gives (slots_of w.dict) s) w.events ≡ false = ap (list_any (gives (slots_of w.dict) s)) none in cc;
  };
  fields = all_inserted (λ f. IsTrue (is_folded_name f.0)) field rule w.dict folded is.fields;
  grants = is.grants;
  batches = is.batches;
  none = is.none;
  most = is.most;
}

pub grant_keeps : GrantsKeepWorlds
grant_keeps w caller names is named granted = record {
  events = record { ascend = is.events.ascend; lawful = is.events.lawful; old = is.events.old };
  fields = is.fields;
  grants = all_inserted IsGrant caller names w.grants (record { caller = named; names = granted }) is.grants;
  batches = is.batches;
  none = is.none;
  most = is.most;
}
