-- On tables that are compared run by run.
use Rattle.std.proofs.Common.{◌≡◌, ◌≤◌, ◌<◌, ◌&&◌, ◌==◌, ◌++◌, ℕ, zero, suc, Bool, true, false, cond, List, [], ◌∷◌, map, length, take, drop, T, refl, sym, ap, subst, ◌∙◌, append_assoc, arith}
use Rattle.std.specs.Prelude.{Option, Some, None, IfSome, filter}
use Rattle.std.specs.Cmp.{nat_cmp_is}
use Rattle.std.specs.Cmp.Lexicographic.{slice_cmp, nat_list_cmp_total}
use Rattle.std.specs.Ordering.{nat_cmp, ordering_then, ordering_reverse, is_le, is_lt, match_ordering}
use Rattle.std.specs.Str.{bytes_eq}
use Rattle.std.specs.FinMap.{is_sorted, entries}
use Rattle.std.specs.FinMap.Entries.{below_all, where_key, is_sorted-where_key}
use Rattle.std.proofs.lemmas.List.{length-map}
use Rattle.std.specs.List.{AllByRecursion}
use Rattle.std.specs.declared.cmp.Ordering.{Ordering}
use Rattle.std.specs.declared.cmp.Ordering.TheVariants.{Less, Equal, Greater}
use Rattle.std.proofs.lemmas.Cmp.{tied_itself}
use Rattle.std.proofs.lemmas.Map.Lookups.{exact_bytes}
use Rattle.dw_outside.specs.declared.slot.Slot.{Slot}
use Rattle.dw_outside.specs.declared.cell.Cell.{Cell}
use Rattle.dw_outside.specs.Tables.{Tables, cell_pair, is_in_span, span_of}
use Rattle.dw_outside.proofs.Batches.{first_part, second_part}
use Rattle.dw_audit.proofs.Differing.{Verdict, walked}
use Rattle.dw_audit.proofs.TableSpans.{span_sorted, compared}
use Rattle.dw_audit.specs.declared.comparing.Difference.{Difference}
use Rattle.dw_audit.specs.Comparing.{Cells, formed, only_found, only_wanted, changed_or, differ_or, first_difference, IsCompared}
use Rattle.dw_audit.specs.Runs.{IsNext, IsRun, difference_from}

abbrev names : List ℕ → List ℕ → Ordering
names = slice_cmp nat_cmp

-- ---- a difference within two runs

module _ (lists : Bool) where
  changed_some : (x y : Option Difference) (e : List ℕ × List ℕ) (wanted : List ℕ) (d : Difference) → (x ≡ Some d → y ≡ Some d) → changed_or x e wanted ≡ Some d → changed_or y e wanted ≡ Some d
  changed_some x y e wanted d f h = at (bytes_eq e.1 wanted) h
    where
      changed : Option Difference
      changed = Some (record { key = e.0; found = Some e.1; wanted = Some wanted })

      at : (b : Bool) → cond b x changed ≡ Some d → cond b y changed ≡ Some d
      at true h = f h
      at false h = h

  -- it is the first difference of all
  pub run_some : (n : ℕ) (es fs : Cells) (d : Difference) → first_difference lists (take n es) (take n fs) ≡ Some d → first_difference lists es fs ≡ Some d
  run_some zero es fs d h = cc
  run_some (suc n) [] [] d h = cc
  run_some (suc n) [] (f ∷ fs) d h = h
  run_some (suc n) (e ∷ es) [] d h = h
  run_some (suc n) (e ∷ es) (f ∷ fs) d h = at (names e.0 f.0) h (run_some n es fs d)
    where
      rest : Option Difference
      rest = first_difference lists es fs

      runs : Option Difference
      runs = first_difference lists (take n es) (take n fs)

      at : (r : Ordering) → match_ordering r (only_found e) (changed_or runs e (formed lists (Some e.1) f.1)) (only_wanted f) ≡ Some d → (runs ≡ Some d → rest ≡ Some d)
          → match_ordering r (only_found e) (changed_or rest e (formed lists (Some e.1) f.1)) (only_wanted f) ≡ Some d
      at Less h g = h
      at Equal h g = changed_some runs rest e (formed lists (Some e.1) f.1) d g h
      at Greater h g = h

  -- what follows from two first cells that are alike
  record AreAlike (e f : List ℕ × List ℕ) (x : Option Difference) : Type 0 where
    pub same : e.0 ≡ f.0
    pub none : x ≡ None
    pub goes : (y : Option Difference) → differ_or lists y e f ≡ y

  alike : (e f : List ℕ × List ℕ) (x : Option Difference) → differ_or lists x e f ≡ None → AreAlike e f x
  alike e f x h = at (names e.0 f.0) refl h
    where
      wanted : List ℕ
      wanted = formed lists (Some e.1) f.1

      changed : Option Difference
      changed = Some (record { key = e.0; found = Some e.1; wanted = Some wanted })

      within : (b : Bool) → bytes_eq e.1 wanted ≡ b → names e.0 f.0 ≡ Equal → cond b x changed ≡ None → AreAlike e f x
      within true t q h = record {
        same = exact_bytes e.0 f.0 q;
        none = h;
        goes = λ y. ap (λ r. match_ordering r (only_found e) (changed_or y e wanted) (only_wanted f)) q ∙ ap (λ b. cond b y changed) t;
      }
      within false t q h = cc

      at : (r : Ordering) → names e.0 f.0 ≡ r → match_ordering r (only_found e) (changed_or x e wanted) (only_wanted f) ≡ None → AreAlike e f x
      at Less q h = cc
      at Equal q h = within (bytes_eq e.1 wanted) refl q h
      at Greater q h = cc

  -- where there is none, the difference is that of what follows
  pub run_none : (n : ℕ) (es fs : Cells) → first_difference lists (take n es) (take n fs) ≡ None → first_difference lists es fs ≡ first_difference lists (drop n es) (drop n fs)
  run_none zero es fs h = refl
  run_none (suc n) [] [] h = refl
  run_none (suc n) [] (f ∷ fs) h = cc
  run_none (suc n) (e ∷ es) [] h = cc
  run_none (suc n) (e ∷ es) (f ∷ fs) h =
      let a : AreAlike e f (first_difference lists (take n es) (take n fs)) = alike e f (first_difference lists (take n es) (take n fs)) h in
      a.goes (first_difference lists es fs) ∙ run_none n es fs a.none

  -- and the runs have the same keys
  pub run_keys : (n : ℕ) (es fs : Cells) → first_difference lists (take n es) (take n fs) ≡ None → map (λ (e : List ℕ × List ℕ). e.0) (take n es) ≡ map (λ (f : List ℕ × List ℕ). f.0) (take n fs)
  run_keys zero es fs h = refl
  run_keys (suc n) [] [] h = refl
  run_keys (suc n) [] (f ∷ fs) h = cc
  run_keys (suc n) (e ∷ es) [] h = cc
  run_keys (suc n) (e ∷ es) (f ∷ fs) h =
      let a : AreAlike e f (first_difference lists (take n es) (take n fs)) = alike e f (first_difference lists (take n es) (take n fs)) h in
      let rest = run_keys n es fs a.none in
      λ i. a.same i ∷ rest i

-- ---- what follows a run

le_nothing : (ys : List ℕ) → is_le (names [] ys) ≡ true
le_nothing [] = refl
le_nothing (y ∷ ys) = refl

-- the first key past a key is the key and a byte 0
pub past_key : (k x : List ℕ) → is_le (names (k ++ 0 ∷ []) x) ≡ is_lt (names k x)
past_key [] [] = refl
past_key [] (zero ∷ ys) = le_nothing ys
past_key [] (suc y ∷ ys) = ap (λ r. is_le (ordering_then r (names [] ys))) (sym (nat_cmp_is 0 (suc y) Less (omega arith)))
past_key (a ∷ k) [] = refl
past_key (a ∷ k) (y ∷ x) = at (nat_cmp a y) (past_key k x)
  where
    at : (r : Ordering) → is_le (names (k ++ 0 ∷ []) x) ≡ is_lt (names k x) → is_le (ordering_then r (names (k ++ 0 ∷ []) x)) ≡ is_lt (ordering_then r (names k x))
    at Less h = refl
    at Equal h = h
    at Greater h = refl

less : (o : Ordering) → T (is_lt o) → o ≡ Less
less Less h = refl
less Equal h = absurd h
less Greater h = absurd h

above_all : (c : List ℕ × List ℕ) (ys : Cells) → T (below_all names c.0 ys) → filter (λ e. is_lt (names c.0 e.0)) ys ≡ ys
above_all c [] h = refl
above_all c (y ∷ ys) h =
    ap (λ b. cond b (y ∷ filter (λ e. is_lt (names c.0 e.0)) ys) (filter (λ e. is_lt (names c.0 e.0)) ys)) (ap is_lt (less (names c.0 y.0) (first_part _ _ h)))
    ∙ ap (λ zs. y ∷ zs) (above_all c ys (second_part (is_lt (names c.0 y.0)) _ h))

not_itself : (c : List ℕ) → is_lt (names c c) ≡ false
not_itself c = ap is_lt (tied_itself nat_list_cmp_total c)

below_it : (y c : List ℕ) (zs : Cells) (x : List ℕ) (front : Cells) (rest : Cells) → zs ≡ front ++ (c, x) ∷ rest → T (below_all names y zs) → names y c ≡ Less
below_it y c zs x [] rest e h = let b = subst (λ ws. T (below_all names y ws)) e h in less (names y c) (first_part _ _ b)
below_it y c [] x (f ∷ front) rest e h = cc
below_it y c (z ∷ zs) x (f ∷ front) rest e h = let tails : zs ≡ front ++ (c, x) ∷ rest = cc in below_it y c zs x front rest tails (second_part (is_lt (names y z.0)) _ h)

not_above : (y c : List ℕ) → names y c ≡ Less → is_lt (names c y) ≡ false
not_above y c h = ap is_lt (nat_list_cmp_total.antisymm c y ∙ ap ordering_reverse h)

taken : (n : ℕ) (ys : Cells) → ys ≡ take n ys ++ drop n ys
taken zero ys = refl
taken (suc n) [] = refl
taken (suc n) (y ∷ ys) = ap (λ zs. y ∷ zs) (taken n ys)

-- behind a run stand the cells whose keys are past its last one
pub behind : (n : ℕ) (ys front : Cells) (c : List ℕ × List ℕ) → T (is_sorted names ys) → take n ys ≡ front ++ c ∷ [] → filter (λ e. is_lt (names c.0 e.0)) ys ≡ drop n ys
behind zero ys [] c s h = cc
behind zero ys (f ∷ front) c s h = cc
behind (suc n) [] [] c s h = cc
behind (suc n) [] (f ∷ front) c s h = cc
behind (suc n) (y ∷ ys) [] c s h =
    let first : y ≡ c = cc in
    let none : take n ys ≡ [] = cc in
    let up : T (below_all names c.0 ys) = subst (λ (z : List ℕ × List ℕ). T (below_all names z.0 ys)) first (first_part _ _ s) in
    ap (λ b. cond b (y ∷ filter (λ e. is_lt (names c.0 e.0)) ys) (filter (λ e. is_lt (names c.0 e.0)) ys)) (ap (λ (z : List ℕ × List ℕ). is_lt (names c.0 z.0)) first ∙ not_itself c.0)
    ∙ above_all c ys up
    ∙ taken n ys ∙ ap (λ zs. zs ++ drop n ys) none
behind (suc n) (y ∷ ys) (f ∷ front) c s h =
    let rest : take n ys ≡ front ++ c ∷ [] = cc in
    let whole : ys ≡ (front ++ c ∷ []) ++ drop n ys = taken n ys ∙ ap (λ zs. zs ++ drop n ys) rest in
    let low : names y.0 c.0 ≡ Less = below_it y.0 c.0 ys c.1 front (drop n ys) (whole ∙ append_assoc front (c ∷ []) (drop n ys)) (first_part _ _ s) in
    ap (λ b. cond b (y ∷ filter (λ e. is_lt (names c.0 e.0)) ys) (filter (λ e. is_lt (names c.0 e.0)) ys)) (not_above y.0 c.0 low)
    ∙ behind n ys front c (second_part (below_all names y.0 ys) _ s) rest

-- ---- of a table

module _ (k : ℕ) where
  abbrev cell : Slot × List ℕ → List ℕ × List ℕ
  cell e = (e.0.key, e.1)

  abbrev at_least : List ℕ → Slot × List ℕ → Bool
  at_least from e = (e.0.table == k) && is_in_span from [] e.0.key

  above_from : (from c x : List ℕ) → is_le (names from c) ≡ true → names c x ≡ Less → is_le (names from x) ≡ true
  above_from from c x h l = at (names from c) refl h
    where
      at : (r : Ordering) → names from c ≡ r → is_le r ≡ true → is_le (names from x) ≡ true
      at Less q t = ap is_le (nat_list_cmp_total.trans from c x q l)
      at Equal q t = ap (λ y. is_le (names y x)) (exact_bytes from c q) ∙ ap is_le l
      at Greater q t = cc

  narrowed : (from c : List ℕ) → is_le (names from c) ≡ true → (x : List ℕ) → (is_le (names from x) && is_lt (names c x)) ≡ is_lt (names c x)
  narrowed from c h x = at (names c x) refl
    where
      none : (a : Bool) → (a && false) ≡ false
      none true = refl
      none false = refl

      at : (r : Ordering) → names c x ≡ r → (is_le (names from x) && is_lt r) ≡ is_lt r
      at Less q = ap (λ b. b && true) (above_from from c x h q)
      at Equal q = none (is_le (names from x))
      at Greater q = none (is_le (names from x))

  -- the cells past a key among those from a key on
  filtered : (from c : List ℕ) → is_le (names from c) ≡ true → (es : List (Slot × List ℕ))
      → map cell (filter (at_least (c ++ 0 ∷ [])) es) ≡ filter (λ e. is_lt (names c e.0)) (map cell (filter (at_least from) es))
  filtered from c h [] = refl
  filtered from c h (e ∷ es) = at (e.0.table == k) (is_le (names from e.0.key)) (is_lt (names c e.0.key)) refl (past_key c e.0.key) (narrowed from c h e.0.key) (filtered from c h es)
    where
      past : List (Slot × List ℕ)
      past = filter (at_least (c ++ 0 ∷ [])) es

      kept : List (Slot × List ℕ)
      kept = filter (at_least from) es

      rest : Cells
      rest = filter (λ e. is_lt (names c e.0)) (map cell kept)

      at : (a b l : Bool) → is_lt (names c e.0.key) ≡ l → is_le (names (c ++ 0 ∷ []) e.0.key) ≡ l → (b && l) ≡ l → map cell past ≡ rest
          → map cell (cond (a && is_le (names (c ++ 0 ∷ []) e.0.key)) (e ∷ past) past) ≡ filter (λ e. is_lt (names c e.0)) (map cell (cond (a && b) (e ∷ kept) kept))
      at false b l t p q r = r
      at true true true t p q r = ap (λ x. map cell (cond x (e ∷ past) past)) p ∙ ap (λ zs. cell e ∷ zs) r ∙ sym (ap (λ x. cond x (cell e ∷ rest) rest) t)
      at true true false t p q r = ap (λ x. map cell (cond x (e ∷ past) past)) p ∙ r ∙ sym (ap (λ x. cond x (cell e ∷ rest) rest) t)
      at true false true t p q r = cc
      at true false false t p q r = ap (λ x. map cell (cond x (e ∷ past) past)) p ∙ r

  -- the cells from a key on among all
  from_all : (from : List ℕ) (es : List (Slot × List ℕ)) → map cell (filter (at_least from) es) ≡ where_key names (λ x. is_le (names from x)) (map cell (filter (at_least []) es))
  from_all from [] = refl
  from_all from (e ∷ es) =
      at (e.0.table == k) (is_le (names from e.0.key)) (from_all from es)
      ∙ ap (λ b. where_key names (λ x. is_le (names from x)) (map cell (cond ((e.0.table == k) && b) (e ∷ filter (at_least []) es) (filter (at_least []) es)))) (sym (le_nothing e.0.key))
    where
      kept : List (Slot × List ℕ)
      kept = filter (at_least from) es

      all : List (Slot × List ℕ)
      all = filter (at_least []) es

      at : (a b : Bool) → map cell kept ≡ where_key names (λ x. is_le (names from x)) (map cell all)
          → map cell (cond (a && is_le (names from e.0.key)) (e ∷ kept) kept) ≡ where_key names (λ x. is_le (names from x)) (map cell (cond (a && true) (e ∷ all) all))
      at false b r = r
      at true b r = by (is_le (names from e.0.key)) r
        where
          by : (b : Bool) → map cell kept ≡ where_key names (λ x. is_le (names from x)) (map cell all)
              → map cell (cond b (e ∷ kept) kept) ≡ cond b (cell e ∷ where_key names (λ x. is_le (names from x)) (map cell all)) (where_key names (λ x. is_le (names from x)) (map cell all))
          by true r = ap (λ zs. cell e ∷ zs) r
          by false r = r

  sorted_from : (from : List ℕ) (m : Tables) → T (is_sorted names (span_of k from [] m))
  sorted_from from m = subst (λ zs. T (is_sorted names zs)) (sym (from_all from (entries m))) (is_sorted-where_key names (λ x. is_le (names from x)) (span_of k [] [] m) (span_sorted k m))

  all_from : (from : List ℕ) (es : List (Slot × List ℕ)) → AllByRecursion (λ (e : List ℕ × List ℕ). is_le (names from e.0) ≡ true) (map cell (filter (at_least from) es))
  all_from from [] = tt
  all_from from (e ∷ es) = at (e.0.table == k) (is_le (names from e.0.key)) refl (all_from from es)
    where
      at : (a b : Bool) → is_le (names from e.0.key) ≡ b → AllByRecursion (λ (e : List ℕ × List ℕ). is_le (names from e.0) ≡ true) (map cell (filter (at_least from) es))
          → AllByRecursion (λ (e : List ℕ × List ℕ). is_le (names from e.0) ≡ true) (map cell (cond (a && b) (e ∷ filter (at_least from) es) (filter (at_least from) es)))
      at false b t r = r
      at true true t r = (t, r)
      at true false t r = r

  last_holds : (P : List ℕ × List ℕ → Type 0) (front : Cells) (c : List ℕ × List ℕ) (rest : Cells) → AllByRecursion P (front ++ c ∷ rest) → P c
  last_holds P [] c rest h = h.0
  last_holds P (f ∷ front) c rest h = last_holds P front c rest h.1

  -- the span past the last key of a run is what is left behind it
  pub next_span : (n : ℕ) (from : List ℕ) (m : Tables) (front : Cells) (c : List ℕ × List ℕ) → take n (span_of k from [] m) ≡ front ++ c ∷ [] → span_of k (c.0 ++ 0 ∷ []) [] m ≡ drop n (span_of k from [] m)
  next_span n from m front c h =
      let es = span_of k from [] m in
      let whole : es ≡ front ++ c ∷ drop n es = taken n es ∙ ap (λ zs. zs ++ drop n es) h ∙ append_assoc front (c ∷ []) (drop n es) in
      let above : is_le (names from c.0) ≡ true = last_holds (λ e. is_le (names from e.0) ≡ true) front c (drop n es) (subst (AllByRecursion (λ (e : List ℕ × List ℕ). is_le (names from e.0) ≡ true)) whole (all_from from (entries m))) in
      filtered from c.0 above (entries m) ∙ behind n es front c (sorted_from from m) h

-- ---- one run

-- cells whose keys end with one end with a cell of it
record EndsWith (xs : Cells) (key : List ℕ) : Type 0 where
  pub front : Cells
  pub last : List ℕ × List ℕ
  pub whole : xs ≡ front ++ last ∷ []
  pub key_is : last.0 ≡ key

ends_with : (xs front : Cells) (c : List ℕ × List ℕ) → map (λ (e : List ℕ × List ℕ). e.0) xs ≡ map (λ (e : List ℕ × List ℕ). e.0) (front ++ c ∷ []) → EndsWith xs c.0
ends_with [] [] c h = cc
ends_with [] (f ∷ front) c h = cc
ends_with (x ∷ []) [] c h = record { front = []; last = x; whole = refl; key_is = cc }
ends_with (x ∷ y ∷ xs) [] c h = cc
ends_with (x ∷ xs) (f ∷ front) c h =
    let rest : EndsWith xs c.0 = ends_with xs front c cc in
    record { front = x ∷ rest.front; last = rest.last; whole = ap (λ zs. x ∷ zs) rest.whole; key_is = rest.key_is }

short : (n : ℕ) (xs : Cells) → length (take n xs) < n → drop n xs ≡ []
short zero xs h = absurd (omega arith)
short (suc n) [] h = refl
short (suc n) (x ∷ xs) h = short n xs (omega arith)

same_length : (xs ys : Cells) → map (λ (e : List ℕ × List ℕ). e.0) xs ≡ map (λ (e : List ℕ × List ℕ). e.0) ys → length xs ≡ length ys
same_length xs ys h = sym (length-map xs (λ (e : List ℕ × List ℕ). e.0)) ∙ ap length h ∙ length-map ys (λ (e : List ℕ × List ℕ). e.0)

module _ (k n : ℕ) (from : List ℕ) (t u : Tables) where
  abbrev es : Cells
  es = span_of k from [] t

  abbrev fs : Cells
  fs = span_of k from [] u

  -- a run of fewer cells is the last
  pub run_ends : first_difference true (take n es) (take n fs) ≡ None → length (take n fs) < n → first_difference true es fs ≡ None
  run_ends h few =
      let same = same_length (take n es) (take n fs) (run_keys true n es fs h) in
      let left : drop n es ≡ [] = short n es (omega (arith, same, few)) in
      let right : drop n fs ≡ [] = short n fs few in
      run_none true n es fs h ∙ (λ i. first_difference true (left i) (right i))

  -- after any other the next begins past its last key
  pub run_goes : (front : Cells) (c : List ℕ × List ℕ) → first_difference true (take n es) (take n fs) ≡ None → take n fs ≡ front ++ c ∷ []
      → first_difference true es fs ≡ first_difference true (span_of k (c.0 ++ 0 ∷ []) [] t) (span_of k (c.0 ++ 0 ∷ []) [] u)
  run_goes front c h is =
      let e : EndsWith (take n es) c.0 = ends_with (take n es) front c (run_keys true n es fs h ∙ ap (map (λ (e : List ℕ × List ℕ). e.0)) is) in
      let left : span_of k (c.0 ++ 0 ∷ []) [] t ≡ drop n es = ap (λ key. span_of k (key ++ 0 ∷ []) [] t) (sym e.key_is) ∙ next_span k n from t e.front e.last e.whole in
      let right : span_of k (c.0 ++ 0 ∷ []) [] u ≡ drop n fs = next_span k n from u front c is in
      run_none true n es fs h ∙ sym (λ i. first_difference true (left i) (right i))

dropped_less : (n : ℕ) (xs front : Cells) (c : List ℕ × List ℕ) → take n xs ≡ front ++ c ∷ [] → length (drop n xs) < length xs
dropped_less zero xs [] c h = cc
dropped_less zero xs (f ∷ front) c h = cc
dropped_less (suc n) [] [] c h = cc
dropped_less (suc n) [] (f ∷ front) c h = cc
dropped_less (suc n) (x ∷ xs) front c h = let r = at_most n xs in omega (arith, r)
  where
    at_most : (n : ℕ) (xs : Cells) → length (drop n xs) ≤ length xs
    at_most zero xs = omega arith
    at_most (suc n) [] = omega arith
    at_most (suc n) (x ∷ xs) = let r = at_most n xs in omega (arith, r)

-- and fewer cells are left
pub run_less : (k n : ℕ) (from : List ℕ) (u : Tables) (front : Cells) (c : List ℕ × List ℕ) → take n (span_of k from [] u) ≡ front ++ c ∷ []
    → length (span_of k (c.0 ++ 0 ∷ []) [] u) < length (span_of k from [] u)
run_less k n from u front c is = let e = ap length (next_span k n from u front c is) in let l = dropped_less n (span_of k from [] u) front c is in omega (arith, e, l)

-- ---- a run of cells

pairs_append : (xs ys : List Cell) → map cell_pair (xs ++ ys) ≡ map cell_pair xs ++ map cell_pair ys
pairs_append [] ys = refl
pairs_append (x ∷ xs) ys = ap (λ zs. cell_pair x ∷ zs) (pairs_append xs ys)

module _ (k : ℕ) (from : List ℕ) (u : Tables) (others : List Cell) (is : map cell_pair others ≡ take 1024 (span_of k from [] u)) where
  run_length : length others < 1024 → length (take 1024 (span_of k from [] u)) < 1024
  run_length few = let e = sym (length-map others cell_pair) ∙ ap length is in omega (arith, e, few)

  run_last : (front : List Cell) (c : Cell) → others ≡ front ++ c ∷ [] → take 1024 (span_of k from [] u) ≡ map cell_pair front ++ cell_pair c ∷ []
  run_last front c e = sym is ∙ ap (λ (xs : List Cell). map cell_pair xs) e ∙ pairs_append front (c ∷ [])

  -- what a run without a difference says
  pub run_says : (t : Tables) (o : Option (List ℕ)) → first_difference true (take 1024 (span_of k from [] t)) (take 1024 (span_of k from [] u)) ≡ None → IsNext others o → IsRun k from t u None o
  run_says t None h next = run_ends k 1024 from t u h (run_length next)
  run_says t (Some key) h next =
      run_goes k 1024 from t u (map cell_pair next.0) (cell_pair next.1.0) h (run_last next.0 next.1.0 next.1.1.0)
      ∙ ap (λ z. difference_from k z t u) (sym next.1.1.1)

  -- and that fewer cells are left
  pub run_fewer : (o : Option (List ℕ)) → IsNext others o → IfSome o (λ key. length (span_of k key [] u) < length (span_of k from [] u))
  run_fewer None next = tt
  run_fewer (Some key) next =
      subst (λ z. length (span_of k z [] u) < length (span_of k from [] u)) (sym next.1.1.1) (run_less k 1024 from u (map cell_pair next.0) (cell_pair next.1.0) (run_last next.0 next.1.0 next.1.1.0))

-- the last run says the difference from its key on
pub run_is : (k : ℕ) (from : List ℕ) (t u : Tables) (o : Option Difference) (next : Option (List ℕ)) → next ≡ None → IsRun k from t u o next → difference_from k from t u ≡ o
run_is k from t u o None e h = h
run_is k from t u o (Some key) e h = cc

-- the difference of a whole table is what comparing it says
pub whole_compared : (k : ℕ) (t u : Tables) (o : Option Difference) → difference_from k [] t u ≡ o → IsCompared true k t u o
whole_compared k t u o e = compared k true t u o (subst (Verdict true (span_of k [] [] t) (span_of k [] [] u)) e (walked true (span_of k [] [] t) (span_of k [] [] u) (span_sorted k t) (span_sorted k u)))
