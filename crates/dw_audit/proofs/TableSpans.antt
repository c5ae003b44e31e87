-- On the cells of one table.
use Rattle.std.proofs.Common.{◌≡◌, ◌&&◌, ◌==◌, ℕ, Bool, true, false, cond, List, [], ◌∷◌, map, T, refl, sym, ap, subst, ◌∙◌, arith}
use Rattle.std.specs.Prelude.{Option, Some, None, filter}
use Rattle.std.specs.Cmp.{nat_cmp_total}
use Rattle.std.specs.Cmp.Lexicographic.{slice_cmp}
use Rattle.std.specs.Ordering.{nat_cmp, eq_by_cmp, is_eq, is_lt, is_le, ordering_then}
use Rattle.std.specs.FinMap.{find, is_sorted, get, entries, get-entries, entries_sorted}
use Rattle.std.specs.FinMap.Entries.{below_all}
use Rattle.std.specs.declared.cmp.Ordering.{Ordering}
use Rattle.std.specs.declared.cmp.Ordering.TheVariants.{Less, Equal, Greater}
use Rattle.std.proofs.lemmas.Bool.Decides.{nat_tests}
use Rattle.std.proofs.lemmas.Cmp.{tied_itself}
use Rattle.std.proofs.lemmas.Map.Lookups.{exact_unsigned}
use Rattle.dw_outside.specs.declared.slot.Slot.{Slot}
use Rattle.dw_outside.specs.Tables.{Tables, slot_cmp, is_in_span, span_of}
use Rattle.dw_outside.proofs.Batches.{first_part, second_part}
use Rattle.dw_audit.specs.declared.comparing.Difference.{Difference}
use Rattle.dw_audit.specs.Comparing.{wanted_beside, IsCompared}
use Rattle.dw_audit.proofs.Differing.{Verdict}

le_any : (xs : List ℕ) → is_le (slice_cmp nat_cmp [] xs) ≡ true
le_any [] = refl
le_any (x ∷ xs) = refl

pair_t : (a b : Bool) → T a → T b → T (a && b)
pair_t true b h k = k
pair_t false b h k = h

module _ (k : ℕ) where
  abbrev names : List ℕ → List ℕ → Ordering
  names = slice_cmp nat_cmp

  abbrev kept : Slot × List ℕ → Bool
  kept e = (e.0.table == k) && is_in_span [] [] e.0.key

  abbrev cell : Slot × List ℕ → List ℕ × List ℕ
  cell e = (e.0.key, e.1)

  abbrev slot : List ℕ → Slot
  slot key = record { table = k; key = key }

  is_kept : (e : Slot × List ℕ) → kept e ≡ (e.0.table == k)
  is_kept e = ap (λ b. (e.0.table == k) && b) (le_any e.0.key) ∙ at (e.0.table == k)
    where
      at : (b : Bool) → (b && true) ≡ b
      at true = refl
      at false = refl

  same_table : (e : Slot × List ℕ) → (e.0.table == k) ≡ true → k ≡ e.0.table
  same_table e h = grind (arith, nat_tests)

  -- within the table the keys decide
  by_key : (x y : Slot) → x.table ≡ y.table → slot_cmp x y ≡ names x.key y.key
  by_key x y t = ap (λ n. ordering_then (nat_cmp n y.table) (names x.key y.key)) t ∙ ap (λ o. ordering_then o (names x.key y.key)) (tied_itself nat_cmp_total y.table)

  other_table : (key : List ℕ) (e : Slot × List ℕ) → (e.0.table == k) ≡ false → eq_by_cmp slot_cmp (slot key) e.0 ≡ false
  other_table key e h = at (nat_cmp k e.0.table) refl
    where
      itself : (n : ℕ) → (n == n) ≡ true
      itself n = grind (arith, nat_tests)

      at : (o : Ordering) → nat_cmp k e.0.table ≡ o → is_eq (ordering_then o (names key e.0.key)) ≡ false
      at Less p = refl
      at Equal p = let same : k ≡ e.0.table = exact_unsigned k e.0.table p in cc (h, ap (λ n. e.0.table == n) same, itself e.0.table)
      at Greater p = refl

  find_kept : (key : List ℕ) (es : List (Slot × List ℕ)) → find names key (map cell (filter kept es)) ≡ find slot_cmp (slot key) es
  find_kept key [] = refl
  find_kept key (e ∷ es) =
      ap (λ b. find names key (map cell (cond b (e ∷ filter kept es) (filter kept es)))) (is_kept e)
      ∙ at (e.0.table == k) refl (find_kept key es)
    where
      at : (b : Bool) → (e.0.table == k) ≡ b → find names key (map cell (filter kept es)) ≡ find slot_cmp (slot key) es
          → find names key (map cell (cond b (e ∷ filter kept es) (filter kept es))) ≡ cond (eq_by_cmp slot_cmp (slot key) e.0) (Some e.1) (find slot_cmp (slot key) es)
      at true t r =
          ap (cond (eq_by_cmp names key e.0.key) (Some e.1)) r
          ∙ ap (λ o. cond (is_eq o) (Some e.1) (find slot_cmp (slot key) es)) (sym (by_key (slot key) e.0 (same_table e t)))
      at false t r = r ∙ sym (ap (λ b. cond b (Some e.1) (find slot_cmp (slot key) es)) (other_table key e t))

  below_kept : (x : Slot) → k ≡ x.table → (es : List (Slot × List ℕ)) → T (below_all slot_cmp x es) → T (below_all names x.key (map cell (filter kept es)))
  below_kept x t [] h = tt
  below_kept x t (e ∷ es) h =
      subst (λ b. T (below_all names x.key (map cell (cond b (e ∷ filter kept es) (filter kept es))))) (sym (is_kept e))
      (at (e.0.table == k) refl (below_kept x t es (second_part (is_lt (slot_cmp x e.0)) _ h)))
    where
      at : (b : Bool) → (e.0.table == k) ≡ b → T (below_all names x.key (map cell (filter kept es))) → T (below_all names x.key (map cell (cond b (e ∷ filter kept es) (filter kept es))))
      at true p r = pair_t (is_lt (names x.key e.0.key)) _ (subst (λ o. T (is_lt o)) (by_key x e.0 (sym t ∙ same_table e p)) (first_part _ _ h)) r
      at false p r = r

  sorted_kept : (es : List (Slot × List ℕ)) → T (is_sorted slot_cmp es) → T (is_sorted names (map cell (filter kept es)))
  sorted_kept [] h = tt
  sorted_kept (e ∷ es) h =
      subst (λ b. T (is_sorted names (map cell (cond b (e ∷ filter kept es) (filter kept es))))) (sym (is_kept e))
      (at (e.0.table == k) refl (sorted_kept es (second_part (below_all slot_cmp e.0 es) _ h)))
    where
      at : (b : Bool) → (e.0.table == k) ≡ b → T (is_sorted names (map cell (filter kept es))) → T (is_sorted names (map cell (cond b (e ∷ filter kept es) (filter kept es))))
      at true p r = pair_t (below_all names e.0.key (map cell (filter kept es))) _ (below_kept e.0 (same_table e p) es (first_part _ _ h)) r
      at false p r = r

  -- the cells of the table ascend
  pub span_sorted : (t : Tables) → T (is_sorted names (span_of k [] [] t))
  span_sorted t = sorted_kept (entries t) (entries_sorted t)

  -- and have what the tables have
  pub find_span : (key : List ℕ) (t : Tables) → find names key (span_of k [] [] t) ≡ get t (slot key)
  find_span key t = find_kept key (entries t) ∙ sym (get-entries t (slot key))

  pub compared : (lists : Bool) (t u : Tables) (v : Option Difference) → Verdict lists (span_of k [] [] t) (span_of k [] [] u) v → IsCompared lists k t u v
  compared lists t u None v = λ key. sym (find_span key t) ∙ v key ∙ (λ i. wanted_beside lists (find_span key t i) (find_span key u i))
  compared lists t u (Some d) v = record {
    found = sym (find_span d.key t) ∙ v.found;
    wanted = (λ i. wanted_beside lists (sym v.found i) (sym (find_span d.key u) i)) ∙ v.wanted;
    differ = v.differ;
    before = λ key b. sym (find_span key t) ∙ v.before key b ∙ (λ i. wanted_beside lists (find_span key t i) (find_span key u i));
  }
