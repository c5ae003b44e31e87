-- On the first difference of two lists of cells.
use Rattle.std.proofs.Common.{◌≡◌, ℕ, Bool, true, false, cond, List, [], ◌∷◌, map, refl, sym, ap, ◌∙◌}
use Rattle.std.specs.Prelude.{◌≢◌, Option, Some, None, T}
use Rattle.std.specs.Cmp.Lexicographic.{slice_cmp, nat_list_cmp_total}
use Rattle.std.specs.Ordering.{nat_cmp, eq_by_cmp, is_eq, is_lt, match_ordering, ordering_reverse}
use Rattle.std.specs.Str.{bytes_eq}
use Rattle.std.specs.FinMap.{find, is_sorted}
use Rattle.std.specs.FinMap.Entries.{below_all}
use Rattle.std.specs.declared.cmp.Ordering.{Ordering}
use Rattle.std.specs.declared.cmp.Ordering.TheVariants.{Less, Equal, Greater}
use Rattle.std.proofs.lemmas.Cmp.{tied_itself}
use Rattle.std.proofs.lemmas.Map.Lookups.{exact_bytes}
use Rattle.std.proofs.lemmas.Slice.Eq.{bytes_eq-Decides}
use Rattle.dw_outside.proofs.CellMaps.{tied}
use Rattle.dw_outside.proofs.Batches.{first_part, second_part}
use Rattle.dw_outside.specs.declared.cell.Cell.{Cell}
use Rattle.dw_outside.specs.Tables.{cell_pair}
use Rattle.dw_audit.specs.declared.comparing.Difference.{Difference}
use Rattle.dw_audit.specs.Comparing.{Cells, formed, wanted_beside, only_found, only_wanted, changed_or, differ_or, first_difference}

-- ---- the first cells of two lists

changed_some : (follows : Option Difference) (e : List ℕ × List ℕ) (wanted : List ℕ) (d : Difference) → changed_or None e wanted ≡ Some d → changed_or follows e wanted ≡ Some d
changed_some follows e wanted d h = at (bytes_eq e.1 wanted) h
  where
    changed : Option Difference
    changed = Some (record { key = e.0; found = Some e.1; wanted = Some wanted })

    at : (b : Bool) → cond b None changed ≡ Some d → cond b follows changed ≡ Some d
    at true h = cc
    at false h = h

changed_none : (follows : Option Difference) (e : List ℕ × List ℕ) (wanted : List ℕ) → changed_or None e wanted ≡ None → changed_or follows e wanted ≡ follows
changed_none follows e wanted h = at (bytes_eq e.1 wanted) h
  where
    changed : Option Difference
    changed = Some (record { key = e.0; found = Some e.1; wanted = Some wanted })

    at : (b : Bool) → cond b None changed ≡ None → cond b follows changed ≡ follows
    at true h = refl
    at false h = cc

pub differ_some : (lists : Bool) (follows : Option Difference) (e f : List ℕ × List ℕ) (d : Difference) → differ_or lists None e f ≡ Some d → differ_or lists follows e f ≡ Some d
differ_some lists follows e f d h = at (slice_cmp nat_cmp e.0 f.0) h
  where
    at : (r : Ordering) → match_ordering r (only_found e) (changed_or None e (formed lists (Some e.1) f.1)) (only_wanted f) ≡ Some d
        → match_ordering r (only_found e) (changed_or follows e (formed lists (Some e.1) f.1)) (only_wanted f) ≡ Some d
    at Less h = h
    at Equal h = changed_some follows e (formed lists (Some e.1) f.1) d h
    at Greater h = h

pub differ_none : (lists : Bool) (follows : Option Difference) (e f : List ℕ × List ℕ) → differ_or lists None e f ≡ None → differ_or lists follows e f ≡ follows
differ_none lists follows e f h = at (slice_cmp nat_cmp e.0 f.0) h
  where
    at : (r : Ordering) → match_ordering r (only_found e) (changed_or None e (formed lists (Some e.1) f.1)) (only_wanted f) ≡ None
        → match_ordering r (only_found e) (changed_or follows e (formed lists (Some e.1) f.1)) (only_wanted f) ≡ follows
    at Less h = cc
    at Equal h = changed_none follows e (formed lists (Some e.1) f.1) h
    at Greater h = cc

-- where the first cells differ, that is the difference
pub heads_differ : (lists : Bool) (found wanted es fs : List Cell) (e f : Cell) (d : Difference) → found ≡ e ∷ es → wanted ≡ f ∷ fs
    → differ_or lists None (cell_pair e) (cell_pair f) ≡ Some d → first_difference lists (map cell_pair found) (map cell_pair wanted) ≡ Some d
heads_differ lists found wanted es fs e f d is other h =
    (λ i. first_difference lists (map cell_pair (is i)) (map cell_pair (other i)))
    ∙ differ_some lists (first_difference lists (map cell_pair es) (map cell_pair fs)) (cell_pair e) (cell_pair f) d h

-- ---- what the walk finds

abbrev names : List ℕ → List ℕ → Ordering
names = slice_cmp nat_cmp

less : (o : Ordering) → T (is_lt o) → o ≡ Less
less Less h = refl
less Equal h = absurd h
less Greater h = absurd h

module _ (lists : Bool) where
  -- what is wanted at a key, by both lists
  abbrev pub shaped : Cells → Cells → List ℕ → Option (List ℕ)
  shaped es fs q = wanted_beside lists (find names q es) (find names q fs)

  -- the first key at which the lists differ
  pub record First (es fs : Cells) (d : Difference) : Type 0 where
    pub found : find names d.key es ≡ d.found
    pub wanted : shaped es fs d.key ≡ d.wanted
    pub differ : d.found ≢ d.wanted
    pub before : (q : List ℕ) → names q d.key ≡ Less → find names q es ≡ shaped es fs q

  abbrev pub Verdict : Cells → Cells → Option Difference → Type 0
  Verdict es fs None = (q : List ℕ) → find names q es ≡ shaped es fs q
  Verdict es fs (Some d) = First es fs d

  nothing : (q : List ℕ) → (o p : Option (List ℕ)) → o ≡ None → p ≡ None → o ≡ wanted_beside lists o p
  nothing q o p h k = h ∙ sym (ap (wanted_beside lists o) k)

  -- nothing is found below the first
  below : (q x : List ℕ) (es : Cells) → names q x ≡ Less → T (below_all names x es) → find names q es ≡ None
  below q x [] l h = refl
  below q x (e ∷ es) l h =
      ap (λ r. cond (is_eq r) (Some e.1) (find names q es)) (nat_list_cmp_total.trans q x e.0 l (less _ (first_part _ _ h)))
      ∙ below q x es l (second_part (is_lt (names x e.0)) _ h)

  under : (q : List ℕ) (e : List ℕ × List ℕ) (es : Cells) → names q e.0 ≡ Less → T (is_sorted names (e ∷ es)) → find names q (e ∷ es) ≡ None
  under q e es l h = ap (λ r. cond (is_eq r) (Some e.1) (find names q es)) l ∙ below q e.0 es l (first_part _ _ h)

  level : (q x : List ℕ) (es : Cells) → q ≡ x → T (below_all names x es) → find names q es ≡ None
  level q x [] s h = refl
  level q x (e ∷ es) s h =
      ap (λ z. cond (eq_by_cmp names z e.0) (Some e.1) (find names q es)) s
      ∙ ap (λ r. cond (is_eq r) (Some e.1) (find names q es)) (less _ (first_part _ _ h))
      ∙ level q x es s (second_part (is_lt (names x e.0)) _ h)

  here : (e : List ℕ × List ℕ) (es : Cells) → find names e.0 (e ∷ es) ≡ Some e.1
  here e es = ap (λ r. cond (is_eq r) (Some e.1) (find names e.0 es)) (tied_itself nat_list_cmp_total e.0)

  flipped : (x y : List ℕ) → names x y ≡ Greater → names y x ≡ Less
  flipped x y e = nat_list_cmp_total.antisymm y x ∙ ap ordering_reverse e

  -- where a list lacks the key, a wanted content stands as it is
  unformed : (o : Option (List ℕ)) (wanted : List ℕ) → o ≡ None → wanted_beside lists o (Some wanted) ≡ Some wanted
  unformed o wanted h = ap (λ x. wanted_beside lists x (Some wanted)) h ∙ at lists
    where
      at : (b : Bool) → wanted_beside b None (Some wanted) ≡ Some wanted
      at true = refl
      at false = refl

  found_only : (e f : List ℕ × List ℕ) (es fs : Cells) → T (is_sorted names (e ∷ es)) → T (is_sorted names (f ∷ fs)) → names e.0 f.0 ≡ Less → First (e ∷ es) (f ∷ fs) (record { key = e.0; found = Some e.1; wanted = None })
  found_only e f es fs s t l = record {
    found = here e es;
    wanted = ap (wanted_beside lists (find names e.0 (e ∷ es))) (under e.0 f fs l t);
    differ = λ p. cc;
    before = λ q b. nothing q _ _ (under q e es b s) (under q f fs (nat_list_cmp_total.trans q e.0 f.0 b l) t);
  }

  wanted_only : (e f : List ℕ × List ℕ) (es fs : Cells) → T (is_sorted names (e ∷ es)) → T (is_sorted names (f ∷ fs)) → names f.0 e.0 ≡ Less → First (e ∷ es) (f ∷ fs) (record { key = f.0; found = None; wanted = Some f.1 })
  wanted_only e f es fs s t l = record {
    found = under f.0 e es l s;
    wanted = ap (wanted_beside lists (find names f.0 (e ∷ es))) (here f fs) ∙ unformed _ f.1 (under f.0 e es l s);
    differ = λ p. cc;
    before = λ q b. nothing q _ _ (under q e es (nat_list_cmp_total.trans q f.0 e.0 b l) s) (under q f fs b t);
  }

  beside : (e f : List ℕ × List ℕ) (es fs : Cells) → e.0 ≡ f.0 → shaped (e ∷ es) (f ∷ fs) e.0 ≡ Some (formed lists (Some e.1) f.1)
  beside e f es fs k = let there : find names e.0 (f ∷ fs) ≡ Some f.1 = ap (λ z. find names z (f ∷ fs)) k ∙ here f fs in
      λ i. wanted_beside lists (here e es i) (there i)

  both_have : (e f : List ℕ × List ℕ) (es fs : Cells) → T (is_sorted names (e ∷ es)) → T (is_sorted names (f ∷ fs)) → e.0 ≡ f.0 → bytes_eq e.1 (formed lists (Some e.1) f.1) ≡ false
      → First (e ∷ es) (f ∷ fs) (record { key = e.0; found = Some e.1; wanted = Some (formed lists (Some e.1) f.1) })
  both_have e f es fs s t k x = record {
    found = here e es;
    wanted = beside e f es fs k;
    differ = λ p. apart p;
    before = λ q b. nothing q _ _ (under q e es b s) (under q f fs (ap (names q) (sym k) ∙ b) t);
  }
    where
      apart : Some e.1 ≡ Some (formed lists (Some e.1) f.1) → ⊥
      apart p = let q : e.1 ≡ formed lists (Some e.1) f.1 = cc in cc (x, (bytes_eq-Decides e.1 (formed lists (Some e.1) f.1)).1 q)

  past : (q : List ℕ) (g : List ℕ × List ℕ) (gs : Cells) → eq_by_cmp names q g.0 ≡ false → find names q (g ∷ gs) ≡ find names q gs
  past q g gs h = ap (λ b. cond b (Some g.1) (find names q gs)) h

  -- first cells that are alike change nothing at other keys
  alike_at : (e f : List ℕ × List ℕ) (es fs : Cells) → e.0 ≡ f.0 → e.1 ≡ formed lists (Some e.1) f.1 → (q : List ℕ) (b : Bool) → eq_by_cmp names q e.0 ≡ b
      → find names q es ≡ shaped es fs q → find names q (e ∷ es) ≡ shaped (e ∷ es) (f ∷ fs) q
  alike_at e f es fs k x q true p r =
      let same : q ≡ e.0 = exact_bytes q e.0 (tied (names q e.0) p) in
      ap (λ z. find names z (e ∷ es)) same ∙ here e es ∙ ap (λ y. Some y) x ∙ sym (ap (shaped (e ∷ es) (f ∷ fs)) same ∙ beside e f es fs k)
  alike_at e f es fs k x q false p r =
      let there : find names q (f ∷ fs) ≡ find names q fs = past q f fs (ap (eq_by_cmp names q) (sym k) ∙ p) in
      past q e es p ∙ r ∙ sym (λ i. wanted_beside lists (past q e es p i) (there i))

  later : (e f : List ℕ × List ℕ) (es fs : Cells) → T (is_sorted names (e ∷ es)) → T (is_sorted names (f ∷ fs)) → e.0 ≡ f.0 → e.1 ≡ formed lists (Some e.1) f.1
      → (v : Option Difference) → Verdict es fs v → Verdict (e ∷ es) (f ∷ fs) v
  later e f es fs s t k x None v = λ q. alike_at e f es fs k x q (eq_by_cmp names q e.0) refl (v q)
  later e f es fs s t k x (Some d) v = record {
    found = past d.key e es other ∙ v.found;
    wanted = (λ i. wanted_beside lists (past d.key e es other i) (past d.key f fs (ap (eq_by_cmp names d.key) (sym k) ∙ other) i)) ∙ v.wanted;
    differ = v.differ;
    before = λ q b. alike_at e f es fs k x q (eq_by_cmp names q e.0) refl (v.before q b);
  }
    where
      by : (b : Bool) → eq_by_cmp names d.key e.0 ≡ b → b ≡ false
      by true p =
          let z : d.key ≡ e.0 = exact_bytes d.key e.0 (tied (names d.key e.0) p) in
          absurd (v.differ (sym v.found ∙ nothing d.key _ _ (level d.key e.0 es z (first_part _ _ s)) (level d.key f.0 fs (z ∙ k) (first_part _ _ t)) ∙ v.wanted))
      by false p = refl

      other : eq_by_cmp names d.key e.0 ≡ false
      other = ap (λ b. b) refl ∙ by (eq_by_cmp names d.key e.0) refl

  pub walked : (es fs : Cells) → T (is_sorted names es) → T (is_sorted names fs) → Verdict es fs (first_difference lists es fs)
  walked [] [] s t = λ q. refl
  walked [] (f ∷ fs) s t = record {
    found = refl;
    wanted = ap (wanted_beside lists None) (here f fs) ∙ unformed None f.1 refl;
    differ = λ p. cc;
    before = λ q b. nothing q _ _ refl (under q f fs b t);
  }
  walked (e ∷ es) [] s t = record { found = here e es; wanted = refl; differ = λ p. cc; before = λ q b. nothing q _ _ (under q e es b s) refl }
  walked (e ∷ es) (f ∷ fs) s t = at (names e.0 f.0) refl (walked es fs (second_part (below_all names e.0 es) _ s) (second_part (below_all names f.0 fs) _ t))
    where
      with_content : (b : Bool) → bytes_eq e.1 (formed lists (Some e.1) f.1) ≡ b → e.0 ≡ f.0 → Verdict es fs (first_difference lists es fs)
          → Verdict (e ∷ es) (f ∷ fs) (cond b (first_difference lists es fs) (Some (record { key = e.0; found = Some e.1; wanted = Some (formed lists (Some e.1) f.1) })))
      with_content true h k v = later e f es fs s t k ((bytes_eq-Decides e.1 (formed lists (Some e.1) f.1)).0 h) (first_difference lists es fs) v
      with_content false h k v = both_have e f es fs s t k h

      at : (r : Ordering) → names e.0 f.0 ≡ r → Verdict es fs (first_difference lists es fs)
          → Verdict (e ∷ es) (f ∷ fs) (match_ordering r (only_found e) (changed_or (first_difference lists es fs) e (formed lists (Some e.1) f.1)) (only_wanted f))
      at Less p v = found_only e f es fs s t p
      at Equal p v = with_content (bytes_eq e.1 (formed lists (Some e.1) f.1)) refl (exact_bytes e.0 f.0 p) v
      at Greater p v = wanted_only e f es fs s t (flipped e.0 f.0 p)
