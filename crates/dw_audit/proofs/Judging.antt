-- On the verdict of an audit.
use Rattle.std.proofs.Common.{◌≡◌, ◌⊎◌, inl, inr, ◌≤◌, ◌<◌, ℕ, zero, suc, Bool, true, false, List, refl, sym, ap, subst, ◌∙◌, arith}
use Rattle.std.specs.Prelude.{Option, Some, None}
use Rattle.std.specs.Cmp.{nat_cmp_is}
use Rattle.std.specs.Cmp.Lexicographic.{slice_cmp}
use Rattle.std.specs.Ordering.{nat_cmp, ordering_then}
use Rattle.std.specs.FinMap.{get}
use Rattle.std.specs.declared.cmp.Ordering.TheVariants.{Less, Equal, Greater}
use Rattle.std.proofs.lemmas.Bool.{cases_lt}
use Rattle.dw_key.specs.KeyLaws.{CodesTellKeys}
use Rattle.dw_outside.specs.declared.slot.Slot.{Slot}
use Rattle.dw_outside.specs.Tables.{Tables, HasFourTables, slot_cmp}
use Rattle.dw_audit.specs.declared.comparing.Difference.{Difference}
use Rattle.dw_audit.specs.declared.verdict.Verdict.{Verdict}
use Rattle.dw_audit.specs.declared.verdict.Verdict.TheVariants.{Sound, Damaged}
use Rattle.dw_audit.specs.Sound.{wanted_tables, AreSound}
use Rattle.dw_audit.specs.Comparing.{wanted_beside, IsAlike, IsCompared}
use Rattle.dw_audit.specs.Making.{newer_tables}
use Rattle.dw_audit.specs.Found.{IsVerdict, IsAsWanted, IsReady, damaged_at}
use Rattle.dw_audit.proofs.OlderForms.{plain_table, meta_table, list_table}
use Rattle.dw_audit.proofs.WholeAgain.{whole_alike}

-- the tables 1 and 2 have lists
abbrev has_lists : ℕ → Bool
has_lists zero = false
has_lists (suc zero) = true
has_lists (suc (suc zero)) = true
has_lists (suc (suc (suc n))) = false

module _ (tell : CodesTellKeys) (t : Tables) where
  abbrev slot : ℕ → List ℕ → Slot
  slot table key = record { table = table; key = key }

  -- what is wanted in a slot
  wanted_at : (table : ℕ) (key : List ℕ) → table ≤ 3 → get (wanted_tables t) (slot table key) ≡ wanted_beside (has_lists table) (get t (slot table key)) (get (newer_tables t) (slot table key))
  wanted_at zero key l = plain_table tell t (slot 0 key) refl
  wanted_at (suc zero) key l = list_table tell t (slot 1 key) refl (λ e. omega (arith, e))
  wanted_at (suc (suc zero)) key l = list_table tell t (slot 2 key) refl (λ e. omega (arith, e))
  wanted_at (suc (suc (suc zero))) key l = meta_table tell t (slot 3 key) refl
  wanted_at (suc (suc (suc (suc n)))) key l = absurd (omega arith)

  -- a table that is as it is wanted
  abbrev pub IsSame : ℕ → Type 0
  IsSame table = (key : List ℕ) → get t (slot table key) ≡ get (wanted_tables t) (slot table key)

  same : (table : ℕ) → table ≤ 3 → (key : List ℕ) → IsAlike (has_lists table) t (newer_tables t) (slot table key) → get t (slot table key) ≡ get (wanted_tables t) (slot table key)
  same table l key h = h ∙ sym (wanted_at table key l)

  pub all_same : (table : ℕ) → table ≤ 3 → IsCompared (has_lists table) table t (newer_tables t) None → IsSame table
  all_same table l h = λ key. same table l key (h key)

  -- the first difference of a table, where those before it are as they are wanted
  pub first_difference : (table : ℕ) (d : Difference) → table ≤ 3 → ((n : ℕ) → n < table → IsSame n) → IsCompared (has_lists table) table t (newer_tables t) (Some d) → IsVerdict t (damaged_at table d)
  first_difference table d l earlier c = record {
    table = l;
    found = c.found;
    wanted = wanted_at table d.key l ∙ ap (λ o. wanted_beside (has_lists table) o (get (newer_tables t) (slot table d.key))) c.found ∙ c.wanted;
    differ = c.differ;
    before = λ below b. at below.table below.key b (cases_lt below.table table);
  }
    where
      above : (n : ℕ) (key : List ℕ) → table < n → slot_cmp (slot n key) (slot table d.key) ≡ Less → ⊥
      above n key m b = let g : Greater ≡ nat_cmp n table = nat_cmp_is n table Greater m in cc (b, ap (λ o. ordering_then o (slice_cmp nat_cmp key d.key)) g)

      level : (n : ℕ) (key : List ℕ) → n ≡ table → slot_cmp (slot n key) (slot table d.key) ≡ Less → get t (slot n key) ≡ get (wanted_tables t) (slot n key)
      level n key e b =
          let q : Equal ≡ nat_cmp n table = nat_cmp_is n table Equal e in
          let keys : slice_cmp nat_cmp key d.key ≡ Less = ap (λ o. ordering_then o (slice_cmp nat_cmp key d.key)) q ∙ b in
          subst (λ k. get t (slot k key) ≡ get (wanted_tables t) (slot k key)) (sym e) (same table l key (c.before key keys))

      at : (n : ℕ) (key : List ℕ) → slot_cmp (slot n key) (slot table d.key) ≡ Less → (n < table) ⊎ (table ≤ n) → get t (slot n key) ≡ get (wanted_tables t) (slot n key)
      at n key b (inl low) = earlier n low key
      at n key b (inr high) = by (cases_lt table n)
        where
          by : (table < n) ⊎ (n ≤ table) → get t (slot n key) ≡ get (wanted_tables t) (slot n key)
          by (inl more) = absurd (above n key more b)
          by (inr less) = level n key (omega arith) b

-- ---- one table after another

below_one : (t : Tables) → IsAsWanted t 0 → (n : ℕ) → n < 1 → IsAsWanted t n
below_one t h zero l = h
below_one t h (suc n) l = absurd (omega arith)

below_more : (t : Tables) (table : ℕ) → ((n : ℕ) → n < table → IsAsWanted t n) → IsAsWanted t table → (n : ℕ) → n < suc table → IsAsWanted t n
below_more t table h at n l = by (cases_lt n table)
  where
    by : (n < table) ⊎ (table ≤ n) → IsAsWanted t n
    by (inl low) = h n low
    by (inr high) = let same : table ≡ n = omega arith in subst (IsAsWanted t) same at

-- what the comparison of one table says, beside the tables that are wanted
newer_compared : (lists : Bool) (table : ℕ) (t u : Tables) (o : Option Difference) → u ≡ newer_tables t → IsCompared lists table t u o → IsCompared lists table t (newer_tables t) o
newer_compared lists table t u o e h = subst (λ x. IsCompared lists table t x o) e h

-- before the first of them nothing is below
pub first_found : CodesTellKeys → (t u : Tables) (o : Option Difference) (d : Difference) → u ≡ newer_tables t → o ≡ Some d → IsCompared false 0 t u o → IsVerdict t (damaged_at 0 d)
first_found tell t u o d e is h = first_difference tell t 0 d (omega arith) (λ n l. absurd (omega arith)) (subst (IsCompared false 0 t (newer_tables t)) is (newer_compared false 0 t u o e h))

pub first_ready : CodesTellKeys → (t u : Tables) (o : Option Difference) → HasFourTables t → u ≡ newer_tables t → o ≡ None → IsCompared false 0 t u o → IsReady t u 1
first_ready tell t u o four e is h = record {
  four = four;
  newer = e;
  below = below_one t (all_same tell t 0 (omega arith) (subst (IsCompared false 0 t (newer_tables t)) is (newer_compared false 0 t u o e h)));
}

-- the next table differs first
pub next_found : CodesTellKeys → (t u : Tables) (table : ℕ) (o : Option Difference) (d : Difference) → table ≤ 3 → IsReady t u table → o ≡ Some d
    → IsCompared (has_lists table) table t u o → IsVerdict t (damaged_at table d)
next_found tell t u table o d l ready is h = first_difference tell t table d l ready.below (subst (IsCompared (has_lists table) table t (newer_tables t)) is (newer_compared (has_lists table) table t u o ready.newer h))

-- or is as it is wanted
pub next_ready : CodesTellKeys → (t u : Tables) (table : ℕ) (o : Option Difference) → table ≤ 3 → IsReady t u table → o ≡ None
    → IsCompared (has_lists table) table t u o → IsReady t u (suc table)
next_ready tell t u table o l ready is h = record {
  four = ready.four;
  newer = ready.newer;
  below = below_more t table ready.below (all_same tell t table l (subst (IsCompared (has_lists table) table t (newer_tables t)) is (newer_compared (has_lists table) table t u o ready.newer h)));
}

-- where all four are, the tables are sound
pub all_ready : (t u : Tables) → IsReady t u 4 → AreSound t
all_ready t u ready = whole_alike t ready.four (λ s l. ready.below s.table (omega arith) s.key)

-- the same of a table of lists
pub lists_compared : (t u : Tables) (table : ℕ) (o : Option Difference) → 1 ≤ table → table ≤ 2 → IsCompared true table t u o → IsCompared (has_lists table) table t u o
lists_compared t u zero o above below h = absurd (omega (arith, above))
lists_compared t u (suc zero) o above below h = h
lists_compared t u (suc (suc zero)) o above below h = h
lists_compared t u (suc (suc (suc n))) o above below h = absurd (omega (arith, below))

-- ---- a verdict that is true tells whether tables are sound

pub is_sound : (t : Tables) (v : Verdict) → IsVerdict t v → AreSound t → v ≡ Sound
is_sound t Sound h s = refl
is_sound t (Damaged table key found wanted) h s = absurd (h.differ (sym h.found ∙ ap (λ m. get m (record { table = table; key = key })) (sym s) ∙ h.wanted))

pub sound_is : (t : Tables) (v : Verdict) → IsVerdict t v → v ≡ Sound → AreSound t
sound_is t v h e = subst (IsVerdict t) e h
