-- On the tables of an event's entries.
use Rattle.std.proofs.Common.{◌≡◌, ◌≤◌, ◌<◌, ◌⊎◌, inl, inr, ℕ, zero, suc, List, [], ◌∷◌, length, get_or, arith, Bool, true, false, not, nat_le, map, refl, ◌∙◌, ◌||◌, ◌++◌}
use Rattle.std.specs.Prelude.{All}
use Rattle.std.specs.List.{AllByRecursion}
use Rattle.std.specs.BTreeSet.{insert_key}
use Rattle.std.specs.Ordering.{match_ordering}
use Rattle.std.specs.declared.cmp.Ordering.{Ordering}
use Rattle.std.specs.declared.cmp.Ordering.TheVariants.{Less, Equal, Greater}
use Rattle.dw_base.specs.Ascending.{set_of, with_items}
use Rattle.dw_dict.specs.Dictionary.{Dictionary}
use Rattle.dw_event.specs.Take.{Event}
use Rattle.dw_derive.specs.declared.event_cells.Entry.{Entry}
use Rattle.dw_derive.specs.Entries.{entries_of, entry_cmp}
use Rattle.std.specs.List.{list_any}
use Rattle.std.specs.FinMap.{entries, keys, contains_key-keys}
use Rattle.std.proofs.lemmas.Bool.Decides.{nat_tests}
use Rattle.dw_outside.specs.declared.slot.Slot.{Slot}
use Rattle.dw_outside.specs.declared.cell.Put.{Put}
use Rattle.dw_outside.specs.Tables.{Tables, HasFourTables, slot_cmp, is_slot, puts_from}
use Rattle.dw_outside.proofs.CellMaps.{exact_slots, slots_total}
use Rattle.dw_outside.proofs.FourTables.{by_index}
use Rattle.dw_derive.proofs.Maps.{member}
use Rattle.dw_derive.proofs.Given.{Shape, shapes}

module _ {A : Type 0} (R : A → A → Ordering) (P : A → Type 0) where
  all_with : (ys : List A) (x : A) → P x → AllByRecursion P ys → AllByRecursion P (insert_key R ys x)
  all_with [] x p h = (p, tt)
  all_with (y ∷ ys) x p h = at (R x y) (all_with ys x p h.1)
    where
      at : (o : Ordering) → AllByRecursion P (insert_key R ys x) → AllByRecursion P (match_ordering o (x ∷ y ∷ ys) (y ∷ ys) (y ∷ insert_key R ys x))
      at Less r = (p, h)
      at Equal r = h
      at Greater r = (h.0, r)

  pub all_items : (ys xs : List A) → AllByRecursion P ys → AllByRecursion P xs → AllByRecursion P (with_items R ys xs)
  all_items ys [] h k = h
  all_items ys (x ∷ xs) h k = all_items (insert_key R ys x) xs (all_with ys x k.0 h) k.1

fits : (e : Event) (n : Entry) → Shape e n → n.table ≤ 3
fits e n (inl z) = omega arith
fits e n (inr g) = by g.0
  where
    by : (n.table ≡ 1) ⊎ (n.table ≡ 2) → n.table ≤ 3
    by (inl o) = omega arith
    by (inr o) = omega arith

all_fit : (e : Event) (ns : List Entry) → AllByRecursion (Shape e) ns → AllByRecursion (λ (n : Entry). n.table ≤ 3) ns
all_fit e [] h = tt
all_fit e (n ∷ ns) h = (fits e n h.0, all_fit e ns h.1)

pub all_at : {A : Type 0} (P : A → Type 0) (xs : List A) → AllByRecursion P xs → (k : ℕ) (d : A) → k < length xs → P (get_or xs k d)
all_at P [] h k d l = absurd (omega arith)
all_at P (x ∷ xs) h zero d l = h.0
all_at P (x ∷ xs) h (suc k) d l = all_at P xs h.1 k d (omega arith)

-- the entries of an event stand in the tables up to 3
pub tables_fit : (dict : Dictionary) (e : Event) → All (λ n. n.table ≤ 3) (set_of entry_cmp (entries_of dict e))
tables_fit dict e = all_at (λ (n : Entry). n.table ≤ 3) (set_of entry_cmp (entries_of dict e)) (all_items entry_cmp (λ n. n.table ≤ 3) [] (entries_of dict e) tt (all_fit e (entries_of dict e) (shapes dict e)))

-- ---- batches

-- the puts of a batch name its slots
pub puts_fit : (m : Tables) → HasFourTables m → All (λ p. p.table ≤ 3) (puts_from m)
puts_fit m h = all_at (λ (p : Put). p.table ≤ 3) (puts_from m) (each (entries m) (none refl))
  where
    over_three : Slot → Bool
    over_three s = not (nat_le s.table 3)

    low : (n : ℕ) → not (nat_le n 3) ≡ false → n ≤ 3
    low n e = grind (arith, nat_tests)

    high : (n : ℕ) → not (nat_le n 3) ≡ true → n ≤ 3 → ⊥
    high n e l = grind (arith, nat_tests, l)

    none : {b : Bool} → list_any over_three (keys m) ≡ b → list_any over_three (keys m) ≡ false
    none {b = true} e = let found : (x : Slot) × (over_three x ≡ true) × (list_any (is_slot x) (keys m) ≡ true) = member slot_cmp exact_slots slots_total over_three (keys m) e in
        absurd (high found.0.table found.1 (h found.0 (contains_key-keys m found.0 ∙ found.2)))
    none {b = false} e = e

    each : (es : List (Slot × List ℕ)) → list_any over_three (map (λ e. e.0) es) ≡ false → AllByRecursion (λ (p : Put). p.table ≤ 3) (map (λ (e : Slot × List ℕ). record { table = e.0.table; key = e.0.key; content = e.1 }) es)
    each [] q = tt
    each (e ∷ es) q = (low e.0.table (first _ _ q), each es (second _ _ q))
      where
        first : (a b : Bool) → (a || b) ≡ false → a ≡ false
        first true b h = cc
        first false b h = refl

        second : (a b : Bool) → (a || b) ≡ false → b ≡ false
        second true b h = cc
        second false b h = h

pub fits_more : (ps : List Put) (p : Put) → All (λ p. p.table ≤ 3) ps → p.table ≤ 3 → All (λ p. p.table ≤ 3) (ps ++ p ∷ [])
fits_more ps p all low = all_at (λ (p : Put). p.table ≤ 3) (ps ++ p ∷ []) (both ps (by_index (λ (p : Put). p.table ≤ 3) ps all))
  where
    both : (qs : List Put) → AllByRecursion (λ (p : Put). p.table ≤ 3) qs → AllByRecursion (λ (p : Put). p.table ≤ 3) (qs ++ p ∷ [])
    both [] h = (low, tt)
    both (q ∷ qs) h = (h.0, both qs h.1)
