-- On tables that are no more than four.
use Rattle.std.proofs.Common.{◌≡◌, ◌≤◌, ◌<◌, ℕ, suc, List, [], ◌∷◌, length, get_or, arith, Bool, true, false, cond, refl, ap, sym, ◌∙◌}
use Rattle.std.specs.Prelude.{All, Option, Some, None}
use Rattle.std.specs.Option.{is_some}
use Rattle.std.specs.List.{AllByRecursion}
use Rattle.std.specs.FinMap.{get, insert, empty, get-insert, get-empty}
use Rattle.dw_outside.specs.declared.slot.Slot.{Slot}
use Rattle.dw_outside.specs.declared.cell.Put.{Put}
use Rattle.dw_outside.specs.Tables.{Tables, HasFourTables, slot_cmp, is_slot, slot_of_put, applied}
use Rattle.dw_outside.proofs.CellMaps.{slots_total, same_slot}

put_fits : (m : Tables) (p : Put) → p.table ≤ 3 → HasFourTables m → HasFourTables (insert m (slot_of_put p) p.content)
put_fits m p low h s some = at (is_slot s (slot_of_put p)) refl (ap is_some (sym (get-insert slots_total m (slot_of_put p) p.content s)) ∙ some)
  where
    at : (b : Bool) → is_slot s (slot_of_put p) ≡ b → is_some (cond (is_slot s (slot_of_put p)) (Some p.content) (get m s)) ≡ true → s.table ≤ 3
    at true e k = let same : s ≡ slot_of_put p = same_slot s (slot_of_put p) e in let t : s.table ≡ p.table = ap (λ (x : Slot). x.table) same in omega (arith, t, low)
    at false e k = h s (ap (λ b. is_some (cond b (Some p.content) (get m s))) (sym e) ∙ k)

pub applied_all : (ps : List Put) (m : Tables) → HasFourTables m → AllByRecursion (λ (p : Put). p.table ≤ 3) ps → HasFourTables (applied ps m)
applied_all [] m h k = h
applied_all (p ∷ ps) m h k = applied_all ps (insert m (slot_of_put p) p.content) (put_fits m p k.0 h) k.1

pub by_index : {A : Type 0} (P : A → Type 0) (xs : List A) → ((k : ℕ) (d : A) → k < length xs → P (get_or xs k d)) → AllByRecursion P xs
by_index P [] h = tt
by_index P (x ∷ xs) h = (h 0 x (omega arith), by_index P xs (λ k d l. h (suc k) d (omega arith)))

pub applied_fits : (ps : List Put) (m : Tables) → HasFourTables m → All (λ p. p.table ≤ 3) ps → HasFourTables (applied ps m)
applied_fits ps m h all = applied_all ps m h (by_index (λ (p : Put). p.table ≤ 3) ps all)

pub empty_fits : HasFourTables empty
empty_fits s h = no (get empty s) (get-empty slot_cmp s) h
  where
    no : (o : Option (List ℕ)) → o ≡ None → is_some o ≡ true → s.table ≤ 3
    no None e k = cc
    no (Some x) e k = cc
