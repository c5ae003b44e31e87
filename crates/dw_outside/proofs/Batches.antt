-- On a batch of puts over tables.
use Rattle.std.proofs.Common.{ℕ, ◌≡◌, ◌&&◌, Bool, true, false, cond, List, [], ◌∷◌, map, ap, refl, sym, ◌∙◌}
use Rattle.std.specs.Prelude.{Option, Some, None, T}
use Rattle.std.specs.Option.{option_or}
use Rattle.std.specs.Ordering.{is_lt, is_eq}
use Rattle.std.specs.declared.cmp.Ordering.{Ordering}
use Rattle.std.specs.declared.cmp.Ordering.TheVariants.{Less, Equal, Greater}
use Rattle.std.specs.FinMap.{find, get, empty, insert, get-insert, get-entries, get-empty, entries, entries_sorted, is_sorted, same_map}
use Rattle.std.specs.FinMap.Entries.{below_all}
use Rattle.dw_outside.specs.declared.slot.Slot.{Slot}
use Rattle.dw_outside.specs.declared.cell.Put.{Put}
use Rattle.dw_outside.specs.Tables.{Tables, slot_cmp, slot_of_put, is_slot, applied, over, puts_from}
use Rattle.dw_outside.specs.TableLaws.{BatchesAreTables}
use Rattle.dw_outside.proofs.CellMaps.{exact_slots, slots_total, same_slot}

-- what the last of some puts sets in a slot
abbrev last_put : List Put → Slot → Option (List ℕ)
last_put [] q = None
last_put (p ∷ ps) q = option_or (last_put ps q) (cond (is_slot q (slot_of_put p)) (Some p.content) None)

or_assoc : {A : Type 0} (a b c : Option A) → option_or (option_or a b) c ≡ option_or a (option_or b c)
or_assoc None b c = refl
or_assoc (Some x) b c = refl

or_cond : {A : Type 0} (b : Bool) (x : A) (o : Option A) → cond b (Some x) o ≡ option_or (cond b (Some x) None) o
or_cond true x o = refl
or_cond false x o = refl

get_puts : (ps : List Put) (m : Tables) (q : Slot) → get (applied ps m) q ≡ option_or (last_put ps q) (get m q)
get_puts [] m q = refl
get_puts (p ∷ ps) m q =
    get_puts ps (insert m (slot_of_put p) p.content) q
    ∙ ap (option_or (last_put ps q)) (get-insert slots_total m (slot_of_put p) p.content q ∙ or_cond (is_slot q (slot_of_put p)) p.content (get m q))
    ∙ sym (or_assoc (last_put ps q) (cond (is_slot q (slot_of_put p)) (Some p.content) None) (get m q))

pub first_part : (a b : Bool) → T (a && b) → T a
first_part true b h = tt
first_part false b h = h

pub second_part : (a b : Bool) → T (a && b) → T b
second_part true b h = h
second_part false b h = absurd h

not_tied : (o : Ordering) → T (is_lt o) → is_eq o ≡ false
not_tied Less h = refl
not_tied Equal h = absurd h
not_tied Greater h = absurd h

pub above_none : (es : List (Slot × (List ℕ))) (q x : Slot) → q ≡ x → T (below_all slot_cmp x es) → find slot_cmp q es ≡ None
above_none [] q x s h = refl
above_none (e ∷ es) q x s h =
    ap (λ y. cond (is_slot y e.0) (Some e.1) (find slot_cmp q es)) s
    ∙ ap (λ b. cond b (Some e.1) (find slot_cmp q es)) (not_tied (slot_cmp x e.0) (first_part _ _ h))
    ∙ above_none es q x s (second_part (is_lt (slot_cmp x e.0)) _ h)

last_entry : (es : List (Slot × (List ℕ))) (q : Slot) → T (is_sorted slot_cmp es) → last_put (map (λ (e : Slot × (List ℕ)). record { table = e.0.table; key = e.0.key; content = e.1 }) es) q ≡ find slot_cmp q es
last_entry [] q h = refl
last_entry (e ∷ es) q h =
    ap (λ o. option_or o (cond (is_slot q e.0) (Some e.1) None)) (last_entry es q (second_part (below_all slot_cmp e.0 es) _ h))
    ∙ at (is_slot q e.0) refl (λ s. above_none es q e.0 (same_slot q e.0 s) (first_part _ _ h))
  where
    or_none : (o : Option (List ℕ)) → option_or o None ≡ o
    or_none None = refl
    or_none (Some x) = refl

    at : (b : Bool) → is_slot q e.0 ≡ b → (is_slot q e.0 ≡ true → find slot_cmp q es ≡ None) → option_or (find slot_cmp q es) (cond b (Some e.1) None) ≡ cond b (Some e.1) (find slot_cmp q es)
    at true s f = ap (λ o. option_or o (Some e.1)) (f s)
    at false s f = or_none (find slot_cmp q es)

pub get_over : (p m : Tables) (q : Slot) → get (over p m) q ≡ option_or (get p q) (get m q)
unfolding over
get_over p m q = get_puts (puts_from p) m q ∙ ap (λ o. option_or o (get m q)) (last_entry (entries p) q (entries_sorted p) ∙ sym (get-entries p q))

pub batches : BatchesAreTables
batches = record {
  none = λ m. same_map slots_total exact_slots _ _ (λ q. get_over empty m q ∙ ap (λ o. option_or o (get m q)) (get-empty slot_cmp q));
  more = λ puts p m. same_map slots_total exact_slots _ _ (λ q.
      get_over (applied puts p) m q
      ∙ ap (λ o. option_or o (get m q)) (get_puts puts p q)
      ∙ or_assoc (last_put puts q) (get p q) (get m q)
      ∙ ap (option_or (last_put puts q)) (sym (get_over p m q))
      ∙ sym (get_puts puts (over p m) q));
  get = get_over;
}

pub over_is : (p m : Tables) → applied (puts_from p) m ≡ over p m
unfolding over
over_is p m = refl
