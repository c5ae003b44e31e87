-- On tables as maps: what entries say, and puts taken back.
use Rattle.std.proofs.Common.{ℕ, zero, suc, ◌≡◌, ◌≢◌, ◌≤◌, ◌++◌, length, take, arith, List, [], ◌∷◌, ap, refl, sym, ◌∙◌, cond, Bool, true, false}
use Rattle.std.specs.Prelude.{Option, Some, None, Result, Ok, Err, OnErr}
use Rattle.std.specs.Cmp.{IsTotalOrder, eq_by_cmp_equiv, nat_cmp_total}
use Rattle.std.specs.Cmp.Lexicographic.{slice_cmp, nat_list_cmp_total}
use Rattle.std.specs.declared.cmp.Ordering.{Ordering}
use Rattle.std.specs.declared.cmp.Ordering.TheVariants.{Less, Equal, Greater}
use Rattle.std.specs.Ordering.{eq_by_cmp, is_eq, nat_cmp}
use Rattle.std.specs.FinMap.{find, get, insert, remove, from_entries, get-from_entries, get-insert, get-remove, same_map, entries, entries-insert, put, empty, len-entries, len-empty}
use Rattle.std.specs.Map.{lookup, keys_of}
use Rattle.std.specs.List.{AllByRecursion}
use Rattle.std.specs.List.Sorted.{IsStrictlySortedBy}
use Rattle.std.specs.FinMap.Entries.{by_order}
use Rattle.std.proofs.lemmas.Map.Keys.{sorted_head, sorted_tail}
use Rattle.std.specs.BTreeMap.{is_at}
use Rattle.std.proofs.lemmas.Map.Lookups.{CmpEqualImpliesEq, exact_bytes, exact_unsigned, exact_pairs}
use Rattle.std.proofs.lemmas.Cmp.{on_total, then_total}
use mathlib.Core.Bool.{true≢false}
use Rattle.dw_outside.specs.declared.slot.Slot.{Slot}
use Rattle.dw_outside.specs.Tables.{Tables, slot_cmp, limited}
use Rattle.dw_outside.specs.Undo.{restored}
use Rattle.std.specs.Prelude.{◌⊎◌}
use Rattle.std.proofs.lemmas.List.{take_all, append-nil}
use Rattle.std.proofs.Math.Seq.{take-append_seam}

pub exact_slots : CmpEqualImpliesEq slot_cmp
exact_slots a b h = ap (λ (p : ℕ × List ℕ). record { table = p.0; key = p.1 }) (exact_pairs nat_cmp (slice_cmp nat_cmp) exact_unsigned exact_bytes (a.table, a.key) (b.table, b.key) h)

pub slots_total : IsTotalOrder slot_cmp
slots_total = then_total (on_total (λ p. p.table) nat_cmp_total) (on_total (λ p. p.key) nat_list_cmp_total)

-- what a map has at a slot, from its entries
abbrev pub cell_at : List (Slot × List ℕ) → Slot → Option (List ℕ)
cell_at es q = lookup (is_at (slot_cmp q)) es

find_cell : (es : List (Slot × List ℕ)) (q : Slot) → find slot_cmp q es ≡ cell_at es q
find_cell [] q = refl
find_cell (e ∷ es) q = ap (cond (is_at (slot_cmp q) e.0) (Some e.1)) (find_cell es q)

pub get_cell : (es : List (Slot × List ℕ)) (q : Slot) → get (from_entries {R = slot_cmp} es) q ≡ cell_at es q
get_cell es q = get-from_entries slots_total es q ∙ find_cell es q

-- entries that differ at one slot make maps that differ there
pub one_put : (es fs : List (Slot × List ℕ)) (k : Slot) (v : List ℕ) → ((q : Slot) → cell_at fs q ≡ cond (is_at (slot_cmp k) q) (Some v) (cell_at es q)) → from_entries {R = slot_cmp} fs ≡ insert (from_entries es) k v
one_put es fs k v h = same_map slots_total exact_slots _ _ (λ q.
    get_cell fs q ∙ h q ∙ ap (λ b. cond b (Some v) (cell_at es q)) ((eq_by_cmp_equiv slots_total).symm k q)
    ∙ sym (get-insert slots_total (from_entries es) k v q ∙ ap (cond (eq_by_cmp slot_cmp q k) (Some v)) (get_cell es q)))

pub one_removed : (es fs : List (Slot × List ℕ)) (k : Slot) → ((q : Slot) → cell_at fs q ≡ cond (is_at (slot_cmp k) q) None (cell_at es q)) → from_entries {R = slot_cmp} fs ≡ remove (from_entries es) k
one_removed es fs k h = same_map slots_total exact_slots _ _ (λ q.
    get_cell fs q ∙ h q ∙ ap (λ b. cond b None (cell_at es q)) ((eq_by_cmp_equiv slots_total).symm k q)
    ∙ sym (get-remove slots_total (from_entries es) k q ∙ ap (cond (eq_by_cmp slot_cmp q k) None) (get_cell es q)))

pub tied : (o : Ordering) → is_eq o ≡ true → o ≡ Equal
tied Less h = absurd (true≢false (sym h))
tied Equal h = refl
tied Greater h = absurd (true≢false (sym h))

pub same_slot : (q k : Slot) → eq_by_cmp slot_cmp q k ≡ true → q ≡ k
same_slot q k h = exact_slots q k (tied (slot_cmp q k) h)

-- where the two agree at one slot, what stands there may be written twice
back_at : (b : Bool) (before now : Option (List ℕ)) (v : Option (List ℕ)) → (b ≡ true → now ≡ before) → cond b before (cond b v now) ≡ now
back_at true before now v f = sym (f refl)
back_at false before now v f = refl

still_at : (b : Bool) (before now : Option (List ℕ)) → (b ≡ true → now ≡ before) → cond b before now ≡ now
still_at true before now f = sym (f refl)
still_at false before now f = refl

get_restored : (m : Tables) (k : Slot) (o : Option (List ℕ)) (q : Slot) → get (restored m k o) q ≡ cond (eq_by_cmp slot_cmp q k) o (get m q)
get_restored m k None q = get-remove slots_total m k q
get_restored m k (Some w) q = get-insert slots_total m k w q

-- to give back what a slot has changes nothing
pub restored_same : (m : Tables) (k : Slot) → restored m k (get m k) ≡ m
restored_same m k = same_map slots_total exact_slots _ _ (λ q.
    get_restored m k (get m k) q ∙ still_at (eq_by_cmp slot_cmp q k) (get m k) (get m q) (λ h. ap (get m) (same_slot q k h)))

-- and after a write there it undoes the write
pub restored_put : (m : Tables) (k : Slot) (v : List ℕ) → restored (insert m k v) k (get m k) ≡ m
restored_put m k v = same_map slots_total exact_slots _ _ (λ q.
    get_restored (insert m k v) k (get m k) q
    ∙ ap (cond (eq_by_cmp slot_cmp q k) (get m k)) (get-insert slots_total m k v q)
    ∙ back_at (eq_by_cmp slot_cmp q k) (get m k) (get m q) (Some v) (λ h. ap (get m) (same_slot q k h)))

-- entries in order are those of the map that they make
module _ where
  abbrev IsBelow : Slot → List (Slot × List ℕ) → Type 0
  IsBelow k es = AllByRecursion (λ y. slot_cmp k y ≡ Less) (keys_of es)

put_first : (k : Slot) (v : List ℕ) (es : List (Slot × List ℕ)) → IsBelow k es → put slot_cmp k v es ≡ (k, v) ∷ es
put_first k v [] h = refl
put_first k v (e ∷ es) h = ap (λ o. by_order o ((k, v) ∷ e ∷ es) ((e.0, v) ∷ es) (e ∷ put slot_cmp k v es)) h.0

nothing : {A : Type 0} (es : List A) → length es ≡ 0 → es ≡ []
nothing [] h = refl
nothing (e ∷ es) h = absurd (omega arith)

pub entries_are : (es : List (Slot × List ℕ)) → IsStrictlySortedBy slot_cmp (keys_of es) → entries (from_entries {R = slot_cmp} es) ≡ es
entries_are [] h = nothing (entries (empty {X = List ℕ} {R = slot_cmp})) (sym (len-entries (empty {X = List ℕ} {R = slot_cmp})) ∙ len-empty slot_cmp (List ℕ))
entries_are (e ∷ es) h =
    entries-insert slots_total (from_entries es) e.0 e.1 ∙ ap (put slot_cmp e.0 e.1) (entries_are es (sorted_tail slot_cmp e.0 (keys_of es) h))
    ∙ put_first e.0 e.1 es (sorted_head slot_cmp e.0 (keys_of es) h)

-- the first cells are those so far, where none is left
pub limited_all : {A : Type 0} (n : ℕ) (xs rest whole : List A) → xs ++ rest ≡ whole → (n ≡ 0) ⊎ (length xs ≤ n) → rest ≡ [] → xs ≡ limited n whole
limited_all zero xs rest whole e few none = sym (append-nil xs) ∙ (ap (λ ys. xs ++ ys) (sym none) ∙ e)
limited_all (suc n) xs rest whole e few none =
    let same : xs ≡ whole = sym (append-nil xs) ∙ (ap (λ ys. xs ++ ys) (sym none) ∙ e) in
    let le : length xs ≤ suc n = grind arith in
    sym (take_all (suc n) xs le) ∙ ap (take (suc n)) same

-- and where as many as wanted are there
pub limited_cut : {A : Type 0} (n : ℕ) (xs rest whole : List A) → xs ++ rest ≡ whole → (n ≡ 0) ⊎ (length xs ≤ n) → n ≢ 0 → n ≤ length xs → xs ≡ limited n whole
limited_cut zero xs rest whole e few some le = absurd (some refl)
limited_cut (suc n) xs rest whole e few some le =
    let long : length xs ≡ suc n = grind arith in
    sym (take-append_seam xs rest) ∙ (ap (λ k. take k (xs ++ rest)) long ∙ ap (take (suc n)) e)

-- what holds in any case holds after an error
pub on_err : {A E P : Type 0} (r : Result A E) → P → OnErr r P
on_err (Ok x) p = tt
on_err (Err e) p = p
