-- The cells of a span of the tables.
use Rattle.std.proofs.Common.{ℕ, zero, suc, ◌≡◌, ◌≢◌, ◌<◌, ◌+◌, take, map, arith, List, [], ◌∷◌, ap, refl, sym, subst, ◌∙◌, cond, Bool, true, false, not, ◌&&◌, T}
use Rattle.std.specs.Prelude.{◌==◌, filter, All, IsTrue}
use Rattle.std.specs.declared.cmp.Ordering.{Ordering}
use Rattle.std.specs.declared.cmp.Ordering.TheVariants.{Less, Equal, Greater}
use Rattle.std.specs.declared.ops.Bound.TheVariants.{Included, Excluded}
use Rattle.std.specs.Ordering.{nat_cmp, is_le, is_lt, is_gt, ordering_then, ordering_reverse, MatchOrdering}
use Rattle.std.specs.Cmp.{alike_right, tied_itself, nat_cmp_total}
use Rattle.std.specs.Cmp.Lexicographic.{slice_cmp, nat_list_cmp_total}
use Rattle.std.specs.List.{AllByRecursion}
use Rattle.std.specs.List.Sorted.{IsStrictlySortedBy}
use Rattle.std.specs.FinMap.{entries, entries_sorted, is_sorted}
use Rattle.std.specs.FinMap.Entries.{below_all}
use Rattle.std.specs.BTreeMap.Range.{range_contains}
use Rattle.std.proofs.lemmas.Cmp.{ranked}
use Rattle.std.proofs.lemmas.Bool.{and_parts, eqb-true, eq-eqb}
use Rattle.std.proofs.lemmas.List.Elements.{All-from_recursion}
use Rattle.dw_outside.specs.declared.slot.Slot.{Slot}
use Rattle.dw_outside.specs.declared.cell.Cell.{Cell}
use Rattle.dw_outside.specs.Tables.{Tables, slot_cmp, is_in_span, limited, span_of, cell_pair}
use Rattle.dw_outside.specs.Spans.{span_end, cells_between}
use Rattle.dw_outside.proofs.CellMaps.{slots_total}

abbrev pub bytes_cmp : List ℕ → List ℕ → Ordering
bytes_cmp = slice_cmp nat_cmp

abbrev Entry : Type 0
Entry = Slot × List ℕ

abbrev pair_of : Entry → List ℕ × List ℕ
pair_of e = (e.0.key, e.1)

filter_none : {A : Type 0} (p : A → Bool) (xs : List A) → ((x : A) → p x ≡ false) → filter p xs ≡ []
filter_none p [] h = refl
filter_none p (x ∷ xs) h = ap (λ b. cond b (x ∷ filter p xs) (filter p xs)) (h x) ∙ filter_none p xs h

pub filter_alike : {A : Type 0} (p q : A → Bool) (xs : List A) → ((x : A) → p x ≡ q x) → filter p xs ≡ filter q xs
filter_alike p q [] h = refl
filter_alike p q (x ∷ xs) h =
    ap (λ b. cond b (x ∷ filter p xs) (filter p xs)) (h x) ∙ ap (λ ys. cond (q x) (x ∷ ys) ys) (filter_alike p q xs h)

-- no slot is from `lo` on and below a smaller `hi`
past_both : (r s : Ordering) → (r ≡ Less → s ≡ Less) → (r ≡ Equal → s ≡ Less) → (is_le r && not (is_le s)) ≡ false
past_both Less s f g = ap (λ o. not (is_le o)) (f refl)
past_both Equal s f g = ap (λ o. not (is_le o)) (g refl)
past_both Greater s f g = refl

pub none_between : (lo hi : Slot) (m : Tables) → slot_cmp hi lo ≡ Less → cells_between lo hi m ≡ []
none_between lo hi m h = ap (map pair_of) (filter_none (λ (e : Entry). range_contains slot_cmp (Included lo) (Excluded hi) e.0) (entries m)
    (λ e. past_both (slot_cmp lo e.0) (slot_cmp hi e.0)
    (λ less. slots_total.trans hi lo e.0 h less)
    (λ same. sym (alike_right slots_total lo e.0 hi same) ∙ h)))

-- the bounds of the map are those of the span
module _ (t u : ℕ) (k from : List ℕ) where
  reversed : (b : ℕ) (bs : List ℕ) → not (is_le (bytes_cmp (b ∷ bs) k)) ≡ is_lt (bytes_cmp k (b ∷ bs))
  reversed b bs = flip (bytes_cmp k (b ∷ bs)) (bytes_cmp (b ∷ bs) k) (nat_list_cmp_total.antisymm (b ∷ bs) k)
    where
      flip : (r s : Ordering) → s ≡ ordering_reverse r → not (is_le s) ≡ is_lt r
      flip Less s e = ap (λ o. not (is_le o)) e
      flip Equal s e = ap (λ o. not (is_le o)) e
      flip Greater s e = ap (λ o. not (is_le o)) e

  none_first : is_le (bytes_cmp [] k) ≡ true
  none_first = at k
    where
      at : (ys : List ℕ) → is_le (bytes_cmp [] ys) ≡ true
      at [] = refl
      at (y ∷ ys) = refl

abbrev bounded : ℕ → List ℕ → Slot → Slot → Bool
bounded t from hi q = range_contains slot_cmp (Included (record { table = t; key = from })) (Excluded hi) q

apart_tables : (t u : ℕ) → t ≢ u → (u == t) ≡ false
apart_tables t u ne = at (u == t) (λ e. ne (sym (eqb-true u t e)))
  where
    at : (b : Bool) → (b ≡ true → ⊥) → b ≡ false
    at true f = absurd (f refl)
    at false f = refl

past_next : (t u : ℕ) (k : List ℕ) → t < u → is_le (ordering_then (nat_cmp (t + 1) u) (bytes_cmp [] k)) ≡ true
past_next t u k lt = at (nat_cmp (t + 1) u) (ranked (t + 1) u (nat_cmp (t + 1) u) refl)
  where
    at : (o : Ordering) → MatchOrdering o (t + 1 < u) (t + 1 ≡ u) (u < t + 1) → is_le (ordering_then o (bytes_cmp [] k)) ≡ true
    at Less h = refl
    at Equal h = none_first t u k []
    at Greater h = absurd (omega arith)

before_next : (t : ℕ) → nat_cmp (t + 1) t ≡ Greater
before_next t = at (nat_cmp (t + 1) t) (ranked (t + 1) t (nat_cmp (t + 1) t) refl)
  where
    at : (o : Ordering) → MatchOrdering o (t + 1 < t) (t + 1 ≡ t) (t < t + 1) → o ≡ Greater
    at Less h = absurd (omega arith)
    at Equal h = absurd (omega arith)
    at Greater h = refl

-- in a later table
later : (t : ℕ) (from before : List ℕ) (q : Slot) → nat_cmp t q.table ≡ Less → t < q.table → bounded t from (span_end t before) q ≡ ((q.table == t) && is_in_span from before q.key)
later t from [] q o lt =
    ap (λ r. is_le (ordering_then r (bytes_cmp from q.key)) && not (is_le (ordering_then (nat_cmp (t + 1) q.table) (bytes_cmp [] q.key)))) o
    ∙ ap not (past_next t q.table q.key lt)
    ∙ sym (ap (λ b. b && is_in_span from [] q.key) (apart_tables t q.table (omega arith)))
later t from (b ∷ bs) q o lt =
    ap (λ r. is_le (ordering_then r (bytes_cmp from q.key)) && not (is_le (ordering_then r (bytes_cmp (b ∷ bs) q.key)))) o
    ∙ sym (ap (λ c. c && is_in_span from (b ∷ bs) q.key) (apart_tables t q.table (omega arith)))

-- in an earlier one
earlier : (t : ℕ) (from before : List ℕ) (hi q : Slot) → nat_cmp t q.table ≡ Greater → q.table < t → bounded t from hi q ≡ ((q.table == t) && is_in_span from before q.key)
earlier t from before hi q o lt =
    ap (λ r. is_le (ordering_then r (bytes_cmp from q.key)) && not (is_le (slot_cmp hi q))) o
    ∙ sym (ap (λ b. b && is_in_span from before q.key) (apart_tables t q.table (omega arith)))

-- in the same one
within : (t : ℕ) (from before k : List ℕ) → bounded t from (span_end t before) (record { table = t; key = k }) ≡ ((t == t) && is_in_span from before k)
within t from [] k =
    ap (λ r. is_le (ordering_then r (bytes_cmp from k)) && not (is_le (ordering_then (nat_cmp (t + 1) t) (bytes_cmp [] k)))) (tied_itself nat_cmp_total t)
    ∙ ap (λ r. is_le (bytes_cmp from k) && not (is_le (ordering_then r (bytes_cmp [] k)))) (before_next t)
    ∙ with_true (is_le (bytes_cmp from k))
    ∙ sym (ap (λ b. b && is_le (bytes_cmp from k)) (eq-eqb t t refl))
  where
    with_true : (b : Bool) → (b && true) ≡ b
    with_true true = refl
    with_true false = refl
within t from (b ∷ bs) k =
    ap (λ r. is_le (ordering_then r (bytes_cmp from k)) && not (is_le (ordering_then r (bytes_cmp (b ∷ bs) k)))) (tied_itself nat_cmp_total t)
    ∙ ap (λ c. is_le (bytes_cmp from k) && c) (reversed t t k from b bs)
    ∙ sym (ap (λ c. c && is_in_span from (b ∷ bs) k) (eq-eqb t t refl))

same_bounds : (t : ℕ) (from before : List ℕ) (q : Slot) → bounded t from (span_end t before) q ≡ ((q.table == t) && is_in_span from before q.key)
same_bounds t from before q = at (nat_cmp t q.table) refl (ranked t q.table (nat_cmp t q.table) refl)
  where
    at : (o : Ordering) → nat_cmp t q.table ≡ o → MatchOrdering o (t < q.table) (t ≡ q.table) (q.table < t) → bounded t from (span_end t before) q ≡ ((q.table == t) && is_in_span from before q.key)
    at Less o h = later t from before q o h
    at Equal o h = subst (λ u. bounded t from (span_end t before) (record { table = u; key = q.key }) ≡ ((u == t) && is_in_span from before q.key)) h (within t from before q.key)
    at Greater o h = earlier t from before (span_end t before) q o h

-- the cells between the ends of a span are the span's
pub same_span : (t : ℕ) (from before : List ℕ) (m : Tables) → cells_between (record { table = t; key = from }) (span_end t before) m ≡ span_of t from before m
same_span t from before m =
    ap (map pair_of) (filter_alike (λ (e : Entry). bounded t from (span_end t before) e.0) (λ (e : Entry). (e.0.table == t) && is_in_span from before e.0.key) (entries m) (λ e. same_bounds t from before e.0))

-- ---- the order and the bounds of a span's cells

half_first : (a b : Bool) → T (a && b) → T a
half_first true b p = tt
half_first false b p = absurd p

half_second : (a b : Bool) → T (a && b) → T b
half_second true b p = p
half_second false b p = absurd p

less : (o : Ordering) → T (is_lt o) → o ≡ Less
less Less p = refl
less Equal p = absurd p
less Greater p = absurd p

key_of : Entry → List ℕ
key_of e = e.0.key

module _ (t : ℕ) (from before : List ℕ) where
  abbrev in_span : Entry → Bool
  in_span e = (e.0.table == t) && is_in_span from before e.0.key

  abbrev keys_in : List Entry → List (List ℕ)
  keys_in es = map (λ (p : List ℕ × List ℕ). p.0) (map pair_of (filter in_span es))

  same_table : (e d : Entry) → in_span e ≡ true → in_span d ≡ true → slot_cmp e.0 d.0 ≡ Less → bytes_cmp e.0.key d.0.key ≡ Less
  same_table e d h k lt =
      let u : e.0.table ≡ t = eqb-true e.0.table t (and_parts (e.0.table == t) (is_in_span from before e.0.key) h).0 in
      let v : d.0.table ≡ t = eqb-true d.0.table t (and_parts (d.0.table == t) (is_in_span from before d.0.key) k).0 in
      sym (ap (λ o. ordering_then o (bytes_cmp e.0.key d.0.key)) (ap (λ n. nat_cmp n d.0.table) (u ∙ sym v) ∙ tied_itself nat_cmp_total d.0.table)) ∙ lt

  below_kept : (e : Entry) (es : List Entry) → in_span e ≡ true → T (below_all slot_cmp e.0 es) → AllByRecursion (λ k. bytes_cmp e.0.key k ≡ Less) (keys_in es)
  below_kept e [] h p = tt
  below_kept e (d ∷ ds) h p = at (in_span d) refl (below_kept e ds h (half_second (is_lt (slot_cmp e.0 d.0)) (below_all slot_cmp e.0 ds) p))
    where
      at : (b : Bool) → in_span d ≡ b → AllByRecursion (λ k. bytes_cmp e.0.key k ≡ Less) (keys_in ds) → AllByRecursion (λ k. bytes_cmp e.0.key k ≡ Less) (map (λ (q : List ℕ × List ℕ). q.0) (map pair_of (cond b (d ∷ filter in_span ds) (filter in_span ds))))
      at true k rest = (same_table e d h k (less (slot_cmp e.0 d.0) (half_first (is_lt (slot_cmp e.0 d.0)) (below_all slot_cmp e.0 ds) p)), rest)
      at false k rest = rest

  keys_ascend : (es : List Entry) → T (is_sorted slot_cmp es) → IsStrictlySortedBy bytes_cmp (keys_in es)
  unfolding IsStrictlySortedBy
  keys_ascend [] p = tt
  keys_ascend (e ∷ es) p = at (in_span e) refl (keys_ascend es (half_second (below_all slot_cmp e.0 es) (is_sorted slot_cmp es) p))
    where
      at : (b : Bool) → in_span e ≡ b → IsStrictlySortedBy bytes_cmp (keys_in es) → IsStrictlySortedBy bytes_cmp (map (λ (q : List ℕ × List ℕ). q.0) (map pair_of (cond b (e ∷ filter in_span es) (filter in_span es))))
      at true h rest = (below_kept e es h (half_first (below_all slot_cmp e.0 es) (is_sorted slot_cmp es) p), rest)
      at false h rest = rest

  keys_within : (es : List Entry) → AllByRecursion (λ k. is_in_span from before k ≡ true) (keys_in es)
  keys_within [] = tt
  keys_within (e ∷ es) = at (in_span e) refl (keys_within es)
    where
      at : (b : Bool) → in_span e ≡ b → AllByRecursion (λ k. is_in_span from before k ≡ true) (keys_in es) → AllByRecursion (λ k. is_in_span from before k ≡ true) (map (λ (q : List ℕ × List ℕ). q.0) (map pair_of (cond b (e ∷ filter in_span es) (filter in_span es))))
      at true h rest = ((and_parts (e.0.table == t) (is_in_span from before e.0.key) h).1, rest)
      at false h rest = rest

all_take : {A : Type 0} (P : A → Type 0) (n : ℕ) (xs : List (A × List ℕ)) → AllByRecursion P (map (λ x. x.0) xs) → AllByRecursion P (map (λ x. x.0) (take n xs))
all_take P zero xs h = tt
all_take P (suc n) [] h = tt
all_take P (suc n) (x ∷ xs) h = (h.0, all_take P n xs h.1)

sorted_take : (n : ℕ) (xs : List (List ℕ × List ℕ)) → IsStrictlySortedBy bytes_cmp (map (λ x. x.0) xs) → IsStrictlySortedBy bytes_cmp (map (λ x. x.0) (take n xs))
unfolding IsStrictlySortedBy
sorted_take zero xs h = tt
sorted_take (suc n) [] h = tt
sorted_take (suc n) (x ∷ xs) h = (all_take (λ k. bytes_cmp x.0 k ≡ Less) n xs h.0, sorted_take n xs h.1)

sorted_limited : (n : ℕ) (xs : List (List ℕ × List ℕ)) → IsStrictlySortedBy bytes_cmp (map (λ x. x.0) xs) → IsStrictlySortedBy bytes_cmp (map (λ x. x.0) (limited n xs))
sorted_limited zero xs h = h
sorted_limited (suc n) xs h = sorted_take (suc n) xs h

all_limited : (P : List ℕ → Type 0) (n : ℕ) (xs : List (List ℕ × List ℕ)) → AllByRecursion P (map (λ x. x.0) xs) → AllByRecursion P (map (λ x. x.0) (limited n xs))
all_limited P zero xs h = h
all_limited P (suc n) xs h = all_take P (suc n) xs h

keys_are : (cells : List Cell) → map (λ c. c.key) cells ≡ map (λ x. x.0) (map cell_pair cells)
keys_are [] = refl
keys_are (c ∷ cs) = ap (λ ks. c.key ∷ ks) (keys_are cs)

cells_by_keys : (P : List ℕ → Type 0) (cells : List Cell) → AllByRecursion P (map (λ c. c.key) cells) → AllByRecursion (λ (c : Cell). P c.key) cells
cells_by_keys P [] h = tt
cells_by_keys P (c ∷ cs) h = (h.0, cells_by_keys P cs h.1)

module _ (t : ℕ) (from before : List ℕ) (n : ℕ) (m : Tables) (cells : List Cell) (is : map cell_pair cells ≡ limited n (span_of t from before m)) where
  keys_limited : map (λ c. c.key) cells ≡ map (λ x. x.0) (limited n (span_of t from before m))
  keys_limited = keys_are cells ∙ ap (map (λ (x : List ℕ × List ℕ). x.0)) is

  pub span_ascends : IsStrictlySortedBy bytes_cmp (map (λ c. c.key) cells)
  span_ascends = subst (IsStrictlySortedBy bytes_cmp) (sym keys_limited) (sorted_limited n (span_of t from before m) (keys_ascend t from before (entries m) (entries_sorted m)))

  pub span_within : All (λ (c : Cell). IsTrue (is_in_span from before c.key)) cells
  span_within = All-from_recursion (λ (c : Cell). IsTrue (is_in_span from before c.key)) cells
      (cells_by_keys (λ k. is_in_span from before k ≡ true) cells
      (subst (AllByRecursion (λ k. is_in_span from before k ≡ true)) (sym keys_limited)
      (all_limited (λ k. is_in_span from before k ≡ true) n (span_of t from before m) (keys_within t from before (entries m)))))

pub limited_none : {A : Type 0} (n : ℕ) → limited {A = A} n [] ≡ []
limited_none zero = refl
limited_none (suc n) = refl

pub none_limited : (cells : List Cell) (n : ℕ) (lo hi : Slot) (m : Tables) → cells ≡ [] → slot_cmp hi lo ≡ Less → map cell_pair cells ≡ limited n (cells_between lo hi m)
none_limited cells n lo hi m none h = ap (map cell_pair) none ∙ (sym (limited_none n) ∙ ap (limited n) (sym (none_between lo hi m h)))

pub not_past : (lo hi : Slot) → is_lt (slot_cmp hi lo) ≡ false → is_gt (slot_cmp lo hi) ≡ false
not_past lo hi h = at (slot_cmp hi lo) (slot_cmp lo hi) (slots_total.antisymm lo hi) h
  where
    at : (r s : Ordering) → s ≡ ordering_reverse r → is_lt r ≡ false → is_gt s ≡ false
    at Less s e h = cc
    at Equal s e h = ap is_gt e
    at Greater s e h = ap is_gt e

pub less_is : (r : Ordering) → is_lt r ≡ true → r ≡ Less
less_is Less h = refl
less_is Equal h = cc
less_is Greater h = cc
