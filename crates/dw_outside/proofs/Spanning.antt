-- On spans of keys.
use Rattle.std.proofs.Common.{◌≡◌, ◌&&◌, ◌==◌, ◌++◌, ℕ, zero, suc, ◌<◌, inl, inr, Bool, true, false, cond, nat_eq, List, [], ◌∷◌, refl, sym, ap, ◌∙◌, map, arith}
use Rattle.std.specs.Prelude.{Option, Some, None, T}
use Rattle.std.specs.List.{filter, starts_with}
use Rattle.std.specs.Cmp.{nat_cmp_total, nat_cmp_is, unsigned_tied, eq_by_cmp_equiv}
use Rattle.std.proofs.lemmas.Cmp.{ranked}
use Rattle.std.proofs.lemmas.Bool.{cases_lt}
use Rattle.std.specs.Cmp.Lexicographic.{slice_cmp}
use Rattle.std.specs.Ordering.{nat_cmp, ordering_then, ordering_reverse, MatchOrdering, is_le, is_lt, is_eq}
use Rattle.std.specs.FinMap.{find, get, get-entries, entries, entries_sorted, is_sorted}
use Rattle.std.specs.FinMap.Entries.{below_all}
use Rattle.std.specs.declared.cmp.Ordering.{Ordering}
use Rattle.std.specs.declared.cmp.Ordering.TheVariants.{Less, Equal, Greater}
use Rattle.dw_outside.specs.declared.slot.Slot.{Slot}
use Rattle.dw_outside.specs.Tables.{Tables, slot_cmp, is_slot, is_in_span, span_of, limited}
use Rattle.dw_outside.specs.TableLaws.{cell_of, OneKeyIsRead, PrefixesAreSpans}
use Rattle.dw_outside.proofs.SpanCells.{filter_alike}
use Rattle.dw_outside.proofs.CellMaps.{same_slot}
use Rattle.dw_outside.proofs.Batches.{above_none, first_part, second_part}

back : (a b : ℕ) (r : Ordering) → nat_cmp a b ≡ r → nat_cmp b a ≡ ordering_reverse r
back a b r e = nat_cmp_total.antisymm b a ∙ ap ordering_reverse e

none_below : (y : ℕ) (ys : List ℕ) → is_lt (slice_cmp nat_cmp (y ∷ ys) (0 ∷ [])) ≡ false
none_below zero [] = refl
none_below zero (z ∷ zs) = refl
none_below (suc y) ys = ap (λ r. is_lt (ordering_then r (slice_cmp nat_cmp ys []))) (sym (nat_cmp_is (suc y) 0 Greater (omega arith)))

-- what is at least a key and below it with a byte 0 is the key
one_key : (k x : List ℕ) → (is_le (slice_cmp nat_cmp k x) && is_lt (slice_cmp nat_cmp x (k ++ 0 ∷ []))) ≡ is_eq (slice_cmp nat_cmp k x)
one_key [] [] = refl
one_key [] (y ∷ ys) = none_below y ys
one_key (a ∷ k) [] = refl
one_key (a ∷ k) (y ∷ x) = at (nat_cmp a y) refl (one_key k x)
  where
    at : (r : Ordering) → nat_cmp a y ≡ r → (is_le (slice_cmp nat_cmp k x) && is_lt (slice_cmp nat_cmp x (k ++ 0 ∷ []))) ≡ is_eq (slice_cmp nat_cmp k x)
        → (is_le (ordering_then r (slice_cmp nat_cmp k x)) && is_lt (ordering_then (nat_cmp y a) (slice_cmp nat_cmp x (k ++ 0 ∷ [])))) ≡ is_eq (ordering_then r (slice_cmp nat_cmp k x))
    at Less e r = ap (λ q. is_lt (ordering_then q (slice_cmp nat_cmp x (k ++ 0 ∷ [])))) (back a y Less e)
    at Equal e r = ap (λ q. is_le (slice_cmp nat_cmp k x) && is_lt (ordering_then q (slice_cmp nat_cmp x (k ++ 0 ∷ [])))) (back a y Equal e) ∙ r
    at Greater e r = refl

same_number : (a b : ℕ) (r : Ordering) → nat_cmp a b ≡ r → nat_eq a b ≡ is_eq r
same_number a b r e = sym (unsigned_tied a b) ∙ ap is_eq e

le_nothing : (ys : List ℕ) → is_le (slice_cmp nat_cmp [] ys) ≡ true
le_nothing [] = refl
le_nothing (y ∷ ys) = refl

lt_nothing : (r : Ordering) (ys : List ℕ) → is_lt r ≡ false → is_lt (ordering_then r (slice_cmp nat_cmp ys [])) ≡ false
lt_nothing Less ys h = cc
lt_nothing Equal [] h = refl
lt_nothing Equal (y ∷ ys) h = refl
lt_nothing Greater ys h = refl

not_lower : (b y : ℕ) → b < y → is_lt (nat_cmp y (suc b)) ≡ false
not_lower b y h = elim (cases_lt (suc b) y) [
  | inl lt ↦ ap is_lt (sym (nat_cmp_is y (suc b) Greater lt))
  | inr ge ↦ ap is_lt (sym (nat_cmp_is y (suc b) Equal (omega arith)))
]

above_prefix : (b y : ℕ) (ys : List ℕ) → (is_le (slice_cmp nat_cmp (b ∷ []) (y ∷ ys)) && is_lt (slice_cmp nat_cmp (y ∷ ys) (suc b ∷ []))) ≡ (nat_eq b y && true)
above_prefix b y ys = at (nat_cmp b y) refl (ranked b y (nat_cmp b y) refl)
  where
    at : (r : Ordering) → nat_cmp b y ≡ r → MatchOrdering r (b < y) (b ≡ y) (y < b)
        → (is_le (ordering_then r (slice_cmp nat_cmp [] ys)) && is_lt (ordering_then (nat_cmp y (suc b)) (slice_cmp nat_cmp ys []))) ≡ (nat_eq b y && true)
    at Less e h = lt_nothing (nat_cmp y (suc b)) ys (not_lower b y h) ∙ ap (λ c. c && true) (sym (same_number b y Less e))
    at Equal e h = ap (λ c. c && is_lt (ordering_then (nat_cmp y (suc b)) (slice_cmp nat_cmp ys []))) (le_nothing ys)
        ∙ ap (λ r. is_lt (ordering_then r (slice_cmp nat_cmp ys []))) (sym (nat_cmp_is y (suc b) Less (omega arith)))
        ∙ ap (λ c. c && true) (sym (same_number b y Equal e))
    at Greater e h = ap (λ c. c && true) (sym (same_number b y Greater e))

prefixed : (f : List ℕ) (b : ℕ) (x : List ℕ) → (is_le (slice_cmp nat_cmp (f ++ b ∷ []) x) && is_lt (slice_cmp nat_cmp x (f ++ suc b ∷ []))) ≡ starts_with nat_eq x (f ++ b ∷ [])
prefixed [] b [] = refl
prefixed [] b (y ∷ ys) = above_prefix b y ys
prefixed (a ∷ f) b [] = refl
prefixed (a ∷ f) b (y ∷ x) = at (nat_cmp a y) refl (prefixed f b x)
  where
    at : (r : Ordering) → nat_cmp a y ≡ r → (is_le (slice_cmp nat_cmp (f ++ b ∷ []) x) && is_lt (slice_cmp nat_cmp x (f ++ suc b ∷ []))) ≡ starts_with nat_eq x (f ++ b ∷ [])
        → (is_le (ordering_then r (slice_cmp nat_cmp (f ++ b ∷ []) x)) && is_lt (ordering_then (nat_cmp y a) (slice_cmp nat_cmp x (f ++ suc b ∷ [])))) ≡ (nat_eq a y && starts_with nat_eq x (f ++ b ∷ []))
    at Less e h = ap (λ q. is_lt (ordering_then q (slice_cmp nat_cmp x (f ++ suc b ∷ [])))) (back a y Less e) ∙ ap (λ c. c && starts_with nat_eq x (f ++ b ∷ [])) (sym (same_number a y Less e))
    at Equal e h = ap (λ q. is_le (slice_cmp nat_cmp (f ++ b ∷ []) x) && is_lt (ordering_then q (slice_cmp nat_cmp x (f ++ suc b ∷ [])))) (back a y Equal e) ∙ h
        ∙ ap (λ c. c && starts_with nat_eq x (f ++ b ∷ [])) (sym (same_number a y Equal e))
    at Greater e h = ap (λ c. c && starts_with nat_eq x (f ++ b ∷ [])) (sym (same_number a y Greater e))

span_above : (from k : List ℕ) (c : ℕ) (key : List ℕ) → is_in_span from (k ++ c ∷ []) key ≡ (is_le (slice_cmp nat_cmp from key) && is_lt (slice_cmp nat_cmp key (k ++ c ∷ [])))
span_above from [] c key = refl
span_above from (a ∷ k) c key = refl

pub prefix_span : PrefixesAreSpans
prefix_span front b key = span_above (front ++ b ∷ []) front (suc b) key ∙ prefixed front b key

tables_tie : (m n : ℕ) (b : Bool) (o : Ordering) → b ≡ is_eq o → ((m == n) && b) ≡ is_eq (ordering_then (nat_cmp n m) o)
tables_tie m n b o e =
    ap (λ c. c && b) (sym (unsigned_tied m n) ∙ (eq_by_cmp_equiv nat_cmp_total).symm m n)
    ∙ ap (λ c. is_eq (nat_cmp n m) && c) e
    ∙ at (nat_cmp n m)
  where
    at : (r : Ordering) → (is_eq r && is_eq o) ≡ is_eq (ordering_then r o)
    at Less = refl
    at Equal = refl
    at Greater = refl

-- the entry of a slot, where it has a content
abbrev entry_of : Slot → Option (List ℕ) → List (Slot × List ℕ)
entry_of s None = []
entry_of s (Some content) = (s, content) ∷ []

filter_one : (es : List (Slot × List ℕ)) (s : Slot) → T (is_sorted slot_cmp es) → filter (λ e. is_slot s e.0) es ≡ entry_of s (find slot_cmp s es)
filter_one [] s h = refl
filter_one (e ∷ es) s h = at (is_slot s e.0) refl (filter_one es s (second_part (below_all slot_cmp e.0 es) _ h))
  where
    at : (b : Bool) → is_slot s e.0 ≡ b → filter (λ e. is_slot s e.0) es ≡ entry_of s (find slot_cmp s es)
        → cond b (e ∷ filter (λ e. is_slot s e.0) es) (filter (λ e. is_slot s e.0) es) ≡ entry_of s (cond b (Some e.1) (find slot_cmp s es))
    at true p r =
        let q : s ≡ e.0 = same_slot s e.0 p in
        ap (λ (xs : List (Slot × List ℕ)). e ∷ xs) (r ∙ ap (entry_of s) (above_none es s e.0 q (first_part _ _ h)))
        ∙ ap (λ x. (x, e.1) ∷ []) (sym q)
    at false p r = r

abbrev pair_of : Slot × List ℕ → List ℕ × List ℕ
pair_of e = (e.0.key, e.1)

entry_pair : (s : Slot) (o : Option (List ℕ)) → map pair_of (entry_of s o) ≡ cell_of s.key o
entry_pair s None = refl
entry_pair s (Some content) = refl

pub one_key_span : OneKeyIsRead
one_key_span m s =
    ap (map pair_of) (
    filter_alike (λ e. (e.0.table == s.table) && is_in_span s.key (s.key ++ 0 ∷ []) e.0.key) (λ e. is_slot s e.0) (entries m)
    (λ e. ap (λ b. (e.0.table == s.table) && b) (span_above s.key s.key 0 e.0.key ∙ one_key s.key e.0.key) ∙ tables_tie e.0.table s.table _ _ refl)
    ∙ filter_one (entries m) s (entries_sorted m))
    ∙ entry_pair s (find slot_cmp s (entries m))
    ∙ ap (cell_of s.key) (sym (get-entries m s))

limited_one : (k : List ℕ) (o : Option (List ℕ)) → limited 1 (cell_of k o) ≡ cell_of k o
limited_one k None = refl
limited_one k (Some content) = refl

pub read_one : (t : Tables) (s : Slot) (from before : List ℕ) → from ≡ s.key → before ≡ s.key ++ 0 ∷ [] → limited 1 (span_of s.table from before t) ≡ cell_of s.key (get t s)
read_one t s from before f b =
    ap (λ k. limited 1 (span_of s.table k before t)) f
    ∙ ap (λ k. limited 1 (span_of s.table s.key k t)) b
    ∙ ap (limited 1) (one_key_span t s)
    ∙ limited_one s.key (get t s)
