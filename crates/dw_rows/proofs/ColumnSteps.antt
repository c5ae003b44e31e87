-- The columns of a header and the cells of a row, one after another.
use Rattle.std.proofs.Common.{◌≡◌, ℕ, zero, suc, ◌+◌, ◌<◌, ◌≤◌, Bool, true, false, cond, List, [], ◌∷◌, ◌++◌, length, map, take, drop, get_or, drop-cons, refl, sym, ap, ◌∙◌, arith, Option, Some, None, if◌then◌else◌, filter, count_by, add-one, Bor}
use Rattle.std.proofs.lemmas.List.Sums.{length-filter}
use Rattle.std.specs.Str.{bytes_eq}
use Rattle.csv.specs.Records.{field_at}
use Rattle.dw_rows.specs.Entries.{field_of}
use Rattle.dw_rows.specs.Gathering.{with_entries}
use Rattle.dw_rows.specs.CsvRecords.{columns_named, begins_with_at, column_entries, row_entries}
use Rattle.dw_rows.specs.declared.gathered.Gathered.{Gathered}
use Rattle.dw_rows.proofs.Steps.{entries_append}

next : (fields : List (List ℕ)) (i : ℕ) (x : List ℕ) → field_at fields i ≡ Some x → take i fields ++ x ∷ [] ≡ take (suc i) fields
unfolding field_at
next [] i x h = cc
next (f ∷ fs) zero x h = let is : f ≡ x = cc in ap (λ (y : List ℕ). y ∷ []) (sym is)
next (f ∷ fs) (suc i) x h = ap (λ ys. f ∷ ys) (next fs i x h)

-- the field at a place ends the fields up to it
pub one_more : (fields : List (List ℕ)) (i : ℕ) (x : List ℕ) → field_at fields i ≡ Some x → take i fields ++ x ∷ [] ≡ take (i + 1) fields
one_more fields i x h = rw (add-one i) (next fields i x h)

-- a field stands at each place before the end
pub is_there : (fields : List (List ℕ)) (i : ℕ) → field_at fields i ≡ None → length fields ≤ i
unfolding field_at
is_there [] i h = omega arith
is_there (f ∷ fs) zero h = cc
is_there (f ∷ fs) (suc i) h = omega (arith, is_there fs i h)

one_kept : {A B : Type 0} (b : Bool) (x : A) (xs : List A) (y : B) (ys : List B) → length xs ≡ length ys → length (cond b (x ∷ xs) xs) ≡ length (cond b (y ∷ ys) ys)
one_kept true x xs y ys h = ap suc h
one_kept false x xs y ys h = h

same_count : (name : List ℕ) (header : List (Bor (List ℕ))) → length (filter (λ n. bytes_eq n.now name) header) ≡ columns_named name (map (λ n. n.now) header)
same_count name [] = refl
same_count name (n ∷ ns) = one_kept (bytes_eq n.now name) n _ n.now _ (same_count name ns)

-- columns that are lent are counted by what they point to
pub counted : (name : List ℕ) (header : List (Bor (List ℕ))) → count_by (λ n. bytes_eq n.now name) header ≡ columns_named name (map (λ n. n.now) header)
counted name header = sym (length-filter (λ n. bytes_eq n.now name) header) ∙ same_count name header

-- a column more
columns_step : (vis : Option (List ℕ)) (g more : Gathered) (name cell : List ℕ) (names cells : List (List ℕ))
    → more ≡ with_entries g (if begins_with_at name then [] else column_entries (field_of name) vis cell)
    → with_entries g (row_entries vis (name ∷ names) (cell ∷ cells)) ≡ with_entries more (row_entries vis names cells)
columns_step vis g more name cell names cells h =
    entries_append g (if begins_with_at name then [] else column_entries (field_of name) vis cell) (row_entries vis names cells)
    ∙ ap (λ (m : Gathered). with_entries m (row_entries vis names cells)) (sym h)

-- the same at a place of the header and the row
pub columns_step_at : (vis : Option (List ℕ)) (g more : Gathered) (names cells : List (Bor (List ℕ))) (i : ℕ) (d : Bor (List ℕ))
    → i < length names → i < length cells
    → more ≡ with_entries g (if begins_with_at (get_or names i d).now then [] else column_entries (field_of (get_or names i d).now) vis (get_or cells i d).now)
    → with_entries g (row_entries vis (map (λ n. n.now) (drop i names)) (map (λ c. c.now) (drop i cells)))
    ≡ with_entries more (row_entries vis (map (λ n. n.now) (drop (i + 1) names)) (map (λ c. c.now) (drop (i + 1) cells)))
columns_step_at vis g more names cells i d below within h =
    rw (add-one i, drop-cons names i d, drop-cons cells i d)
    (columns_step vis g more (get_or names i d).now (get_or cells i d).now (map (λ n. n.now) (drop (suc i) names)) (map (λ c. c.now) (drop (suc i) cells)) h)

-- no more columns than the row has
pub columns_short : (vis : Option (List ℕ)) (names : List (List ℕ)) (cells : List (Bor (List ℕ))) (i : ℕ) → length cells ≤ i
    → row_entries vis names (map (λ c. c.now) (drop i cells)) ≡ []
columns_short vis [] cells i h = refl
columns_short vis (n ∷ ns) [] i h = rw (nothing_left i) refl
  where
    nothing_left : (k : ℕ) → drop {A = Bor (List ℕ)} k [] ≡ []
    nothing_left zero = refl
    nothing_left (suc k) = refl
columns_short vis (n ∷ ns) (c ∷ cs) zero h = absurd (omega arith)
columns_short vis (n ∷ ns) (c ∷ cs) (suc i) h = columns_short vis (n ∷ ns) cs i (omega arith)
